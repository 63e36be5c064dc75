mod Cuts
mod Pairs
mod Values
