pub mod Calc
pub mod Laws
