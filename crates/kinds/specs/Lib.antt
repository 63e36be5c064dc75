pub mod Accounts
pub mod Stocks
pub mod AccountBytes
pub mod StockBytes
