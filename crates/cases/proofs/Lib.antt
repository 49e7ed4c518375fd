pub mod Few
pub mod Units
pub mod Rests
pub mod Sheets
pub mod Orders
pub mod Scripts
pub mod Settlings
