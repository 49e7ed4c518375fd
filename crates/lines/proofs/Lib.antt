pub mod Filters
pub mod Turns
pub mod Owed
pub mod Holding
