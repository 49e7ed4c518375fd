pub mod Steps
pub mod Searches
pub mod Mixes
