pub mod Choices
pub mod Tolls
pub mod Sums
pub mod Narrowing
pub mod Searching
pub mod Settling
