pub mod Kept
pub mod Counts
pub mod Readings
