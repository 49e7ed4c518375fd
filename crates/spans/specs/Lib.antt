pub mod Safety
pub mod Judging
pub mod Picking
pub mod Searching
pub mod Cases
pub mod Moving
