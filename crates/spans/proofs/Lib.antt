pub mod Steps
pub mod Mixes
pub mod Moves
pub mod Picked
