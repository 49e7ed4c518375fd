pub mod Kept
pub mod Ramps
pub mod Relays
pub mod Layers
pub mod Rows
