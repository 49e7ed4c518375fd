pub mod Opening
pub mod Kept
pub mod Safety
pub mod Ends
pub mod Due
pub mod Arrival
pub mod Orders
pub mod Lows
