pub mod Board
pub mod Sheets
pub mod Moves
pub mod Demands
