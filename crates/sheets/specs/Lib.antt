pub mod Turns
pub mod Kinds
pub mod Letters
pub mod Reading
pub mod Sets
pub mod Fours
pub mod Fields
