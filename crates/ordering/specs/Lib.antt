pub mod Sets
pub mod Answers
pub mod Steps
pub mod Filling
