pub mod Orders
pub mod Sequels
