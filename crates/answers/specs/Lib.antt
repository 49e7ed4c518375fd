pub mod Checks
pub mod Sequels
pub mod Refusals
