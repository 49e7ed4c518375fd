pub mod Plans
pub mod Openings
pub mod Runs
pub mod Laws
pub mod Orders
