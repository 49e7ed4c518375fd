pub mod Notes
pub mod Chains
pub mod Promise
