pub mod Faults
pub mod Rails
pub mod Spans
pub mod Plans
pub mod Runs
pub mod Laws
pub mod Orders
