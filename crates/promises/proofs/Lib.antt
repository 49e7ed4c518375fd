pub mod Pairs
pub mod Meant
pub mod Going
pub mod Noting
pub mod Promises
