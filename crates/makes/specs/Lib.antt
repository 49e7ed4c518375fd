pub mod Calls
pub mod Laws
pub mod Cases
pub mod Meant
