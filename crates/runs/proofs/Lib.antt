pub mod Places
pub mod Links
pub mod Turns
pub mod Outcomes
pub mod Forms
