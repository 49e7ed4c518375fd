pub mod Inputs
pub mod Texts
pub mod Listings
pub mod Reports
