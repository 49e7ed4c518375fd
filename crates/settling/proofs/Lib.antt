pub mod Costs
pub mod Drafts
pub mod Endings
pub mod Holds
pub mod Hopes
pub mod Once
pub mod Prefixes
pub mod Searches
