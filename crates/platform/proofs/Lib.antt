pub mod Building
pub mod Checking
pub mod Numbered
pub mod Regular
pub mod Made
pub mod Asking
