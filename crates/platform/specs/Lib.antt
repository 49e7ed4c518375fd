pub mod Units
pub mod Rules
pub mod Devices
pub mod Describing
pub mod Making
pub mod Resting
pub mod Inquiries
