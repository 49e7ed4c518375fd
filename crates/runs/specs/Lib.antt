pub mod Steps
pub mod Journeys
pub mod Working
pub mod Faults
pub mod Opening
