pub mod Faults
pub mod Meaning
pub mod Rails
pub mod Making
pub mod Benches
pub mod Ramp
pub mod Relay
