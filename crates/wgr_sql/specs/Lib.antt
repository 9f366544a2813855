pub mod Effects
pub mod Keyed
pub mod Calls
pub mod Causes
pub mod Faults
pub mod Steps
pub mod Standing
pub mod Named
