pub mod Lookups
pub mod OrderSteps
pub mod Kept
pub mod Stops
pub mod ThirdVersion
pub mod Readers
