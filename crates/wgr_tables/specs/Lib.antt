pub mod TableSteps
pub mod Loads
pub mod Writes
pub mod Standing
pub mod Stored
pub mod Stops
