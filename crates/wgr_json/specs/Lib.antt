pub mod Sending
pub mod Values
pub mod Whole
