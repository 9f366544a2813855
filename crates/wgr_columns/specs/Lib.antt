pub mod Layout
pub mod LaidOut
pub mod Texts
pub mod Decode
pub mod Stored
pub mod Fields
pub mod Parameters
pub mod Settings
