pub mod Assigned
mod Examples
pub mod Lacking
pub mod Live
pub mod Reading
pub mod ServerReading
