pub mod Entries
pub mod Figures
pub mod Json
pub mod Metrics
pub mod Owned
pub mod Shown
pub mod Whole
