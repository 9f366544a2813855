pub mod Whole
pub mod Good
pub mod Outlines
pub mod Migrated
