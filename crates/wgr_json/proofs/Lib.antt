pub mod Ascii
pub mod Examples
pub mod Items
