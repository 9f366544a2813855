pub mod Bodies
pub mod Refused
pub mod Response
pub mod Shown
pub mod StatusLine
pub mod Whole
