pub mod PrefixTests
pub mod Pool
pub mod Spans
pub mod Runs
pub mod Allot
pub mod HeldSpans
pub mod Rising
pub mod Waiting
