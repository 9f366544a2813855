pub mod BatchLemmas
pub mod ConnectionLemmas
pub mod CountLemmas
pub mod Examples
pub mod LineLemmas
pub mod ReadingLemmas
pub mod TextLemmas
