pub mod EndpointLemmas
pub mod Examples
pub mod LineLemmas
pub mod OrderLemmas
pub mod ReadingLemmas
pub mod SentLemmas
