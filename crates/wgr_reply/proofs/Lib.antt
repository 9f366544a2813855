pub mod BodyExamples
pub mod ReplyExamples
pub mod StatusLemmas
