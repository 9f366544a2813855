pub mod CopyLemmas
pub mod ActLemmas
pub mod StepLemmas
pub mod ServeLemmas
