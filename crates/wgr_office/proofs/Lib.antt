pub mod OfficeLemmas
pub mod RunLemmas
pub mod WorldLemmas
pub mod ServeLemmas
pub mod ServeExamples
pub mod SecretLemmas
pub mod TenantExamples
pub mod BetweenLemmas
