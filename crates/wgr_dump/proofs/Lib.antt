pub mod Digits
pub mod JoinLemmas
pub mod LawLemmas
pub mod LineLemmas
pub mod PartLemmas
pub mod TakingLemmas
pub mod MeantLemmas
