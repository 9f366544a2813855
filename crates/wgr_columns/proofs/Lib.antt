-- Numbers and their bytes, hosts, and what stored values are read as.
pub mod ByteLemmas
pub mod HostLemmas
pub mod FieldLemmas
-- The tables, and what statements mean over them.
pub mod DefinedLemmas
pub mod Statements
