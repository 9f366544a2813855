pub mod AgainLemmas
pub mod FuseLemmas
pub mod KeptLemmas
