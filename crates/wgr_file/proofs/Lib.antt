pub mod FileLemmas
pub mod HonestLemmas
