pub mod ApartLemmas
pub mod WholeLemmas
pub mod OutlineLemmas
pub mod JoinLemmas
pub mod ConsistentLemmas
pub mod GoodLemmas
pub mod MigrateLemmas
