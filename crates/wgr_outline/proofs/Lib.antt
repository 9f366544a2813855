pub mod FloorLemmas
pub mod AfterLemmas
