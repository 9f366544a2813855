-- Lists: what is true of each element, and of each and the next.
pub mod ListLemmas
pub mod SortedLemmas
pub mod AmongLemmas
-- What the queries show.
pub mod Queries
pub mod TokenQueries
pub mod NetworkQueries
pub mod MemberQueries
pub mod SelectLemmas
pub mod LaterQueries
pub mod ReaderQueries
-- What the listed rows tell of all rows of a table.
pub mod KeyLemmas
pub mod TenantLemmas
pub mod TokenLemmas
pub mod ReaderLemmas
pub mod NetworkLemmas
pub mod RowLemmas
pub mod TableLemmas
pub mod StreamLemmas
pub mod MemberLemmas
-- Rows that pass the tests are those of a consistent register.
pub mod TenantLaws
pub mod TokenLaws
pub mod ReaderLaws
pub mod NetworkLaws
pub mod MemberLaws
-- Why a reading ends by a fault.
pub mod CauseLemmas
pub mod NextLemmas
pub mod WalkCauses
