-- Its own row, and those of its peers.
pub mod OwnRows
pub mod HeadLemmas
pub mod KeyLemmas
pub mod OwnedLemmas
-- The peer to which a prefix leads.
pub mod LeadTexts
pub mod LeadShown
pub mod NetworkRows
pub mod LeadLemmas
pub mod MatchLemmas
pub mod OwnerRows
-- The rows that hold addresses.
pub mod Spelled
pub mod Meaning
pub mod HoldLemmas
pub mod Coming
pub mod SelectLemmas
pub mod HeldLemmas
pub mod FewLemmas
pub mod ReadLemmas
pub mod StopLemmas
pub mod FreeLemmas
-- Commands.
pub mod ActLemmas
