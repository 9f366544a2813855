-- Lists in order: an item put in its place, sought and found.
pub mod OrderedLemmas
pub mod PlaceLemmas
pub mod PutLemmas
pub mod NumberLemmas
-- Peers, and the indexes of a table of them.
pub mod PeerLemmas
pub mod HeldLemmas
pub mod TableLemmas
pub mod IndexLemmas
pub mod LeftLemmas
pub mod ExchangeLemmas
pub mod CollectLemmas
pub mod DraftedLemmas
pub mod TestLemmas
-- Routes.
pub mod RouteLemmas
pub mod SlotLemmas
pub mod RouteLengths
-- Texts of fields.
pub mod TextLemmas
pub mod EndpointExamples
