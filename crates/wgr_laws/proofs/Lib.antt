-- Look-ups in lists and the longest match.
pub mod MapLemmas
pub mod ChangeLemmas
pub mod LowestLemmas
pub mod MatchLemmas
pub mod UniqueMatch
pub mod RouteOwners
-- One command: what it makes of its own peer, and what it leaves.
pub mod OwnPeers
pub mod FrameLemmas
pub mod FormLemmas
pub mod NextSteps
pub mod NextLemmas
-- Later moments, and whole runs of commands.
pub mod LaterLemmas
pub mod RunLemmas
-- Adoption: its order, its lines, and what it leaves.
pub mod KeyedLemmas
pub mod AdoptionOrder
pub mod LineCases
pub mod AdoptNext
pub mod AdoptedPeers
pub mod AdoptCounts
pub mod FaithLemmas
pub mod SeenOwners
pub mod RepeatLemmas
-- The definitions on small networks, by computation.
pub mod Examples
pub mod CheckOrder
pub mod AdoptionExamples
pub mod OnExamples
