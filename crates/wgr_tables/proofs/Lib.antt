-- Values: numbers and bytes, texts, hosts, and what stored values are read as.
pub mod SameBytes
pub mod PlaceLemmas
-- The tables, and what the statements mean over them.
pub mod LayoutLemmas
pub mod Meanings
pub mod EditLemmas
pub mod WriteLemmas
pub mod WrittenLemmas
pub mod UniqueLemmas
pub mod AllowedLemmas
pub mod PeerLemmas
pub mod NextLemmas
pub mod DropLemmas
pub mod RangeDrops
pub mod RangeLemmas
pub mod NewRoutes
-- What a call leaves, and the rows between the steps of a commit.
pub mod Made
pub mod Commits
pub mod Rests
pub mod RestLemmas
pub mod LeftRows
pub mod PeersGone
pub mod PeersCome
pub mod PeerRests
pub mod RouteRests
pub mod CommitRows
-- What the queries show, and the network that it tells.
pub mod ReadLemmas
pub mod QuerySteps
pub mod FirstRow
pub mod FewRows
pub mod ListedLemmas
pub mod SortedRows
pub mod StoredLemmas
pub mod ArrangeLemmas
pub mod LoadLemmas
pub mod ToldLemmas
pub mod AskedLemmas
-- Why a step, a change or a commit fails, and steps in a loop.
pub mod StopLemmas
pub mod ChangeStops
pub mod Loops
pub mod CommitFails
