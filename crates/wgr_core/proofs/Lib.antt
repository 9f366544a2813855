-- Lists: what is found, kept and put in order.
pub mod AloneLemmas
pub mod LookLemmas
pub mod WalkLemmas
pub mod Arranged
-- The rules of a network: what parts make one, and what leaves one.
pub mod PartsLemmas
pub mod AllowedLemmas
pub mod KeptLemmas
pub mod JoinLemmas
pub mod ReplaceLemmas
pub mod RoutedKeeps
pub mod MoveLemmas
pub mod LeaveLemmas
pub mod ApplyLemmas
-- The live network, and what is found of it.
pub mod LiveLemmas
pub mod LiveLooks
pub mod FreedLemmas
pub mod OwnerLemmas
pub mod ViewLemmas
-- Commands and their outcomes.
pub mod CommandLemmas
pub mod OutcomeCases
pub mod OutcomeLemmas
pub mod RerouteLemmas
-- Adoption: a line, the lines in turn, and the change that comes of them.
pub mod LineLemmas
pub mod LineAsks
pub mod AdoptSteps
pub mod AdoptKeeps
pub mod AdoptingLemmas
pub mod AlteredLemmas
pub mod PutRouteLemmas
