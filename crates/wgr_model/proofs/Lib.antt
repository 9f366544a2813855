-- Lists and bytes: look-ups, places, and lists in another order.
pub mod LookLemmas
pub mod MemberLemmas
pub mod PoolLemmas
-- What a tenant sees: each event, its answer, and the order of entries.
pub mod ViewLemmas
pub mod SeenLemmas
pub mod AnswerLemmas
pub mod SameLemmas
pub mod OrderLemmas
pub mod ListingLemmas
-- Single steps on a good register.
pub mod KeptLemmas
pub mod HolderLemmas
pub mod StepLemmas
pub mod CallLemmas
pub mod OrderSteps
pub mod NewNetworkLemmas
-- Runs, and the law of two worlds.
pub mod RunLemmas
pub mod WorldLemmas
-- The same over rows.
pub mod CollectLemmas
pub mod GatherLemmas
pub mod CommitLemmas
pub mod RuleLemmas
pub mod ExistLemmas
pub mod OrderRowLemmas
pub mod AskRowLemmas
pub mod ReaderLemmas
pub mod RowRunLemmas
pub mod RowWorldLemmas
pub mod StopLemmas
-- The definitions on small registers, by computation.
pub mod Examples
pub mod RowExamples
pub mod AloneExamples
