use Rattle.std.proofs.Common.{◌≡◌, ◌<◌, ℕ, [], slice_index_or, true}
use Rattle.std.specs.List.{list_any}
use Rattle.std.specs.List.Sorted.{IsSorted}
use Rattle.std.specs.Ordering.{nat_cmp}
use Rattle.std.specs.Cmp.Lexicographic.{slice_cmp}
use Rattle.wgr_model.specs.Register.{is_same}
use Rattle.wgr_checks.proofs.readers.are_of_these.Given as goal

abbrev pub invariant-loop-digest : goal.invariant-loop-digest
invariant-loop-digest l = IsSorted (slice_cmp nat_cmp) l.all → (k : ℕ) → k < l.digest-index → list_any (is_same (slice_index_or l.digests k [])) l.all ≡ true
