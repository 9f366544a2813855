use Rattle.std.proofs.Common.{◌≡◌, ℕ, ◌<◌, ◌≤◌, ◌-◌, slice_index_or, length, true, nat_eq}
use Rattle.std.specs.List.{list_any}
use Rattle.std.specs.List.Sorted.{IsSorted}
use Rattle.std.specs.Ordering.{nat_cmp}
use Rattle.wgr_checks.proofs.owners.are_among.Given as goal

-- each owner that was passed is there; where the owners do not fall, each id that was passed is below the owners to come
abbrev pub invariant-loop-owner : goal.invariant-loop-owner
invariant-loop-owner l = ((k : ℕ) → k < l.owner-index → list_any (λ id. nat_eq (slice_index_or l.owners k 0) id) l.ids ≡ true)
    × (IsSorted nat_cmp l.owners → (k j : ℕ) → k < l.next → l.owner-index ≤ j → j < length l.owners → slice_index_or l.ids k 0 < slice_index_or l.owners j 0)

abbrev pub invariant-loop-next : goal.invariant-loop-next
invariant-loop-next l = ((k : ℕ) → k < l.owner-index → list_any (λ id. nat_eq (slice_index_or l.owners k 0) id) l.ids ≡ true)
    × (IsSorted nat_cmp l.owners → (k j : ℕ) → k < l.next → l.owner-index ≤ j → j < length l.owners → slice_index_or l.ids k 0 < slice_index_or l.owners j 0)

abbrev pub decreases-loop-next : goal.decreases-loop-next
decreases-loop-next l = length l.ids - l.next
