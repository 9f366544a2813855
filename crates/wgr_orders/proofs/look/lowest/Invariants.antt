use Rattle.std.proofs.Common.{◌≡◌, ℕ, ◌<◌, ◌≤◌, ◌-◌, true, nat_eq}
use Rattle.std.specs.List.{list_any}
use Rattle.wgr_model.specs.Consistent.{IsId}
use Rattle.wgr_orders.proofs.look.lowest.Given as goal

-- the ids below are used
abbrev pub invariant-loop-id : goal.invariant-loop-id
invariant-loop-id l = record {
  is_id : IsId l.id;
  used : (k : ℕ) → 1 ≤ k → k < l.id → list_any (nat_eq k) l.ids ≡ true;
}

abbrev pub decreases-loop-id : goal.decreases-loop-id
decreases-loop-id l = 65536 - l.id
