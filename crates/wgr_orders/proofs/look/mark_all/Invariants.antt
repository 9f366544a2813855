use Rattle.std.proofs.Common.{◌≡◌, ◌<◌, ◌||◌, ℕ, length, nat_eq, slice_index_or, false, take}
use Rattle.std.specs.List.{list_any}
use Rattle.wgr_orders.proofs.look.mark_all.Given as goal

-- the ids before are marked
abbrev pub invariant-loop-id : goal.invariant-loop-id
invariant-loop-id l = record {
  len : length l.used ≡ length l.fn.used;
  marked : (id : ℕ) → id < length l.fn.used → slice_index_or l.used id false ≡ (slice_index_or l.fn.used id false || list_any (nat_eq id) (take l.id-index l.ids));
}
