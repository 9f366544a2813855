use Rattle.std.proofs.Common.{◌≡◌, ◌<◌, length, drop, slice_index_or}
use Rattle.wgr_model.specs.Register.{Bytes}
use Rattle.wgr_model.specs.Steps.{first_of}
use Rattle.wgr_orders.proofs.overlap.first_of.Given as goal

-- the first ones up to here, and then those that follow
abbrev pub invariant-loop-place : goal.invariant-loop-place
invariant-loop-place l = record {
  within : l.first < length l.names;
  first : (d : Bytes × Bytes) → first_of (slice_index_or l.names l.first d) (drop l.place l.names) ≡ first_of (slice_index_or l.names 0 d) (drop 1 l.names);
}
