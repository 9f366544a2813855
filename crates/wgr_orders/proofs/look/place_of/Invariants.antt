use Rattle.std.proofs.Common.{◌≡◌, ◌++◌, drop, take}
use Rattle.wgr_core.specs.Network.{NetworkValue}
use Rattle.wgr_model.specs.Steps.{network_at, with_network}
use Rattle.wgr_orders.proofs.look.place_of.Given as goal

-- no network before is the tenant's of the name
abbrev pub invariant-loop-place : goal.invariant-loop-place
invariant-loop-place l = record {
  found : network_at l.networks l.id l.name ≡ network_at (drop l.place l.networks) l.id l.name;
  put : (n : NetworkValue) → with_network l.networks l.id l.name n ≡ take l.place l.networks ++ with_network (drop l.place l.networks) l.id l.name n;
}
