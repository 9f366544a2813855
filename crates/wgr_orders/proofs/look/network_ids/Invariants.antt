use Rattle.std.proofs.Common.{◌≡◌, map, take}
use Rattle.wgr_model.specs.Register.{NetworkEntry}
use Rattle.wgr_orders.proofs.look.network_ids.Given as goal

abbrev pub invariant-loop-network_entry : goal.invariant-loop-network_entry
invariant-loop-network_entry l = l.ids.items ≡ map (λ (h : NetworkEntry). h.id) (take l.network_entry-index l.networks)
