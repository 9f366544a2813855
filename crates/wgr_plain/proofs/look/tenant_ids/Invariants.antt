use Rattle.std.proofs.Common.{◌≡◌, map, take}
use Rattle.wgr_model.specs.Register.{Tenant}
use Rattle.wgr_plain.proofs.look.tenant_ids.Given as goal

abbrev pub invariant-loop-tenant : goal.invariant-loop-tenant
invariant-loop-tenant l = l.ids.items ≡ map (λ (t : Tenant). t.id) (take l.tenant-index l.tenants)
