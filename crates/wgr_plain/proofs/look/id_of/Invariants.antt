use Rattle.std.proofs.Common.{◌≡◌, drop}
use Rattle.wgr_model.specs.Register.{id_of}
use Rattle.wgr_plain.proofs.look.id_of.Given as goal

-- no tenant before has the name
abbrev pub invariant-loop-tenant : goal.invariant-loop-tenant
invariant-loop-tenant l = id_of l.tenants l.name ≡ id_of (drop l.tenant-index l.tenants) l.name
