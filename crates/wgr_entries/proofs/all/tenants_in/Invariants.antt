use Rattle.std.proofs.Common.{◌≡◌, map, take}
use Rattle.wgr_columns.specs.Decode.{tenant_in}
use Rattle.wgr_entries.proofs.all.tenants_in.Given as goal

abbrev pub invariant-loop-row : goal.invariant-loop-row
invariant-loop-row l = l.tenants.items ≡ map tenant_in (take l.row-index l.rows)
