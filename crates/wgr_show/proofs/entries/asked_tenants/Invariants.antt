use Rattle.std.proofs.Common.{◌≡◌, map, take}
use Rattle.std.specs.List.{filter}
use Rattle.std.specs.Option.{option_map}
use Rattle.wgr_show.specs.Shown.{is_asked}
use Rattle.wgr_show.proofs.entries.asked_tenants.Given as goal

-- those of the tenants so far
abbrev pub invariant-loop-tenant : goal.invariant-loop-tenant
invariant-loop-tenant l = map (λ r. r.now) l.found.items ≡ filter (is_asked (option_map (λ n. n.now) l.name)) (take l.tenant-index l.tenants)
