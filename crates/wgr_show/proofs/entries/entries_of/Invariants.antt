use Rattle.std.proofs.Common.{◌≡◌, map, take}
use Rattle.wgr_show.specs.Entries.{entry_of, shown_of}
use Rattle.wgr_show.proofs.entries.entries_of.Given as goal

abbrev pub invariant-loop-tenant : goal.invariant-loop-tenant
invariant-loop-tenant l = map shown_of l.entries.items ≡ map (λ t. entry_of l.tokens l.networks t.now) (take l.tenant-index l.tenants)
