-- Tenants with what they own, of lists of all tokens and networks.
use Rattle.std.specs.Prelude.{List, map, nat_eq}
use Rattle.std.specs.List.{filter}
use denote.Ref.{Bor}
use Rattle.wgr_model.specs.Register.{Tenant}
use Rattle.wgr_orders.specs.declared.census.Counted.{Counted}
use Rattle.wgr_orders.specs.declared.census.Granted.{Granted}
use Rattle.wgr_show.specs.Shown.{ShownTenant}
use Rattle.wgr_show.specs.declared.entries.Entry.{Entry}

abbrev pub shown_of : Entry → ShownTenant
shown_of e = record { name = e.tenant.now.name; tokens = map (λ t. t.now) e.tokens.now; networks = map (λ n. n.now) e.networks.now }

abbrev pub entry_of : List (Bor Granted) → List (Bor Counted) → Tenant → ShownTenant
entry_of tokens networks t = record {
  name = t.name;
  tokens = map (λ x. x.now) (filter (λ x. nat_eq x.now.token.tenant t.id) tokens);
  networks = map (λ n. n.now) (filter (λ n. nat_eq n.now.network_entry.tenant t.id) networks);
}
