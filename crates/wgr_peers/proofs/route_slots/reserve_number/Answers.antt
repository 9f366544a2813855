use Rattle.std.proofs.Common.{ℕ, List, not, get_or, nat_eq, sym, ap, subst, ◌∙◌}
use Rattle.std.specs.HashSet.{contains}
use Rattle.std.specs.List.{list_any}
use Rattle.wgr_text.specs.Prefix.{PrefixValue}
use Rattle.wgr_peers.specs.RouteSlots.{AreSlots}
use Rattle.wgr_pool.proofs.Lists.{filter_each}
use Rattle.wgr_peers.proofs.SlotLemmas.{slots_filter}
use Rattle.wgr_peers.proofs.route_slots.reserve_number.Goals as goal

pub returns-then-contains-clause-slots : goal.returns-then-contains-clause-slots
returns-then-contains-clause-slots c =
    subst AreSlots (sym c.drop_vacant.ensures) (slots_filter (λ (r : PrefixValue × ℕ). not (contains nat_eq c.args.vacant.now r.1)) c.args.slots.now.items c.requires)

pub returns-then-contains-clause-same : goal.returns-then-contains-clause-same
returns-then-contains-clause-same c =
    let left = c.drop_vacant.new.slots.items in
    filter_each (λ (r : PrefixValue × ℕ). not (contains nat_eq c.clear.new.self r.1)) left (λ k d l. ap (λ (keys : List ℕ). not (list_any (nat_eq (get_or left k d).1) keys)) c.clear.ensures.empty)
    ∙ c.drop_vacant.ensures
