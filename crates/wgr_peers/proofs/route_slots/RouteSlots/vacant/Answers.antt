use Rattle.std.proofs.Common.{ℕ, not, nat_eq, length, sym, ap}
use Rattle.std.specs.HashSet.{contains}
use Rattle.wgr_text.specs.Prefix.{PrefixValue}
use Rattle.wgr_peers.proofs.SlotLemmas.{none_filled}
use Rattle.wgr_peers.proofs.route_slots.RouteSlots.vacant.Goals as goal

pub invariant_of-result : goal.invariant_of-result
invariant_of-result c =
    let vacant = contains nat_eq c.insert.new.self in
    let none = none_filled (λ (r : PrefixValue × ℕ). not (vacant r.1)) c.loop-prefix.slots.items c.loop-prefix.invariant.1 (λ p. ap not (c.in_ok-insert.ensures.updates.0 0)) in
    (c.loop-prefix.invariant.0, sym (ap length none))

pub returns : goal.returns
returns c =
    let vacant = contains nat_eq c.insert.new.self in
    none_filled (λ (r : PrefixValue × ℕ). not (vacant r.1)) c.loop-prefix.slots.items c.loop-prefix.invariant.1 (λ p. ap not (c.in_ok-insert.ensures.updates.0 0))
