use Rattle.std.proofs.Common.{◌≡◌, ℕ, ◌+◌, ◌<◌, ◌≤◌, ◌^◌, Bool, true, false, not, cond, nat_eq, length, sym, ap, subst, ◌∙◌, arith}
use Rattle.std.specs.HashSet.{contains}
use Rattle.std.specs.Prelude.{IsSome}
use Rattle.std.specs.List.{filter}
use Rattle.wgr_text.specs.Prefix.{PrefixValue, IsAddr}
use Rattle.wgr_peers.specs.Routes.{Routes, assign_route, route_of}
use Rattle.wgr_peers.specs.RouteSlots.{AreSlots, IsMasked}
use Rattle.wgr_peers.proofs.SlotLemmas.{filled_put, filled_length, filter_shorter, slots_put, some_filled}
use Rattle.wgr_peers.proofs.route_slots.RouteSlots.put.Goals as goal

pub overflow_add-self : goal.overflow_add-self
overflow_add-self c =
    let q = λ (r : PrefixValue × ℕ). not (contains nat_eq c.reserve_number.new.vacant r.1) in
    let slots = c.reserve_number.new.slots.items in
    let new = c.put_route.new.routes in
    let p = c.args.prefix in
    let found = subst (λ (xs : Routes). c.slot_number.result ≡ route_of (filter q xs) p) c.deref.ensures.value c.slot_number.ensures in
    let more : length (filter q new.items) ≡ length (filter q slots) + 1 =
    filled_length q slots new.items p c.args.number c.slot_number.result c.reserve_number.ensures.slots.ordered (ap not c.reserve_number.ensures.reserved) c.in_ok-put_route.ensures.put found
    ∙ ap (λ (b : Bool). length (filter q slots) + cond b 0 1) c.if-is_new.ensures in
    let count : c.self.inside.count ≡ length (filter q slots) = c.self.invariant.1 ∙ ap length (sym c.reserve_number.ensures.same) in
    let fewer : length (filter q new.items) ≤ length new.items = filter_shorter q new.items in
    let room : length new.items < 2 ^ 63 = omega (arith, new.ok, new.small) in
    omega (arith, more, count, fewer, room)

pub invariant_of-self-then-is_new : goal.invariant_of-self-then-is_new
invariant_of-self-then-is_new c =
    let q = λ (r : PrefixValue × ℕ). not (contains nat_eq c.reserve_number.new.vacant r.1) in
    let slots = c.reserve_number.new.slots.items in
    let new = c.put_route.new.routes in
    let p = c.args.prefix in
    let masked : IsMasked (p, c.args.number) = (subst IsAddr c.address-address.ensures.value c.address-address.ensures.fits, c.length-length.ensures.fits) in
    let found = subst (λ (xs : Routes). c.slot_number.result ≡ route_of (filter q xs) p) c.deref.ensures.value c.slot_number.ensures in
    let more : length (filter q new.items) ≡ length (filter q slots) + 1 =
    filled_length q slots new.items p c.args.number c.slot_number.result c.reserve_number.ensures.slots.ordered (ap not c.reserve_number.ensures.reserved) c.in_ok-put_route.ensures.put found
    ∙ ap (λ (b : Bool). length (filter q slots) + cond b 0 1) c.if-is_new.ensures in
    let count : c.self.inside.count ≡ length (filter q slots) = c.self.invariant.1 ∙ ap length (sym c.reserve_number.ensures.same) in
    (subst AreSlots (sym c.in_ok-put_route.ensures.put) (slots_put slots p c.args.number c.reserve_number.ensures.slots masked), omega (arith, more, count))

pub invariant_of-self-else-is_new : goal.invariant_of-self-else-is_new
invariant_of-self-else-is_new c =
    let q = λ (r : PrefixValue × ℕ). not (contains nat_eq c.reserve_number.new.vacant r.1) in
    let slots = c.reserve_number.new.slots.items in
    let new = c.put_route.new.routes in
    let p = c.args.prefix in
    let masked : IsMasked (p, c.args.number) = (subst IsAddr c.address-address.ensures.value c.address-address.ensures.fits, c.length-length.ensures.fits) in
    let found = subst (λ (xs : Routes). c.slot_number.result ≡ route_of (filter q xs) p) c.deref.ensures.value c.slot_number.ensures in
    let more : length (filter q new.items) ≡ length (filter q slots) + 0 =
    filled_length q slots new.items p c.args.number c.slot_number.result c.reserve_number.ensures.slots.ordered (ap not c.reserve_number.ensures.reserved) c.in_ok-put_route.ensures.put found
    ∙ ap (λ (b : Bool). length (filter q slots) + cond b 0 1) c.if-is_new.ensures in
    let count : c.self.inside.count ≡ length (filter q slots) = c.self.invariant.1 ∙ ap length (sym c.reserve_number.ensures.same) in
    (subst AreSlots (sym c.in_ok-put_route.ensures.put) (slots_put slots p c.args.number c.reserve_number.ensures.slots masked), omega (arith, more, count))

pub returns-then-is_new-clause-ok : goal.returns-then-is_new-clause-ok
returns-then-is_new-clause-ok c =
    let q = λ (r : PrefixValue × ℕ). not (contains nat_eq c.reserve_number.new.vacant r.1) in
    let slots = c.reserve_number.new.slots.items in
    ap (filter q) c.in_ok-put_route.ensures.put
    ∙ filled_put q slots c.args.prefix c.args.number c.reserve_number.ensures.slots.ordered (ap not c.reserve_number.ensures.reserved)
    ∙ ap (λ (routes : Routes). assign_route routes c.args.prefix c.args.number) (c.reserve_number.ensures.same ∙ c.self.view_is)

pub returns-else-is_new-clause-ok : goal.returns-else-is_new-clause-ok
returns-else-is_new-clause-ok c =
    let q = λ (r : PrefixValue × ℕ). not (contains nat_eq c.reserve_number.new.vacant r.1) in
    let slots = c.reserve_number.new.slots.items in
    ap (filter q) c.in_ok-put_route.ensures.put
    ∙ filled_put q slots c.args.prefix c.args.number c.reserve_number.ensures.slots.ordered (ap not c.reserve_number.ensures.reserved)
    ∙ ap (λ (routes : Routes). assign_route routes c.args.prefix c.args.number) (c.reserve_number.ensures.same ∙ c.self.view_is)

pub returns-in_err-put_route-clause-succeeds : goal.returns-in_err-put_route-clause-succeeds
returns-in_err-put_route-clause-succeeds c = λ some.
    let q = λ (r : PrefixValue × ℕ). not (contains nat_eq c.reserve_number.new.vacant r.1) in
    let slots = c.reserve_number.new.slots.items in
    let p = c.args.prefix in
    let standing = some_filled q slots p (subst (λ (routes : Routes). IsSome (route_of routes p)) (sym (c.reserve_number.ensures.same ∙ c.self.view_is)) some) in
    let bad : false ≡ true = c.in_err-put_route.ensures.succeeds standing in
    cc
