use Rattle.std.proofs.Common.{◌≡◌, true, ◌&&◌, sym, ap, ap₂, ◌∙◌, eq-eqb}
use Rattle.wgr_model.specs.Register.{NetworkEntry, is_same}
use Rattle.wgr_orders.proofs.PlaceLemmas.{place_is}
use Rattle.wgr_orders.proofs.look.place_of.Goals as goal

pub returns-then-is_same : goal.returns-then-is_same
returns-then-is_same c =
    let h : NetworkEntry = c.index-networks-place.result in
    let tenant : h.tenant ≡ c.args.id = sym (ap {A = NetworkEntry} (λ x. x.tenant) c.network_entry.view_is) ∙ c.if-network_entry-id.true in
    let name : is_same c.args.name.now h.name ≡ true =
    ap {A = NetworkEntry} (λ x. is_same c.args.name.now x.name) (sym c.network_entry.view_is) ∙ ap (is_same c.args.name.now) (sym c.as_bytes.ensures) ∙ sym c.is_same.ensures ∙ c.if-is_same.true in
    place_is c.args.networks.now c.loop-place.place c.args.id c.args.name.now h c.loop-place-test.true c.index-networks-place.is (ap₂ ◌&&◌ (eq-eqb h.tenant c.args.id tenant) name) c.loop-place.invariant.found c.loop-place.invariant.put
