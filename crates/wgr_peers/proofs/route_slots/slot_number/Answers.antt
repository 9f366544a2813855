use Rattle.std.proofs.Common.{ℕ, Bool, Some, None, not, cond, nat_eq, get_or, sym, ap, ◌∙◌}
use Rattle.std.specs.HashSet.{contains}
use Rattle.wgr_text.specs.Prefix.{PrefixValue}
use Rattle.wgr_peers.proofs.SlotLemmas.{slot_found, slot_absent}
use Rattle.wgr_peers.proofs.route_slots.slot_number.Goals as goal

pub returns-in_default : goal.returns-in_default
returns-in_default c =
    let vacant = contains nat_eq c.args.vacant.now in
    sym (slot_absent (λ (r : PrefixValue × ℕ). not (vacant r.1)) c.args.slots.now c.args.prefix.now c.in_default.field-0 c.requires.ordered c.in_default.ensures.found)

pub returns-then-contains : goal.returns-then-contains
returns-then-contains c =
    let vacant = contains nat_eq c.args.vacant.now in
    let number = (get_or c.args.slots.now c.in-Ok.place c.index-slots-place.result).1 in
    sym (slot_found (λ (r : PrefixValue × ℕ). not (vacant r.1)) c.args.slots.now c.args.prefix.now c.in-Ok.place c.index-slots-place.result c.requires.ordered c.in-Ok.ensures.found
    ∙ ap (λ (b : Bool). cond (not b) (Some number) None) (sym c.if-contains.ensures))

pub returns : goal.returns
returns c =
    let vacant = contains nat_eq c.args.vacant.now in
    let number = (get_or c.args.slots.now c.in-Ok.place c.index-slots-place.result).1 in
    sym (slot_found (λ (r : PrefixValue × ℕ). not (vacant r.1)) c.args.slots.now c.args.prefix.now c.in-Ok.place c.index-slots-place.result c.requires.ordered c.in-Ok.ensures.found
    ∙ ap (λ (b : Bool). cond (not b) (Some number) None) (sym c.if-contains.ensures))
