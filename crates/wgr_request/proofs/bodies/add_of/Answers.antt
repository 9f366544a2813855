use Rattle.std.proofs.Common.{◌≡◌, Some, None, inr, refl, sym, ◌∙◌, codes}
use Rattle.serde_json.specs.Find.{get}
use Rattle.serde_json.specs.View.{view}
use Rattle.wgr_request.specs.Fields.{end_value, field_value, keepalive_value}
use Rattle.wgr_request.proofs.bodies.add_of.Goals as goal

pub returns-in_default-end_field : goal.returns-in_default-end_field
returns-in_default-end_field c =
    let d = view c.args.fields.now in
    let end : field_value end_value (Some 0) (get (codes "end") d) ≡ None = sym (rw c.never.ensures at c.end_field.ensures) ∙ c.in_default-end_field.is in
    rw c.bad-in_default-end_field.ensures (inr (c.in-Some.key, c.in-Some.ensures, inr (c.in-Some-2.label, (rw c.in-Some-2.is at c.in_ok-label.ensures), inr (c.in-Some-address_field.address, c.in-Some-address_field.ensures, rw end refl))))

pub returns-in_default-keepalive_field : goal.returns-in_default-keepalive_field
returns-in_default-keepalive_field c =
    let d = view c.args.fields.now in
    let end : field_value end_value (Some 0) (get (codes "end") d) ≡ Some c.in-Some-end_field.until = sym (rw c.never.ensures at c.end_field.ensures) ∙ c.in-Some-end_field.is in
    let keepalive : field_value keepalive_value (Some 0) (get (codes "keepalive") d) ≡ None = sym c.keepalive_field.ensures ∙ c.in_default-keepalive_field.is in
    rw c.bad-in_default-keepalive_field.ensures (inr (c.in-Some.key, c.in-Some.ensures, inr (c.in-Some-2.label, (rw c.in-Some-2.is at c.in_ok-label.ensures), inr (c.in-Some-address_field.address, c.in-Some-address_field.ensures, rw (end, keepalive) refl))))

pub returns : goal.returns
returns c =
    let d = view c.args.fields.now in
    let end : field_value end_value (Some 0) (get (codes "end") d) ≡ Some c.in-Some-end_field.until = sym (rw c.never.ensures at c.end_field.ensures) ∙ c.in-Some-end_field.is in
    let keepalive : field_value keepalive_value (Some 0) (get (codes "keepalive") d) ≡ Some c.in-Some-keepalive_field.keepalive = sym c.keepalive_field.ensures ∙ c.in-Some-keepalive_field.is in
    inr (c.in-Some.key, c.in-Some.ensures, inr (c.in-Some-2.label, (rw c.in-Some-2.is at c.in_ok-label.ensures), inr (c.in-Some-address_field.address, c.in-Some-address_field.ensures, rw (end, keepalive) refl)))
