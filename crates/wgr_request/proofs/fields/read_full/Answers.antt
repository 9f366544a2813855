use Rattle.std.proofs.Common.{ap, sym, ◌∙◌}
use Rattle.wgr_text.specs.Prefix.{width}
use Rattle.wgr_text.proofs.RoundTrips.{Spells_unique}
use Rattle.wgr_request.proofs.fields.read_full.Goals as goal

pub returns-in_default : goal.returns-in_default
returns-in_default c a s = c.in_default.ensures.none a (width a.family) s

-- the text spells one address and one length
pub returns-else-length-width : goal.returns-else-length-width
returns-else-length-width c a s =
    let one = Spells_unique c.args.text.now _ a _ (width a.family) c.in-Some.ensures.spelled s in
    absurd (c.if-length-width.false (one.1 ∙ sym (c.width.ensures ∙ ap width (c.family.ensures.value ∙ ap (λ x. x.family) one.0))))
