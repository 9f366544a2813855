use Rattle.std.proofs.Common.{◌<◌, length, refl, arith}
use Rattle.wgr_schema.proofs.FormLemmas.{grown, whole}
use Rattle.wgr_schema.proofs.form.are_keys.Goals as goal

pub loop-at-init : goal.loop-at-init
loop-at-init c = refl

pub loop-at-preserved : goal.loop-at-preserved
loop-at-preserved c =
    let low : c.loop-at.at < length c.args.keys.now = omega (arith, c.loop-at-test.true, c.if-keys-forms.false) in
    grown (λ p. p.now) c.args.keys.now c.args.forms.now c.loop-at.at c.index-keys-at.result _ low c.loop-at-test.true c.loop-at.invariant c.index-keys-at.is (c.if-not-are_places.ensures.is refl)

pub returns-clause-is : goal.returns-clause-is
returns-clause-is c so = whole (λ p. p.now) c.args.keys.now c.args.forms.now c.loop-at.at c.if-keys-forms.false (omega (arith, c.loop-at-test.false)) c.loop-at.invariant
