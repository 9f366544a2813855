use Rattle.std.proofs.Common.{◌<◌, [], length, refl, arith}
use Rattle.sqlite_value.specs.Keys.{plain}
use Rattle.wgr_schema.proofs.FormLemmas.{grown_at, whole, alike_at}
use Rattle.wgr_schema.proofs.form.are_plain.Goals as goal

pub loop-at-init : goal.loop-at-init
loop-at-init c = refl

pub loop-at-preserved : goal.loop-at-preserved
loop-at-preserved c =
    let low : c.loop-at.at < length c.args.orders.now = omega (arith, c.loop-at-test.true, c.if-orders-forms.false) in
    grown_at (λ _. plain) c.args.orders.now c.args.forms.now c.loop-at.at _ (record { ref_ptr = (0, 0); now = [] }) low c.loop-at-test.true c.loop-at.invariant (c.if-not-is_plain.ensures.is refl)

pub returns-clause-is : goal.returns-clause-is
returns-clause-is c so = whole (λ _. plain) c.args.orders.now c.args.forms.now c.loop-at.at c.if-orders-forms.false (omega (arith, c.loop-at-test.false)) c.loop-at.invariant

pub returns-then-not-is_plain-clause-only : goal.returns-then-not-is_plain-clause-only
returns-then-not-is_plain-clause-only c e = c.if-not-is_plain.ensures.only (alike_at (λ _. plain) c.args.orders.now c.args.forms.now c.loop-at.at _ (record { ref_ptr = (0, 0); now = [] }) c.loop-at-test.true e)
