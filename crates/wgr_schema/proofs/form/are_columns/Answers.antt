use Rattle.std.proofs.Common.{◌<◌, length, refl, arith}
use Rattle.wgr_schema.specs.Forms.{column_as}
use Rattle.wgr_schema.proofs.FormLemmas.{grown, whole}
use Rattle.wgr_schema.proofs.form.are_columns.Goals as goal

pub loop-at-init : goal.loop-at-init
loop-at-init c = refl

pub loop-at-preserved : goal.loop-at-preserved
loop-at-preserved c =
    let low : c.loop-at.at < length c.args.columns.now = omega (arith, c.loop-at-test.true, c.if-columns-forms.false) in
    grown (column_as) c.args.columns.now c.args.forms.now c.loop-at.at c.index-columns-at.result _ low c.loop-at-test.true c.loop-at.invariant c.index-columns-at.is (c.if-not-is_column.ensures.is refl)

pub returns-clause-is : goal.returns-clause-is
returns-clause-is c so = whole (column_as) c.args.columns.now c.args.forms.now c.loop-at.at c.if-columns-forms.false (omega (arith, c.loop-at-test.false)) c.loop-at.invariant
