use Rattle.std.proofs.Common.{◌<◌, IfNone, refl, sym, subst, arith}
use Rattle.wgr_columns.specs.Fields.{IsWordAt}
use Rattle.wgr_entries.proofs.KeptLemmas.{has_at}
use Rattle.wgr_entries.proofs.all.ids_in.Goals as goal

pub returns-in_default-clause-only : goal.returns-in_default-clause-only
returns-in_default-clause-only c is all =
    let it = all c.row-item.result (has_at c.args.rows.now c.loop-row.row-index c.row-item.result c.loop-row-test.true c.row-item.is) in
    let low : it.0.id < 4294967296 = omega (arith, it.1.id.1) in
    let there : IsWordAt c.row-item.result 0 = subst (λ r. IsWordAt r 0) (sym it.2) (refl, low) in
    subst (λ o. IfNone o (IsWordAt c.row-item.result 0 → ⊥)) c.in_default.is c.word_at.ensures.none there
