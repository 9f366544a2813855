use Rattle.std.proofs.Common.{refl, sym, subst}
use Rattle.wgr_columns.specs.Fields.{IsDigestAt}
use Rattle.wgr_entries.proofs.KeptLemmas.{has_at}
use Rattle.wgr_entries.proofs.reader.digests_in.Goals as goal

pub returns-in_default-clause-only : goal.returns-in_default-clause-only
returns-in_default-clause-only c is all =
    let it = all c.row-item.result (has_at c.args.rows.now c.loop-row.row-index c.row-item.result c.loop-row-test.true c.row-item.is) in
    c.in_default.ensures.none (subst (λ r. IsDigestAt r 1) (sym it.2) (refl, it.1))
