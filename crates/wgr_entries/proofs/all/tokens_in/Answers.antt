use Rattle.std.proofs.Common.{◌≡◌}
use Rattle.wgr_sql.specs.Faults.{IsStore}
use Rattle.wgr_sql.proofs.CauseLemmas.{handed}
use Rattle.wgr_entries.specs.Kept.{AreOf, IsKeptToken, stored_token}
use Rattle.wgr_entries.proofs.KeptLemmas.{has_at}
use Rattle.wgr_entries.proofs.all.tokens_in.Goals as goal

pub returns-in_err-token-clause-only : goal.returns-in_err-token-clause-only
returns-in_err-token-clause-only c =
    handed (λ why. IsStore why → AreOf IsKeptToken stored_token c.args.rows.now → ⊥) c.from_residual.result c.in_err-token.field-0.0 c.from_residual.ensures.1
    (λ is all. let it = all c.row-item.result (has_at c.args.rows.now c.loop-row.row-index c.row-item.result c.loop-row-test.true c.row-item.is) in c.in_err-token.ensures.only it.0 it.1 it.2)
