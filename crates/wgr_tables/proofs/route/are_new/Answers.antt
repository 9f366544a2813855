use Rattle.sqlite.specs.Held.{state}
use Rattle.wgr_sql.specs.Causes.{HasCauseOr}
use Rattle.wgr_sql.proofs.CauseLemmas.{handed}
use Rattle.wgr_tables.proofs.route.are_new.Goals as goal

pub returns-in_err-found-clause-cause : goal.returns-in_err-found-clause-cause
returns-in_err-found-clause-cause g c inside register =
    handed (HasCauseOr ⊥ (state g.S.Store c.args.tx.now.conn.now) (state g.S.Store c.first_route.new.tx.conn.now)) c.from_residual.result c.in_err-found.field-0.0 c.from_residual.ensures.1 (c.in_err-found.ensures.cause inside register)
