use Rattle.std.proofs.Common.{ap, length, ◌∙◌}
use Rattle.sqlite.specs.Held.{state}
use Rattle.wgr_sql.specs.Causes.{HasCause}
use Rattle.wgr_sql.proofs.CauseLemmas.{handed}
use Rattle.wgr_entries.proofs.counts.count_routes.Goals as goal

pub returns-clause-counted : goal.returns-clause-counted
returns-clause-counted g c db pending stood clean = ap length c.as_slice.ensures.value ∙ c.in_ok-rows.ensures.counted db pending stood clean

pub returns-in_err-rows-clause-cause : goal.returns-in_err-rows-clause-cause
returns-in_err-rows-clause-cause g c db pending stood = handed (HasCause (state g.S.Store c.args.conn.now) (state g.S.Store c.route_rows.new.conn)) c.from_residual.result c.in_err-rows.field-0.0 c.from_residual.ensures.1 (c.in_err-rows.ensures.cause db pending stood)
