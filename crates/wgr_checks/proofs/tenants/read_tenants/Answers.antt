use Rattle.sqlite.specs.Held.{state}
use Rattle.wgr_sql.specs.Causes.{HasCause}
use Rattle.wgr_sql.proofs.CauseLemmas.{handed}
use Rattle.wgr_checks.proofs.CauseLemmas.{next_cause}
use Rattle.wgr_checks.proofs.tenants.read_tenants.Goals as goal

pub returns-in_err-ids-clause-cause : goal.returns-in_err-ids-clause-cause
returns-in_err-ids-clause-cause g c laid =
    handed (HasCause (state g.S.Store c.args.conn.now) (state g.S.Store c.read_ids.new.conn)) c.from_residual.result c.in_err-ids.field-0.0 c.from_residual.ensures.1 (c.in_err-ids.ensures.cause laid)

pub returns-in_err-have_own_names-clause-cause : goal.returns-in_err-have_own_names-clause-cause
returns-in_err-have_own_names-clause-cause g c laid =
    let old = state g.S.Store c.args.conn.now in
    let mid = state g.S.Store c.read_ids.new.conn in
    let new = state g.S.Store c.have_own_names.new.conn in
    handed (HasCause old new) c.from_residual-in_err-have_own_names.result c.in_err-have_own_names.field-0.0 c.from_residual-in_err-have_own_names.ensures.1
    (next_cause old mid new c.read_ids.ensures.survives c.have_own_names.ensures.survives c.read_ids.ensures.kept laid c.in_err-have_own_names.field-0.0 c.in_err-have_own_names.ensures.cause)
