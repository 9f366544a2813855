use Rattle.sqlite.specs.Held.{state}
use Rattle.wgr_sql.specs.Causes.{HasCause}
use Rattle.wgr_sql.proofs.CauseLemmas.{handed}
use Rattle.wgr_checks.proofs.CauseLemmas.{next_causes}
use Rattle.wgr_sql.proofs.SurvivesLemmas.{survives_next}
use Rattle.wgr_checks.proofs.tokens.have_own_keys.Goals as goal

pub returns-in_err-have_own_rowids-clause-cause : goal.returns-in_err-have_own_rowids-clause-cause
returns-in_err-have_own_rowids-clause-cause g c laid =
    handed (HasCause (state g.S.Store c.args.conn.now) (state g.S.Store c.have_own_rowids.new.conn)) c.from_residual.result c.in_err-have_own_rowids.field-0.0 c.from_residual.ensures.1 (c.in_err-have_own_rowids.ensures.cause laid)

pub returns-clause-cause : goal.returns-clause-cause
returns-clause-cause g c laid =
    let old = state g.S.Store c.args.conn.now in
    let mid = state g.S.Store c.have_own_rowids.new.conn in
    let new = state g.S.Store c.have_own_digests.new.conn in
    next_causes old mid new c.have_own_rowids.ensures.survives c.have_own_digests.ensures.survives c.have_own_rowids.ensures.kept laid c.have_own_digests.result c.have_own_digests.ensures.cause

pub returns-clause-survives : goal.returns-clause-survives
returns-clause-survives g c = survives_next (state g.S.Store c.args.conn.now) (state g.S.Store c.have_own_rowids.new.conn) (state g.S.Store c.have_own_digests.new.conn) c.have_own_rowids.ensures.survives c.have_own_digests.ensures.survives
