use Rattle.sqlite.specs.Held.{state}
use Rattle.wgr_sql.specs.Causes.{HasCause}
use Rattle.wgr_sql.proofs.CauseLemmas.{handed}
use Rattle.wgr_checks.proofs.CauseLemmas.{next_causes}
use Rattle.wgr_opening.proofs.JoinLemmas.{kept_next}
use Rattle.wgr_opening.proofs.read.are_members_written.Goals as goal

pub returns-in_err-peers_are_written-clause-cause : goal.returns-in_err-peers_are_written-clause-cause
returns-in_err-peers_are_written-clause-cause g c laid =
    handed (HasCause (state g.S.Store c.args.conn.now) (state g.S.Store c.peers_are_written.new.conn)) c.from_residual.result c.in_err-peers_are_written.field-0.0 c.from_residual.ensures.1 (c.in_err-peers_are_written.ensures.cause laid)

pub returns-clause-cause : goal.returns-clause-cause
returns-clause-cause g c laid =
    let old = state g.S.Store c.args.conn.now in
    let mid = state g.S.Store c.peers_are_written.new.conn in
    let new = state g.S.Store c.allowed_are_written.new.conn in
    next_causes old mid new c.peers_are_written.ensures.survives c.allowed_are_written.ensures.survives c.peers_are_written.ensures.kept laid c.allowed_are_written.result c.allowed_are_written.ensures.cause

pub returns-clause-kept : goal.returns-clause-kept
returns-clause-kept g c laid =
    let old = state g.S.Store c.args.conn.now in
    let mid = state g.S.Store c.peers_are_written.new.conn in
    let new = state g.S.Store c.allowed_are_written.new.conn in
    kept_next old mid new c.allowed_are_written.ensures.survives c.peers_are_written.ensures.kept c.allowed_are_written.ensures.kept laid
