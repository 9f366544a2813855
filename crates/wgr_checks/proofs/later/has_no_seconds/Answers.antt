use Rattle.std.proofs.Common.{true}
use Rattle.sqlite.specs.Held.{state}
use Rattle.wgr_sql.specs.Causes.{HasCause}
use Rattle.wgr_sql.proofs.CauseLemmas.{handed}
use Rattle.wgr_checks.proofs.LaterQueries.{empty_is, no_seconds_shown, seconds_answered, seconds_plain}
use Rattle.wgr_checks.proofs.later.has_no_seconds.Goals as goal

pub returns-in_err-pools-clause-kept : goal.returns-in_err-pools-clause-kept
returns-in_err-pools-clause-kept g c may = c.query.ensures.kept (λ live clean. seconds_plain c.args.conn.now.schema (may clean live))

pub returns-in_err-pools-clause-cause : goal.returns-in_err-pools-clause-cause
returns-in_err-pools-clause-cause g c may =
    handed (HasCause (state g.S.Store c.args.conn.now) (state g.S.Store c.query.new.conn)) c.from_residual.result c.in_err-pools.field-0.0 c.from_residual.ensures.1
    (c.in_err-pools.ensures.cause (λ live clean. seconds_answered c.args.conn.now.schema (may clean live)))

pub returns-clause-answer : goal.returns-clause-answer
returns-clause-answer g c clean may =
    let answer = c.in_ok-pools.ensures.shown clean in
    let is = no_seconds_shown (state g.S.Store (record c.args.conn.now { in_transaction = true })) (state g.S.Store answer.after) (may answer.was_open) c.in_ok-pools.pools.items answer.shown in
    let empty = empty_is c.in_ok-pools.pools.items c.in_ok-pools.pools.len c.is_empty.result c.is_empty.ensures c.in_ok-pools.pools.ok.0 in
    (answer.was_open, ((λ told. is.0 (empty.0 told)), (λ none. empty.1 (is.1 none))))

pub returns-clause-kept : goal.returns-clause-kept
returns-clause-kept g c may = c.query.ensures.kept (λ live clean. seconds_plain c.args.conn.now.schema (may clean live))
