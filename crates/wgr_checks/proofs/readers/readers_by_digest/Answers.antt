use Rattle.std.proofs.Common.{true}
use Rattle.sqlite.specs.Held.{state}
use Rattle.wgr_sql.proofs.ResultLemmas.{if_ok}
use Rattle.wgr_checks.proofs.ReaderQueries.{digests_answered, digests_listed, digests_plain}
use Rattle.wgr_checks.proofs.readers.readers_by_digest.Goals as goal

pub returns-clause-listed : goal.returns-clause-listed
returns-clause-listed g c clean may =
    if_ok c.query.result _ _ (λ rows answer. (answer.was_open, digests_listed (state g.S.Store (record c.args.conn.now { in_transaction = true })) (state g.S.Store answer.after) (may answer.was_open).1 rows.items answer.shown)) (c.query.ensures.shown clean)

pub returns-clause-kept : goal.returns-clause-kept
returns-clause-kept g c may = c.query.ensures.kept (λ live clean. digests_plain c.args.conn.now.schema (may clean live).1)

pub returns-clause-cause : goal.returns-clause-cause
returns-clause-cause g c may = c.query.ensures.cause (λ live clean. digests_answered c.args.conn.now.schema (may clean live).1)
