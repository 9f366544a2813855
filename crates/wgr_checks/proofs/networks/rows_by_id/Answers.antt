use Rattle.std.proofs.Common.{true}
use Rattle.sqlite.specs.Held.{state}
use Rattle.wgr_sql.proofs.ResultLemmas.{if_ok}
use Rattle.wgr_checks.proofs.Queries.{is_plain}
use Rattle.wgr_checks.proofs.NetworkQueries.{networks_ask, networks_listed, networks_text, networks_answered}
use Rattle.wgr_columns.proofs.Statements.{network_places}
use Rattle.wgr_checks.proofs.CauseLemmas.{is_answered}
use Rattle.wgr_checks.proofs.networks.rows_by_id.Goals as goal

pub returns-clause-listed : goal.returns-clause-listed
returns-clause-listed g c clean laid =
    if_ok c.query.result _ _ (λ rows answer. (answer.was_open, networks_listed (state g.S.Store (record c.args.conn.now { in_transaction = true })) (state g.S.Store answer.after) (laid answer.was_open) rows.items answer.shown)) (c.query.ensures.shown clean)

pub returns-clause-kept : goal.returns-clause-kept
returns-clause-kept g c laid = c.query.ensures.kept (λ live clean. is_plain 5 0 network_places _ networks_text networks_ask c.args.conn.now.schema (laid clean live))

pub returns-clause-cause : goal.returns-clause-cause
returns-clause-cause g c laid = c.query.ensures.cause (λ live clean. is_answered networks_text networks_answered c.args.conn.now.schema (laid clean live))
