use Rattle.std.proofs.Common.{subst, sym}
use Rattle.sqlite.specs.Held.{state}
use Rattle.wgr_sql.specs.Causes.{HasCause}
use Rattle.wgr_sql.proofs.CauseLemmas.{handed, never_fails}
use Rattle.wgr_sql.proofs.ResultLemmas.{if_ok}
use Rattle.wgr_columns.specs.Decode.{tables_of}
use Rattle.wgr_rows.specs.Keyed.{IsLiveIn, IsPeerIn, ShowKey}
use Rattle.wgr_rows.proofs.KeyLemmas.{key_found, peer_in_rows}
use Rattle.wgr_rows.proofs.key.key_row.Goals as goal

pub returns-clause-found : goal.returns-clause-found
returns-clause-found g c db pending w stood is here id clean =
    let shows = subst (λ n. ShowKey n c.args.key.now.0 (tables_of db) c.in_ok-rows.rows.items) (sym id) (c.in_ok-rows.ensures.listed db pending stood clean) in
    if_ok c.live_number.result _ _ (λ found lives. key_found (tables_of db) is w here c.args.key.now c.in_ok-rows.rows.items shows c.args.now found (subst (λ n. IsLiveIn c.in_ok-rows.rows.items n c.args.now found) (sym id) lives)) c.live_number.ensures.lives

pub returns-in_err-rows-clause-cause : goal.returns-in_err-rows-clause-cause
returns-in_err-rows-clause-cause g c db pending w stood is here id = handed (HasCause (state g.S.Store c.args.conn.now) (state g.S.Store c.key_rows.new.conn)) c.from_residual.result c.in_err-rows.field-0.0 c.from_residual.ensures.1 (c.in_err-rows.ensures.cause db pending stood)

pub returns-clause-cause : goal.returns-clause-cause
returns-clause-cause g c db pending w stood is here id = never_fails _ (state g.S.Store c.args.conn.now) (state g.S.Store c.key_rows.new.conn) c.live_number.result c.live_number.ensures.only (λ clean never.
    let shows = subst (λ n. ShowKey n c.args.key.now.0 (tables_of db) c.in_ok-rows.rows.items) (sym id) (c.in_ok-rows.ensures.listed db pending stood clean) in
    never (subst (IsPeerIn c.in_ok-rows.rows.items) id (peer_in_rows (tables_of db) is w here c.args.key.now c.in_ok-rows.rows.items shows (c.in_ok-rows.ensures.numbers db pending stood clean))))
