use Rattle.wgr_sql.proofs.ResultLemmas.{if_ok}
use Rattle.wgr_columns.specs.Decode.{tables_of}
use Rattle.wgr_entries.proofs.LookupLemmas.{slot_some, slot_none}
use Rattle.sqlite.specs.Held.{state}
use Rattle.wgr_sql.specs.Causes.{HasCause}
use Rattle.wgr_sql.proofs.CauseLemmas.{handed, never_fails}
use Rattle.wgr_entries.proofs.lookup.network_id.Goals as goal

pub returns-clause-some : goal.returns-clause-some
returns-clause-some g c db pending stood clean =
    let shows = c.in_ok-rows.ensures.listed db pending stood clean in
    if_ok c.number_in.result _ _ (λ found is. slot_some (tables_of db) c.args.tenant c.args.name.now c.in_ok-rows.rows.items found shows is) c.number_in.ensures.found

pub returns-clause-none : goal.returns-clause-none
returns-clause-none g c db pending stood clean =
    let shows = c.in_ok-rows.ensures.listed db pending stood clean in
    if_ok c.number_in.result _ _ (λ found is. slot_none (tables_of db) c.args.tenant c.args.name.now c.in_ok-rows.rows.items found shows is) c.number_in.ensures.found

pub returns-in_err-rows-clause-cause : goal.returns-in_err-rows-clause-cause
returns-in_err-rows-clause-cause g c db pending stood good = handed (HasCause (state g.S.Store c.args.conn.now) (state g.S.Store c.slot_rows.new.conn)) c.from_residual.result c.in_err-rows.field-0.0 c.from_residual.ensures.1 (c.in_err-rows.ensures.cause db pending stood)

pub returns-clause-cause : goal.returns-clause-cause
returns-clause-cause g c db pending stood good = never_fails _ (state g.S.Store c.args.conn.now) (state g.S.Store c.slot_rows.new.conn) c.number_in.result c.number_in.ensures.only (λ clean bad. bad (c.in_ok-rows.ensures.word db pending stood good clean))
