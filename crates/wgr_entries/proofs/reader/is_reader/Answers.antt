use Rattle.sqlite.specs.Held.{state}
use Rattle.wgr_sql.specs.Causes.{HasCause}
use Rattle.wgr_sql.proofs.CauseLemmas.{handed}
use Rattle.wgr_columns.specs.Decode.{tables_of}
use Rattle.wgr_entries.proofs.ReaderLemmas.{any_shown}
use Rattle.wgr_entries.proofs.reader.is_reader.Goals as goal

pub returns-clause-found : goal.returns-clause-found
returns-clause-found g c db pending stood third clean =
    any_shown (tables_of db) c.args.digest.now c.in_ok-rows.rows.items c.in_ok-rows.rows.len c.is_empty.result c.is_empty.ensures c.in_ok-rows.rows.ok.0 (c.in_ok-rows.ensures.listed db pending stood third clean)

pub returns-in_err-rows-clause-cause : goal.returns-in_err-rows-clause-cause
returns-in_err-rows-clause-cause g c db pending stood third = handed (HasCause (state g.S.Store c.args.conn.now) (state g.S.Store c.reader_row.new.conn)) c.from_residual.result c.in_err-rows.field-0.0 c.from_residual.ensures.1 (c.in_err-rows.ensures.cause db pending stood third)
