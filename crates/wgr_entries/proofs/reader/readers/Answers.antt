use Rattle.std.proofs.Common.{sym, subst}
use Rattle.sqlite.specs.Held.{state}
use Rattle.wgr_model.specs.Consistent.{IsDigest}
use Rattle.wgr_sql.specs.Causes.{HasCause}
use Rattle.wgr_sql.proofs.CauseLemmas.{handed, never_stores}
use Rattle.wgr_sql.proofs.ResultLemmas.{if_ok}
use Rattle.wgr_columns.specs.Decode.{reader_in, tables_of}
use Rattle.wgr_entries.specs.Readers.{AreReadersOf, stored_reader}
use Rattle.wgr_entries.proofs.KeptLemmas.{rows_kept}
use Rattle.wgr_entries.proofs.reader.readers.Goals as goal

pub returns-clause-listed : goal.returns-clause-listed
returns-clause-listed g c db pending stood third clean =
    let shows = c.in_ok-rows.ensures.listed db pending stood third clean in
    if_ok c.digests_in.result _ _ (λ digests is. subst (AreReadersOf (tables_of db)) (sym is) shows) (rw c.as_slice.ensures.value at c.digests_in.ensures.read)

pub returns-in_err-rows-clause-cause : goal.returns-in_err-rows-clause-cause
returns-in_err-rows-clause-cause g c db pending stood third kept = handed (HasCause (state g.S.Store c.args.conn.now) (state g.S.Store c.reader_rows.new.conn)) c.from_residual.result c.in_err-rows.field-0.0 c.from_residual.ensures.1 (c.in_err-rows.ensures.cause db pending stood third)

pub returns-clause-cause : goal.returns-clause-cause
returns-clause-cause g c db pending stood third kept =
    never_stores _ (state g.S.Store c.args.conn.now) (state g.S.Store c.reader_rows.new.conn) c.digests_in.result (rw c.as_slice.ensures.value at c.digests_in.ensures.only)
    (λ clean only. only (rows_kept reader_in stored_reader IsDigest (tables_of db).readers c.in_ok-rows.rows.items (c.in_ok-rows.ensures.listed db pending stood third clean).same (c.in_ok-rows.ensures.stored db pending stood third clean) kept))
