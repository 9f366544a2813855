use Rattle.wgr_sql.proofs.ResultLemmas.{if_ok}
use Rattle.wgr_columns.specs.Decode.{tables_of}
use Rattle.wgr_entries.proofs.AllLemmas.{tokens_read}
use Rattle.sqlite.specs.Held.{state}
use Rattle.wgr_sql.specs.Causes.{HasCause}
use Rattle.wgr_sql.proofs.CauseLemmas.{handed, never_stores}
use Rattle.wgr_columns.specs.Decode.{token_in}
use Rattle.wgr_entries.proofs.KeptLemmas.{rows_kept}
use Rattle.wgr_entries.specs.Kept.{IsKeptToken, stored_token}
use Rattle.wgr_entries.proofs.all.tokens.Goals as goal

pub returns-clause-listed : goal.returns-clause-listed
returns-clause-listed g c db pending stood clean =
    let shows = c.in_ok-rows.ensures.listed db pending stood clean in
    if_ok c.tokens_in.result _ _ (λ tokens is. tokens_read (tables_of db) c.in_ok-rows.rows.items tokens.items shows is) (rw c.as_slice.ensures.value at c.tokens_in.ensures.read)

pub returns-in_err-rows-clause-cause : goal.returns-in_err-rows-clause-cause
returns-in_err-rows-clause-cause g c db pending stood kept = handed (HasCause (state g.S.Store c.args.conn.now) (state g.S.Store c.token_rows.new.conn)) c.from_residual.result c.in_err-rows.field-0.0 c.from_residual.ensures.1 (c.in_err-rows.ensures.cause db pending stood)

pub returns-clause-cause : goal.returns-clause-cause
returns-clause-cause g c db pending stood kept = never_stores _ (state g.S.Store c.args.conn.now) (state g.S.Store c.token_rows.new.conn) c.tokens_in.result (rw c.as_slice.ensures.value at c.tokens_in.ensures.only)
    (λ clean only. only (rows_kept token_in stored_token IsKeptToken (tables_of db).tokens c.in_ok-rows.rows.items (c.in_ok-rows.ensures.listed db pending stood clean) (c.in_ok-rows.ensures.stored db pending stood clean) kept))
