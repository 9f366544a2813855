use Rattle.std.proofs.Common.{sym, ap, ◌∙◌}
use Rattle.sqlite.specs.Held.{state}
use Rattle.wgr_columns.specs.Decode.{tables_of}
use Rattle.wgr_orders.specs.declared.census.Granted.{Granted}
use Rattle.wgr_sql.specs.Causes.{HasCause}
use Rattle.wgr_sql.proofs.CauseLemmas.{cause_after, handed, never_stores}
use Rattle.wgr_sql.proofs.ResultLemmas.{if_ok}
use Rattle.wgr_register.proofs.CauseLemmas.{token_kept}
use Rattle.wgr_register.proofs.RightLemmas.{reader_kept, rights_read}
use Rattle.wgr_register.proofs.ThirdLemmas.{reads_also, third_next}
use Rattle.wgr_register.proofs.census.granted_tokens.Goals as goal

pub returns-in_err-tokens-clause-reads : goal.returns-in_err-tokens-clause-reads
returns-in_err-tokens-clause-reads g c = reads_also c.tokens.ensures.reads

pub returns-in_err-tokens-clause-cause : goal.returns-in_err-tokens-clause-cause
returns-in_err-tokens-clause-cause g c db pending stood good =
    handed (HasCause (state g.S.Store c.args.conn.now) (state g.S.Store c.tokens.new.conn)) c.from_residual.result c.in_err-tokens.field-0.0 c.from_residual.ensures.1
    (c.in_err-tokens.ensures.cause db pending stood (token_kept (tables_of db) good))

pub returns-in_err-readers-clause-reads : goal.returns-in_err-readers-clause-reads
returns-in_err-readers-clause-reads g c = third_next (reads_also c.tokens.ensures.reads) c.readers.ensures.reads

pub returns-in_err-readers-clause-cause : goal.returns-in_err-readers-clause-cause
returns-in_err-readers-clause-cause g c db pending stood good =
    let old = state g.S.Store c.args.conn.now in
    let mid = state g.S.Store c.tokens.new.conn in
    let new = state g.S.Store c.readers.new.conn in
    handed (HasCause old new) c.from_residual-in_err-readers.result c.in_err-readers.field-0.0 c.from_residual-in_err-readers.ensures.1
    (cause_after old mid new ⊥ ⊥ (λ _. ⊥) (λ _. ⊥) c.tokens.ensures.reads.survives c.readers.ensures.reads.survives (λ none. none) c.in_err-readers.field-0.0
    (c.in_err-readers.ensures.cause db pending (c.tokens.ensures.reads.stands db pending stood) good.rows.meta (reader_kept (tables_of db) good)))

pub returns-clause-reads : goal.returns-clause-reads
returns-clause-reads g c = third_next (reads_also c.tokens.ensures.reads) c.readers.ensures.reads

pub returns-clause-listed : goal.returns-clause-listed
returns-clause-listed g c db pending stood third clean =
    let t = tables_of db in
    let listed = c.in_ok-tokens.ensures.listed db pending stood (c.readers.ensures.reads.clean clean) in
    let read = c.in_ok-readers.ensures.listed db pending (c.tokens.ensures.reads.stands db pending stood) third clean in
    if_ok c.all_granted.result _ _ (λ all is. (c.in_ok-tokens.tokens.items, listed, is ∙ rights_read t.readers c.in_ok-readers.readers.items read.same c.in_ok-tokens.tokens.items))
    ((rw c.as_slice.ensures.value at c.all_granted.ensures.granted) read.sorted)
