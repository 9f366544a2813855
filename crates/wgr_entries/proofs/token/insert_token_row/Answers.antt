use Rattle.std.proofs.Common.{pos, [], ◌∷◌}
use Rattle.sqlite.specs.declared.types.Value.TheVariants.{Int, Blob}
use Rattle.sqlite.specs.Held.{state}
use Rattle.wgr_sql.proofs.ResultLemmas.{if_ok}
use Rattle.wgr_tables.proofs.StopLemmas.{written_fails}
use Rattle.wgr_entries.proofs.ComeLemmas.{token_came}
use Rattle.wgr_entries.proofs.Meanings.{insert_token_text}
use Rattle.wgr_entries.proofs.StopLemmas.{insert_token_writes}
use Rattle.wgr_entries.proofs.token.insert_token_row.Goals as goal

pub returns-clause-step : goal.returns-clause-step
returns-clause-step g c clean inside register =
    let old = state g.S.Store c.args.tx.now.conn.now in
    let new = state g.S.Store c.execute.new.tx.conn.now in
    (c.execute.ensures.kept clean inside, if_ok c.execute.result _ _ (λ count h. (token_came old new (register h.1.was_open) c.args.digest.now c.args.tenant count (rw (c.number_value.ensures) at h.0), h.1)) (c.execute.ensures.ran clean inside))

pub returns-clause-keeps : goal.returns-clause-keeps
returns-clause-keeps g c clean inside _ = (c.execute.ensures.kept clean inside, if_ok c.execute.result _ _ (λ count h. (tt, h.1)) (c.execute.ensures.ran clean inside))

pub returns-clause-cause : goal.returns-clause-cause
returns-clause-cause g c =
    written_fails (state g.S.Store c.args.tx.now.conn.now) (state g.S.Store c.execute.new.tx.conn.now) insert_token_text (Blob c.args.digest.now ∷ Int (pos c.args.tenant) ∷ []) c.execute.result (λ others. insert_token_writes others _ _) (rw (c.number_value.ensures) at c.execute.ensures.cause)
