use Rattle.std.proofs.Common.{[], ◌∷◌}
use Rattle.sqlite.specs.declared.types.Value.TheVariants.{Blob}
use Rattle.sqlite.specs.Held.{state}
use Rattle.wgr_sql.proofs.ResultLemmas.{if_ok}
use Rattle.wgr_tables.proofs.StopLemmas.{written_fails}
use Rattle.wgr_entries.proofs.GoLemmas.{token_gone}
use Rattle.wgr_entries.proofs.Meanings.{drop_token_text}
use Rattle.wgr_entries.proofs.StopLemmas.{drop_token_writes}
use Rattle.wgr_entries.proofs.token.drop_token_row.Goals as goal

pub returns-clause-step : goal.returns-clause-step
returns-clause-step g c clean inside register =
    let old = state g.S.Store c.args.tx.now.conn.now in
    let new = state g.S.Store c.execute.new.tx.conn.now in
    (c.execute.ensures.kept clean inside, if_ok c.execute.result _ _ (λ count h. (token_gone old new (register h.1.was_open) c.args.digest.now count h.0, h.1)) (c.execute.ensures.ran clean inside))

pub returns-clause-keeps : goal.returns-clause-keeps
returns-clause-keeps g c clean inside _ = (c.execute.ensures.kept clean inside, if_ok c.execute.result _ _ (λ count h. (tt, h.1)) (c.execute.ensures.ran clean inside))

pub returns-clause-cause : goal.returns-clause-cause
returns-clause-cause g c =
    written_fails (state g.S.Store c.args.tx.now.conn.now) (state g.S.Store c.execute.new.tx.conn.now) drop_token_text (Blob c.args.digest.now ∷ []) c.execute.result (λ others. drop_token_writes others _) (c.execute.ensures.cause)
