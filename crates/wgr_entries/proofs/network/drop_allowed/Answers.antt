use Rattle.sqlite.specs.Held.{state}
use Rattle.wgr_sql.proofs.ResultLemmas.{if_ok}
use Rattle.wgr_entries.proofs.GoLemmas.{allowed_gone}
use Rattle.std.proofs.Common.{pos, [], ◌∷◌}
use Rattle.sqlite.specs.declared.types.Value.TheVariants.{Int}
use Rattle.wgr_tables.proofs.StopLemmas.{written_fails}
use Rattle.wgr_entries.proofs.Meanings.{drop_allowed_text}
use Rattle.wgr_entries.proofs.StopLemmas.{drop_allowed_writes}
use Rattle.wgr_entries.proofs.network.drop_allowed.Goals as goal

pub returns-clause-step : goal.returns-clause-step
returns-clause-step g c clean inside register =
    let old = state g.S.Store c.args.tx.now.conn.now in
    let new = state g.S.Store c.execute.new.tx.conn.now in
    (c.execute.ensures.kept clean inside, if_ok c.execute.result _ _ (λ count h. (allowed_gone old new (register h.1.was_open) c.args.network count (rw (c.number_value.ensures) at h.0), h.1)) (c.execute.ensures.ran clean inside))

pub returns-clause-cause : goal.returns-clause-cause
returns-clause-cause g c =
    written_fails (state g.S.Store c.args.tx.now.conn.now) (state g.S.Store c.execute.new.tx.conn.now) drop_allowed_text (Int (pos c.args.network) ∷ []) c.execute.result (λ others. drop_allowed_writes others _) (rw (c.number_value.ensures) at c.execute.ensures.cause)
