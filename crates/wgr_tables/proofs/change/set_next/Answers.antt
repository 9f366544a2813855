use Rattle.sqlite.specs.Held.{state}
use Rattle.wgr_sql.proofs.ResultLemmas.{if_ok}
use Rattle.wgr_tables.proofs.NextLemmas.{next_set}
use Rattle.std.proofs.Common.{[], ◌∷◌, pos}
use Rattle.sqlite.specs.declared.types.Value.TheVariants.{Int}
use Rattle.wgr_tables.proofs.Meanings.{set_next_text}
use Rattle.wgr_tables.proofs.StopLemmas.{written_fails, set_next_writes}
use Rattle.wgr_tables.proofs.change.set_next.Goals as goal

pub returns-clause-step : goal.returns-clause-step
returns-clause-step g c clean inside register =
    let old = state g.S.Store c.args.tx.now.conn.now in
    let new = state g.S.Store c.execute.new.tx.conn.now in
    (c.execute.ensures.kept clean inside, if_ok c.execute.result _ _ (λ count h. (next_set old new (register h.1.was_open) c.args.network c.args.next count (rw (c.number_value.ensures, c.number_value-2.ensures) at h.0), h.1)) (c.execute.ensures.ran clean inside))

pub returns-clause-cause : goal.returns-clause-cause
returns-clause-cause g c =
    let old = state g.S.Store c.args.tx.now.conn.now in
    let new = state g.S.Store c.execute.new.tx.conn.now in
    written_fails old new set_next_text (Int (pos c.args.network) ∷ Int (pos c.args.next) ∷ []) c.execute.result (λ others. set_next_writes others _ _)
    (rw (c.number_value.ensures, c.number_value-2.ensures) at c.execute.ensures.cause)
