use Rattle.sqlite.specs.Held.{state}
use Rattle.wgr_model.specs.Rows.{peer_id}
use Rattle.wgr_sql.proofs.ResultLemmas.{if_ok}
use Rattle.wgr_tables.proofs.DropLemmas.{address_gone}
use Rattle.std.proofs.Common.{[], ◌∷◌, pos}
use Rattle.sqlite.specs.declared.types.Value.TheVariants.{Int}
use Rattle.wgr_tables.proofs.Meanings.{drop_address_text}
use Rattle.wgr_tables.proofs.StopLemmas.{written_fails, drop_address_writes}
use Rattle.wgr_tables.proofs.enter.drop_address.Goals as goal

pub returns-clause-step : goal.returns-clause-step
returns-clause-step g c clean inside register =
    let old = state g.S.Store c.args.tx.now.conn.now in
    let new = state g.S.Store c.execute.new.tx.conn.now in
    (c.execute.ensures.kept clean inside, if_ok c.execute.result _ _ (λ count h. (address_gone old new (register h.1.was_open) c.args.network (peer_id c.args.network c.args.number) count (rw (c.number_value.ensures, c.peer_id_value.ensures) at h.0), h.1)) (c.execute.ensures.ran clean inside))

pub returns-clause-cause : goal.returns-clause-cause
returns-clause-cause g c =
    let old = state g.S.Store c.args.tx.now.conn.now in
    let new = state g.S.Store c.execute.new.tx.conn.now in
    written_fails old new drop_address_text (Int (pos c.args.network) ∷ Int (pos (peer_id c.args.network c.args.number)) ∷ []) c.execute.result (λ others. drop_address_writes others _ _)
    (rw (c.number_value.ensures, c.peer_id_value.ensures) at c.execute.ensures.cause)
