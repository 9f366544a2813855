use Rattle.sqlite.specs.Held.{state}
use Rattle.wgr_model.specs.Rows.{peer_id}
use Rattle.wgr_sql.proofs.ResultLemmas.{if_ok}
use Rattle.wgr_tables.proofs.RangeDrops.{addresses_gone}
use Rattle.std.proofs.Common.{[], ◌∷◌, pos}
use Rattle.sqlite.specs.declared.types.Value.TheVariants.{Int}
use Rattle.wgr_tables.proofs.Meanings.{drop_address_range_text}
use Rattle.wgr_tables.proofs.StopLemmas.{written_fails, drop_address_range_writes}
use Rattle.wgr_tables.proofs.range.drop_address_range.Goals as goal

pub returns-clause-step : goal.returns-clause-step
returns-clause-step g c clean inside register =
    let old = state g.S.Store c.args.tx.now.conn.now in
    let new = state g.S.Store c.execute.new.tx.conn.now in
    let network = c.args.network in (
      c.execute.ensures.kept clean inside,
      if_ok c.execute.result _ _ (λ count h. (
        addresses_gone old new (register h.1.was_open) network (peer_id network c.args.first) (peer_id network c.args.last) count
            (rw (c.number_value.ensures, c.peer_id_value.ensures, c.peer_id_value-2.ensures) at h.0),
        h.1,
      )) (c.execute.ensures.ran clean inside),
    )

pub returns-clause-cause : goal.returns-clause-cause
returns-clause-cause g c =
    let old = state g.S.Store c.args.tx.now.conn.now in
    let new = state g.S.Store c.execute.new.tx.conn.now in
    let network = c.args.network in
    written_fails old new drop_address_range_text (Int (pos network) ∷ Int (pos (peer_id network c.args.first)) ∷ Int (pos (peer_id network c.args.last)) ∷ []) c.execute.result
    (λ others. drop_address_range_writes others _ _ _)
    (rw (c.number_value.ensures, c.peer_id_value.ensures, c.peer_id_value-2.ensures) at c.execute.ensures.cause)
