use Rattle.sqlite.specs.Held.{state}
use Rattle.wgr_model.specs.Rows.{peer_row}
use Rattle.wgr_sql.proofs.ResultLemmas.{if_ok}
use Rattle.wgr_tables.proofs.PeerLemmas.{peer_came, peer_params}
use Rattle.wgr_tables.proofs.Meanings.{insert_peer_text}
use Rattle.wgr_tables.proofs.StopLemmas.{written_fails, insert_peer_writes}
use Rattle.wgr_tables.proofs.enter.add_peer_row.Goals as goal

pub returns-clause-step : goal.returns-clause-step
returns-clause-step g c clean inside register =
    let old = state g.S.Store c.args.tx.now.conn.now in
    let new = state g.S.Store c.execute.new.tx.conn.now in (
      c.execute.ensures.kept clean inside,
      if_ok c.execute.result _ _ (λ count h. (
        peer_came old new (register h.1.was_open) (peer_row c.args.network c.args.peer.now) count
            (rw (
              c.peer_id_value.ensures,
              c.number_value.ensures,
              c.as_bytes.ensures.value,
              c.as_str.ensures.value,
              c.end_value.ensures,
              c.number_value-2.ensures,
              c.from.ensures,
              c.status_values-status.ensures.handshake,
              c.status_values-status.ensures.received,
              c.status_values-status.ensures.sent,
            ) at h.0),
        h.1,
      )) (c.execute.ensures.ran clean inside),
    )

pub returns-clause-cause : goal.returns-clause-cause
returns-clause-cause g c =
    let old = state g.S.Store c.args.tx.now.conn.now in
    let new = state g.S.Store c.execute.new.tx.conn.now in
    written_fails old new insert_peer_text (peer_params (peer_row c.args.network c.args.peer.now)) c.execute.result (λ others. insert_peer_writes others _ _ _ _ _ _ _ _ _)
    (rw (
      c.peer_id_value.ensures,
      c.number_value.ensures,
      c.as_bytes.ensures.value,
      c.as_str.ensures.value,
      c.end_value.ensures,
      c.number_value-2.ensures,
      c.from.ensures,
      c.status_values-status.ensures.handshake,
      c.status_values-status.ensures.received,
      c.status_values-status.ensures.sent,
    ) at c.execute.ensures.cause)
