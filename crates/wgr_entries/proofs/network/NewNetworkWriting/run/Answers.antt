use Rattle.std.proofs.Common.{subst}
use Rattle.sqlite.specs.Held.{state}
use Rattle.wgr_model.specs.Steps.{Settings}
use Rattle.wgr_sql.proofs.ResultLemmas.{if_ok}
use Rattle.wgr_tables.specs.Writes.{NetworkComes, NetworkGained}
use Rattle.wgr_columns.proofs.FieldLemmas.{fits_128}
use Rattle.wgr_tables.proofs.Commits.{steps_once}
use Rattle.wgr_tables.proofs.Made.{Made}
use Rattle.wgr_entries.specs.OrderSteps.{new_row}
use Rattle.wgr_entries.proofs.ComeLemmas.{network_came}
use Rattle.wgr_tables.specs.Stops.{FailsBy}
use Rattle.wgr_tables.proofs.StopLemmas.{written_fails}
use Rattle.wgr_entries.specs.Stops.{NetworkStaysOut, network_params}
use Rattle.wgr_entries.proofs.Meanings.{insert_network_text}
use Rattle.wgr_entries.proofs.StopLemmas.{insert_network_writes}
use Rattle.wgr_entries.proofs.network.NewNetworkWriting.run.Goals as goal

pub returns-clause-step : goal.returns-clause-step
returns-clause-step g c clean =
    let old = state g.S.Store c.args.tx.now.conn.now in
    let new = state g.S.Store c.execute.new.tx.conn.now in
    let own = c.settings.inside in
    let seen : Settings = record { pool = record { address = own.address; length = own.length }; host = own.host; port = own.port; server = own.server; capacity = own.capacity } in
    let low = fits_128 own.address.family own.address.number c.number.ensures.fits in
    steps_once (NetworkGained (new_row c.args.self.now.id c.args.self.now.tenant c.args.self.now.name.now c.args.self.now.settings.now)) old new c.execute.result (λ inside register. (
      c.execute.ensures.kept clean inside,
      if_ok c.execute.result _ _ (λ count h. (
        subst (λ s. Made (NetworkComes (new_row c.args.self.now.id c.args.self.now.tenant c.args.self.now.name.now s)) old.now new.now) c.settings.view_is
            (network_came old new (register h.1.was_open) (new_row c.args.self.now.id c.args.self.now.tenant c.args.self.now.name.now seen) count low
            (rw (
              c.bytes_of-lo.ensures,
              c.number.ensures.value,
              c.number_value.ensures,
              c.number_value-2.ensures,
              c.as_bytes.ensures.value,
              c.as_str.ensures.value,
              c.family_value.ensures,
              c.family.ensures.value,
              c.number_value-3.ensures,
              c.from.ensures,
              c.as_bytes-2.ensures.value,
              c.as_str-2.ensures.value,
              c.number_value-4.ensures,
              c.from-2.ensures,
              c.number-2.ensures.value,
              c.number_value-5.ensures,
              c.from-3.ensures,
              c.peers.ensures.value,
            ) at h.0)),
        h.1,
      )) (c.execute.ensures.ran clean inside),
    ))

pub returns-clause-cause : goal.returns-clause-cause
returns-clause-cause g c =
    let own = c.settings.inside in
    let seen : Settings = record { pool = record { address = own.address; length = own.length }; host = own.host; port = own.port; server = own.server; capacity = own.capacity } in
    let old = state g.S.Store c.args.tx.now.conn.now in
    let new = state g.S.Store c.execute.new.tx.conn.now in
    subst (λ s. FailsBy (NetworkStaysOut (new_row c.args.self.now.id c.args.self.now.tenant c.args.self.now.name.now s)) old new c.execute.result) c.settings.view_is
    (written_fails old new insert_network_text (network_params (new_row c.args.self.now.id c.args.self.now.tenant c.args.self.now.name.now seen)) c.execute.result (λ others. insert_network_writes others _ _ _ _ _ _ _ _ _ _)
    (rw (
      c.bytes_of-lo.ensures,
      c.number.ensures.value,
      c.number_value.ensures,
      c.number_value-2.ensures,
      c.as_bytes.ensures.value,
      c.as_str.ensures.value,
      c.family_value.ensures,
      c.family.ensures.value,
      c.number_value-3.ensures,
      c.from.ensures,
      c.as_bytes-2.ensures.value,
      c.as_str-2.ensures.value,
      c.number_value-4.ensures,
      c.from-2.ensures,
      c.number-2.ensures.value,
      c.number_value-5.ensures,
      c.from-3.ensures,
      c.peers.ensures.value,
    ) at c.execute.ensures.cause))
