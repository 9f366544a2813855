use Rattle.std.proofs.Common.{arith}
use Rattle.sqlite.specs.State.{HasCleanDisk}
use Rattle.sqlite.specs.Held.{state}
use Rattle.wgr_model.specs.Rows.{peer_id}
use Rattle.wgr_tables.specs.TableSteps.{PeerGoes, AllowedGoes, is_address_of}
use Rattle.wgr_tables.specs.Stops.{PeerRowStays, AddressStays}
use Rattle.wgr_sql.specs.declared.fault.Fault.{Fault}
use Rattle.wgr_sql.proofs.StepLemmas.{steps_then}
use Rattle.wgr_columns.specs.Decode.{IsRegister, tables_of}
use Rattle.wgr_tables.proofs.StopLemmas.{first_hands_on, second_fails}
use Rattle.wgr_tables.proofs.enter.drop_rows.Goals as goal

pub returns-clause-step : goal.returns-clause-step
returns-clause-step g c clean =
    let network = c.args.network in
    let id = peer_id network c.args.number in
    let a = state g.S.Store c.args.tx.now.conn.now in
    let b = state g.S.Store c.drop_peer_row.new.tx.conn.now in
    let d = state g.S.Store c.drop_address.new.tx.conn.now in
    let was : HasCleanDisk b = omega (arith, c.drop_address.ensures.survives.clean, clean) in
    steps_then IsRegister tables_of Fault (PeerGoes network id) (AllowedGoes (is_address_of network id)) a b d c.in_ok-drop_peer_row.field-0 c.drop_address.result
    (c.in_ok-drop_peer_row.ensures.step was) (c.drop_address.ensures.step clean)

pub returns-in_err-drop_peer_row-clause-cause : goal.returns-in_err-drop_peer_row-clause-cause
returns-in_err-drop_peer_row-clause-cause g c =
    let network = c.args.network in
    let id = peer_id network c.args.number in
    first_hands_on (PeerRowStays network id) (PeerGoes network id) (AddressStays network id)
    (state g.S.Store c.args.tx.now.conn.now) (state g.S.Store c.drop_peer_row.new.tx.conn.now) c.from_residual.result _ c.from_residual.ensures.1 c.in_err-drop_peer_row.ensures.cause

pub returns-clause-cause : goal.returns-clause-cause
returns-clause-cause g c =
    let network = c.args.network in
    let id = peer_id network c.args.number in
    second_fails (PeerRowStays network id) (PeerGoes network id) (AddressStays network id) _ _ _ c.in_ok-drop_peer_row.field-0 c.drop_address.result
    (λ clean. c.in_ok-drop_peer_row.ensures.step clean) c.drop_peer_row.ensures.survives c.drop_address.ensures.survives c.drop_address.ensures.cause
