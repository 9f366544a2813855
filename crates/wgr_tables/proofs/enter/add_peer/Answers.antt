use Rattle.std.proofs.Common.{arith}
use Rattle.sqlite.specs.State.{HasCleanDisk}
use Rattle.sqlite.specs.Held.{state}
use Rattle.wgr_model.specs.Rows.{peer_row, address_row}
use Rattle.wgr_tables.specs.TableSteps.{PeerRowComes, AllowedComes}
use Rattle.wgr_tables.specs.Stops.{PeerRowStaysOut, AddressStaysOut}
use Rattle.wgr_sql.specs.declared.fault.Fault.{Fault}
use Rattle.wgr_sql.proofs.StepLemmas.{steps_then}
use Rattle.wgr_columns.specs.Decode.{IsRegister, tables_of}
use Rattle.wgr_tables.proofs.StopLemmas.{first_hands_on, second_fails}
use Rattle.wgr_tables.proofs.enter.add_peer.Goals as goal

pub returns-clause-step : goal.returns-clause-step
returns-clause-step g c clean =
    let peer = peer_row c.args.network c.args.peer.now in
    let address = address_row c.args.network c.args.peer.now in
    let a = state g.S.Store c.args.tx.now.conn.now in
    let b = state g.S.Store c.add_peer_row.new.tx.conn.now in
    let d = state g.S.Store c.add_address.new.tx.conn.now in
    let was : HasCleanDisk b = omega (arith, c.add_address.ensures.survives.clean, clean) in
    steps_then IsRegister tables_of Fault (PeerRowComes peer) (AllowedComes address) a b d c.in_ok-add_peer_row.field-0 c.add_address.result
    (c.in_ok-add_peer_row.ensures.step was) (c.add_address.ensures.step clean)

pub returns-in_err-add_peer_row-clause-cause : goal.returns-in_err-add_peer_row-clause-cause
returns-in_err-add_peer_row-clause-cause g c =
    let peer = peer_row c.args.network c.args.peer.now in
    let address = address_row c.args.network c.args.peer.now in
    first_hands_on (PeerRowStaysOut peer) (PeerRowComes peer) (AddressStaysOut address)
    (state g.S.Store c.args.tx.now.conn.now) (state g.S.Store c.add_peer_row.new.tx.conn.now) c.from_residual.result _ c.from_residual.ensures.1 c.in_err-add_peer_row.ensures.cause

pub returns-clause-cause : goal.returns-clause-cause
returns-clause-cause g c =
    let peer = peer_row c.args.network c.args.peer.now in
    let address = address_row c.args.network c.args.peer.now in
    second_fails (PeerRowStaysOut peer) (PeerRowComes peer) (AddressStaysOut address) _ _ _ c.in_ok-add_peer_row.field-0 c.add_address.result
    (λ clean. c.in_ok-add_peer_row.ensures.step clean) c.add_peer_row.ensures.survives c.add_address.ensures.survives c.add_address.ensures.cause
