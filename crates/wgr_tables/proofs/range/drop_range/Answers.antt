use Rattle.std.proofs.Common.{arith}
use Rattle.sqlite.specs.State.{HasCleanDisk}
use Rattle.sqlite.specs.Held.{state}
use Rattle.wgr_model.specs.Rows.{peer_id}
use Rattle.wgr_tables.specs.TableSteps.{PeersGo, AllowedGoes, is_address_within}
use Rattle.wgr_tables.specs.Stops.{PeerRangeStays, AddressRangeStays}
use Rattle.wgr_sql.specs.declared.fault.Fault.{Fault}
use Rattle.wgr_sql.proofs.StepLemmas.{steps_then}
use Rattle.wgr_columns.specs.Decode.{IsRegister, tables_of}
use Rattle.wgr_tables.proofs.StopLemmas.{first_hands_on, second_fails}
use Rattle.wgr_tables.proofs.range.drop_range.Goals as goal

pub returns-clause-step : goal.returns-clause-step
returns-clause-step g c clean =
    let network = c.args.network in
    let first = peer_id network c.args.first in
    let last = peer_id network c.args.last in
    let a = state g.S.Store c.args.tx.now.conn.now in
    let b = state g.S.Store c.drop_peer_range.new.tx.conn.now in
    let d = state g.S.Store c.drop_address_range.new.tx.conn.now in
    let was : HasCleanDisk b = omega (arith, c.drop_address_range.ensures.survives.clean, clean) in
    steps_then IsRegister tables_of Fault (PeersGo network first last) (AllowedGoes (is_address_within network first last)) a b d c.in_ok-drop_peer_range.field-0 c.drop_address_range.result
    (c.in_ok-drop_peer_range.ensures.step was) (c.drop_address_range.ensures.step clean)

pub returns-in_err-drop_peer_range-clause-cause : goal.returns-in_err-drop_peer_range-clause-cause
returns-in_err-drop_peer_range-clause-cause g c =
    let network = c.args.network in
    let first = peer_id network c.args.first in
    let last = peer_id network c.args.last in
    first_hands_on (PeerRangeStays network first last) (PeersGo network first last) (AddressRangeStays network first last)
    (state g.S.Store c.args.tx.now.conn.now) (state g.S.Store c.drop_peer_range.new.tx.conn.now) c.from_residual.result _ c.from_residual.ensures.1 c.in_err-drop_peer_range.ensures.cause

pub returns-clause-cause : goal.returns-clause-cause
returns-clause-cause g c =
    let network = c.args.network in
    let first = peer_id network c.args.first in
    let last = peer_id network c.args.last in
    second_fails (PeerRangeStays network first last) (PeersGo network first last) (AddressRangeStays network first last) _ _ _ c.in_ok-drop_peer_range.field-0 c.drop_address_range.result
    (λ clean. c.in_ok-drop_peer_range.ensures.step clean) c.drop_peer_range.ensures.survives c.drop_address_range.ensures.survives c.drop_address_range.ensures.cause
