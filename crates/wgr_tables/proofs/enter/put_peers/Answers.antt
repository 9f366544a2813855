use Rattle.std.proofs.Common.{arith}
use Rattle.sqlite.specs.State.{HasCleanDisk}
use Rattle.sqlite.specs.Held.{state}
use Rattle.wgr_peers.specs.declared.peer.Peer.{Peer}
use Rattle.wgr_sql.specs.declared.fault.Fault.{Fault}
use Rattle.wgr_sql.specs.Steps.{Each}
use Rattle.wgr_sql.proofs.StepLemmas.{chain_then_chain}
use Rattle.wgr_columns.specs.Decode.{IsRegister, tables_of}
use Rattle.wgr_tables.specs.TableSteps.{PeerRowsGo, PeerComes}
use Rattle.wgr_tables.specs.Stops.{AllRowsStay, OneOfEach, PeerStaysOut}
use Rattle.wgr_tables.proofs.StopLemmas.{first_hands_on, next_fails}
use Rattle.wgr_tables.proofs.enter.put_peers.Goals as goal

pub returns-clause-step : goal.returns-clause-step
returns-clause-step g c clean =
    let network = c.args.network in
    let peers = c.args.peers.now in
    let Gone = Each (λ (p : Peer). PeerRowsGo network p.number) peers in
    let a = state g.S.Store c.args.tx.now.conn.now in
    let b = state g.S.Store c.drop_all_rows.new.tx.conn.now in
    let d = state g.S.Store c.add_peers.new.tx.conn.now in
    let was : HasCleanDisk b = omega (arith, c.add_peers.ensures.survives.clean, clean) in
    chain_then_chain IsRegister tables_of Fault Gone (Each (PeerComes network) peers) a b d c.in_ok-drop_all_rows.field-0 c.add_peers.result
    (c.in_ok-drop_all_rows.ensures.step was) (c.add_peers.ensures.step clean)

pub returns-in_err-drop_all_rows-clause-cause : goal.returns-in_err-drop_all_rows-clause-cause
returns-in_err-drop_all_rows-clause-cause g c =
    let network = c.args.network in
    let peers = c.args.peers.now in
    let Gone = Each (λ (p : Peer). PeerRowsGo network p.number) peers in
    first_hands_on (AllRowsStay network peers) Gone (OneOfEach (PeerComes network) (PeerStaysOut network) peers)
    (state g.S.Store c.args.tx.now.conn.now) (state g.S.Store c.drop_all_rows.new.tx.conn.now) c.from_residual.result _ c.from_residual.ensures.1 c.in_err-drop_all_rows.ensures.cause

pub returns-clause-cause : goal.returns-clause-cause
returns-clause-cause g c =
    let network = c.args.network in
    let peers = c.args.peers.now in
    let Gone = Each (λ (p : Peer). PeerRowsGo network p.number) peers in
    next_fails (AllRowsStay network peers) Gone (OneOfEach (PeerComes network) (PeerStaysOut network) peers) _ _ _ c.in_ok-drop_all_rows.field-0 c.add_peers.result
    (λ clean. c.in_ok-drop_all_rows.ensures.step clean) c.drop_all_rows.ensures.survives c.add_peers.ensures.survives c.add_peers.ensures.cause
