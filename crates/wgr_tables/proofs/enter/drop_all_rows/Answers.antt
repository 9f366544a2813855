use Rattle.std.proofs.Common.{ℕ, Err, inl, inr}
use Rattle.sqlite.specs.Held.{state}
use Rattle.wgr_peers.specs.declared.peer.Peer.{Peer}
use Rattle.wgr_sql.specs.Steps.{Each}
use Rattle.wgr_tables.specs.TableSteps.{PeerRowsGo, RangeGoes}
use Rattle.wgr_tables.proofs.RangeLemmas.{as_chain, range_goes}
use Rattle.wgr_tables.specs.Stops.{AllRowsStay, OneOfEach, PeerRowsStay, RangeStays}
use Rattle.wgr_tables.proofs.StopLemmas.{hands_on, weaker_fails}
use Rattle.wgr_tables.proofs.enter.drop_all_rows.Goals as goal

pub returns-in-Some-clause-step : goal.returns-in-Some-clause-step
returns-in-Some-clause-step g c clean =
    let network = c.args.network in
    let first = c.in-Some.first in
    let last = c.in-Some.last in
    let peers = c.args.peers.now in
    let old = state g.S.Store c.args.tx.now.conn.now in
    let new = state g.S.Store c.drop_range.new.tx.conn.now in
    as_chain {X = ℕ} {Y = Unit {0}} (RangeGoes network first last) (Each (λ (p : Peer). PeerRowsGo network p.number) peers) (range_goes network first last peers c.in-Some.ensures.0 c.in-Some.ensures.1)
    old new c.in_ok-drop_range.field-0 tt (c.in_ok-drop_range.ensures.step clean)

pub returns-in_err-drop_range-clause-cause : goal.returns-in_err-drop_range-clause-cause
returns-in_err-drop_range-clause-cause g c =
    let network = c.args.network in
    let first = c.in-Some.first in
    let last = c.in-Some.last in
    let peers = c.args.peers.now in
    let old = state g.S.Store c.args.tx.now.conn.now in
    let new = state g.S.Store c.drop_range.new.tx.conn.now in
    let why = c.in_err-drop_range.field-0.0 in
    hands_on (AllRowsStay network peers) old new c.from_residual.result why c.from_residual.ensures.1
    (weaker_fails {X = ℕ} (RangeStays network first last) (AllRowsStay network peers) old new (Err why) (λ t stays. inr (first, last, c.in-Some.ensures.0, c.in-Some.ensures.1, stays)) c.in_err-drop_range.ensures.cause)

pub returns-clause-cause : goal.returns-clause-cause
returns-clause-cause g c =
    let network = c.args.network in
    let peers = c.args.peers.now in
    let old = state g.S.Store c.args.tx.now.conn.now in
    let new = state g.S.Store c.drop_one_by_one.new.tx.conn.now in
    weaker_fails (OneOfEach (λ (p : Peer). PeerRowsGo network p.number) (λ (p : Peer). PeerRowsStay network p.number) peers) (AllRowsStay network peers) old new c.drop_one_by_one.result
    (λ t stays. inl stays) c.drop_one_by_one.ensures.cause
