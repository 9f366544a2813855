use Rattle.std.proofs.Common.{◌∙◌, Ok, subst}
use Rattle.std.proofs.lemmas.List.{take_all}
use Rattle.sqlite.specs.Held.{state}
use Rattle.wgr_peers.specs.declared.peer.Peer.{Peer}
use Rattle.wgr_sql.specs.declared.fault.Fault.{Fault}
use Rattle.wgr_sql.specs.Steps.{Each}
use Rattle.wgr_tables.specs.TableSteps.{PeerRowsGo}
use Rattle.wgr_tables.specs.Standing.{StepsFrom}
use Rattle.wgr_tables.specs.Stops.{PeerRowsStay}
use Rattle.wgr_tables.proofs.Loops.{item_hands_on, one_more, taken}
use Rattle.wgr_tables.proofs.enter.drop_one_by_one.Goals as goal

pub loop-peer-preserved : goal.loop-peer-preserved
loop-peer-preserved g c = (
  c.drop_rows.ensures.same_reference ∙ c.loop-peer.invariant.0,
  one_more (λ (p : Peer). PeerRowsGo c.args.network p.number) c.args.peers.now _ _ (taken _ _ _ c.loop-peer-test.true c.peer-item.is) _ _ _ c.loop-peer.invariant.1 c.drop_rows.ensures.survives
      c.in_ok-drop_rows.field-0 (λ clean. c.in_ok-drop_rows.ensures.step clean),
)

pub returns-clause-step : goal.returns-clause-step
returns-clause-step g c clean =
    let start = state g.S.Store c.args.tx.now.conn.now in
    let now = state g.S.Store c.loop-peer.tx.conn.now in
    subst (λ l. StepsFrom {X = Unit {0}} {E = Fault} (Each (λ (p : Peer). PeerRowsGo c.args.network p.number) l) start now (Ok tt)) (take_all _ c.args.peers.now c.loop-peer-test.false)
    (c.loop-peer.invariant.1.1 clean)

pub returns-in_err-drop_rows-clause-cause : goal.returns-in_err-drop_rows-clause-cause
returns-in_err-drop_rows-clause-cause g c =
    item_hands_on (λ (p : Peer). PeerRowsGo c.args.network p.number) c.args.peers.now _ _ (taken _ _ _ c.loop-peer-test.true c.peer-item.is) _ _ _ c.loop-peer.invariant.1 c.drop_rows.ensures.survives
    (λ (p : Peer). PeerRowsStay c.args.network p.number) c.from_residual.result c.in_err-drop_rows.field-0.0 c.from_residual.ensures.1 c.in_err-drop_rows.ensures.cause
