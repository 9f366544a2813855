use Rattle.std.proofs.Common.{arith, Err, ℕ, subst, sym}
use Rattle.sqlite.specs.State.{HasCleanDisk}
use Rattle.sqlite.specs.Held.{state}
use Rattle.wgr_core.specs.Change.{applied}
use Rattle.wgr_core.specs.declared.change.Change.{Change}
use Rattle.wgr_model.specs.Rows.{Replaces, Tables, network_entry_of}
use Rattle.wgr_sql.specs.Steps.{Then, Each}
use Rattle.wgr_sql.specs.declared.fault.Fault.{Fault}
use Rattle.wgr_sql.proofs.StepLemmas.{chain_then_chain, chain_then_step}
use Rattle.wgr_sql.proofs.SurvivesLemmas.{survives_next}
use Rattle.wgr_columns.specs.Decode.{IsRegister, tables_of}
use Rattle.wgr_tables.specs.TableSteps.{ChangeMakes, PeerLeaves, RouteGoes, PeersPut, RoutePuts, NextSets}
use Rattle.wgr_tables.specs.Stops.{ChangeStops, NextStays, OneOfEach, PeerStays, PeersStayOut, RouteStays, RoutesAreNotPut}
use Rattle.wgr_tables.specs.Writes.{Changes, IsReplacement, Written}
use Rattle.wgr_tables.proofs.CommitRows.{change_replaces}
use Rattle.wgr_tables.proofs.Commits.{steps_as}
use Rattle.wgr_tables.proofs.StopLemmas.{failed_step, first_hands_on, first_fails, hands_on}
use Rattle.wgr_tables.proofs.ChangeStops.{StopsAtGone, StopsAtPeers, StopsAtRoutes, behind_removed, behind_gone, behind_peers, behind_routes}
use Rattle.wgr_tables.proofs.change.NetworkChangeWriting.run.Goals as goal

replaces_it : (network : ℕ) (c : Change) (t u : Tables) (one : Written) → ChangeMakes network c t u → IsReplacement network c t one → Changes one t u
replaces_it network c t u one made told =
    subst (λ w. Changes w t u) (sym told.replaced)
    (subst (λ i. ChangeMakes i c t u → Replaces i (applied c (network_entry_of t told.row).network) t u) told.id_is (change_replaces c t u told.row told.consistent told.there) made)

pub returns-clause-step : goal.returns-clause-step
returns-clause-step g c clean =
    let start = state g.S.Store c.args.tx.now.conn.now in
    let removed = state g.S.Store c.remove_peers.new.tx.conn.now in
    let gone = state g.S.Store c.drop_routes.new.tx.conn.now in
    let put = state g.S.Store c.put_peers.new.tx.conn.now in
    let led = state g.S.Store c.put_routes.new.tx.conn.now in
    let end = state g.S.Store c.set_next.new.tx.conn.now in
    let fourth : HasCleanDisk led = omega (arith, c.set_next.ensures.survives.clean, clean) in
    let third : HasCleanDisk put = omega (arith, c.put_routes.ensures.survives.clean, fourth) in
    let second : HasCleanDisk gone = omega (arith, c.put_peers.ensures.survives.clean, third) in
    let first : HasCleanDisk removed = omega (arith, c.drop_routes.ensures.survives.clean, second) in
    let change = c.args.self.now.change.now in
    let A = Each (PeerLeaves c.args.self.now.network) change.removed in
    let B = Each (RouteGoes c.args.self.now.network) change.routes_gone in
    let C = PeersPut c.args.self.now.network change.peers in
    let D = Each (RoutePuts c.args.self.now.network) change.routes_put in
    let F = NextSets c.args.self.now.network change.next in
    let four = chain_then_step IsRegister tables_of Fault D F put led end c.in_ok-put_routes.field-0 c.set_next.result (rw c.as_slice-4.ensures at (c.in_ok-put_routes.ensures.step fourth)) (c.set_next.ensures.step clean) in
    let three = chain_then_step IsRegister tables_of Fault C (Then D F) gone put end c.in_ok-put_peers.field-0 c.set_next.result (rw c.as_slice-3.ensures at (c.in_ok-put_peers.ensures.step third)) four in
    let two = chain_then_step IsRegister tables_of Fault B (Then C (Then D F)) removed gone end c.in_ok-drop_routes.field-0 c.set_next.result (rw c.as_slice-2.ensures at (c.in_ok-drop_routes.ensures.step second)) three in
    steps_as (ChangeMakes c.args.self.now.network change) (IsReplacement c.args.self.now.network change) (replaces_it c.args.self.now.network change) start end c.set_next.result
    (chain_then_step IsRegister tables_of Fault A (Then B (Then C (Then D F))) start removed end c.in_ok-remove_peers.field-0 c.set_next.result (rw c.as_slice.ensures at (c.in_ok-remove_peers.ensures.step first)) two)

pub returns-in_err-remove_peers-clause-cause : goal.returns-in_err-remove_peers-clause-cause
returns-in_err-remove_peers-clause-cause g c =
    let id = c.args.self.now.network in
    let change = c.args.self.now.change.now in
    let start = state g.S.Store c.args.tx.now.conn.now in
    let removed = state g.S.Store c.remove_peers.new.tx.conn.now in
    let why = c.in_err-remove_peers.field-0.0 in
    first_hands_on (OneOfEach (PeerLeaves id) (PeerStays id) change.removed) (Each (PeerLeaves id) change.removed) (StopsAtGone id change) start removed c.from_residual.result why c.from_residual.ensures.1
    (rw c.as_slice.ensures at c.in_err-remove_peers.ensures.cause)

pub returns-in_err-drop_routes-clause-cause : goal.returns-in_err-drop_routes-clause-cause
returns-in_err-drop_routes-clause-cause g c =
    let id = c.args.self.now.network in
    let change = c.args.self.now.change.now in
    let start = state g.S.Store c.args.tx.now.conn.now in
    let before = state g.S.Store c.remove_peers.new.tx.conn.now in
    let end = state g.S.Store c.drop_routes.new.tx.conn.now in
    let why = c.in_err-drop_routes.field-0.0 in
    hands_on (ChangeStops id change) start end c.from_residual-in_err-drop_routes.result why c.from_residual-in_err-drop_routes.ensures.1
    (behind_removed id change _ _ _ {Y = ℕ} (Err why) c.remove_peers.ensures.survives c.drop_routes.ensures.survives c.in_ok-remove_peers.field-0
    (λ clean. rw c.as_slice.ensures at (c.in_ok-remove_peers.ensures.step clean))
    (first_fails (OneOfEach (RouteGoes id) (RouteStays id) change.routes_gone) (Each (RouteGoes id) change.routes_gone) (StopsAtPeers id change) before before end why
    (rw c.as_slice-2.ensures at c.in_err-drop_routes.ensures.cause)))

pub returns-in_err-put_peers-clause-cause : goal.returns-in_err-put_peers-clause-cause
returns-in_err-put_peers-clause-cause g c =
    let id = c.args.self.now.network in
    let change = c.args.self.now.change.now in
    let start = state g.S.Store c.args.tx.now.conn.now in
    let before = state g.S.Store c.drop_routes.new.tx.conn.now in
    let end = state g.S.Store c.put_peers.new.tx.conn.now in
    let why = c.in_err-put_peers.field-0.0 in
    let from_removed = survives_next _ _ _ c.drop_routes.ensures.survives c.put_peers.ensures.survives in
    hands_on (ChangeStops id change) start end c.from_residual-in_err-put_peers.result why c.from_residual-in_err-put_peers.ensures.1
    (behind_removed id change _ _ _ {Y = ℕ} (Err why) c.remove_peers.ensures.survives from_removed c.in_ok-remove_peers.field-0
    (λ clean. rw c.as_slice.ensures at (c.in_ok-remove_peers.ensures.step clean))
    (behind_gone id change _ _ _ {Y = ℕ} (Err why) c.drop_routes.ensures.survives c.put_peers.ensures.survives c.in_ok-drop_routes.field-0
    (λ clean. rw c.as_slice-2.ensures at (c.in_ok-drop_routes.ensures.step clean))
    (first_fails (PeersStayOut id change.peers) (PeersPut id change.peers) (StopsAtRoutes id change) before before end why
    (rw c.as_slice-3.ensures at c.in_err-put_peers.ensures.cause))))

pub returns-in_err-put_routes-clause-cause : goal.returns-in_err-put_routes-clause-cause
returns-in_err-put_routes-clause-cause g c =
    let id = c.args.self.now.network in
    let change = c.args.self.now.change.now in
    let start = state g.S.Store c.args.tx.now.conn.now in
    let before = state g.S.Store c.put_peers.new.tx.conn.now in
    let end = state g.S.Store c.put_routes.new.tx.conn.now in
    let why = c.in_err-put_routes.field-0.0 in
    let from_gone = survives_next _ _ _ c.put_peers.ensures.survives c.put_routes.ensures.survives in
    let from_removed = survives_next _ _ _ c.drop_routes.ensures.survives from_gone in
    hands_on (ChangeStops id change) start end c.from_residual-in_err-put_routes.result why c.from_residual-in_err-put_routes.ensures.1
    (behind_removed id change _ _ _ {Y = ℕ} (Err why) c.remove_peers.ensures.survives from_removed c.in_ok-remove_peers.field-0
    (λ clean. rw c.as_slice.ensures at (c.in_ok-remove_peers.ensures.step clean))
    (behind_gone id change _ _ _ {Y = ℕ} (Err why) c.drop_routes.ensures.survives from_gone c.in_ok-drop_routes.field-0
    (λ clean. rw c.as_slice-2.ensures at (c.in_ok-drop_routes.ensures.step clean))
    (behind_peers id change _ _ _ {Y = ℕ} (Err why) c.put_peers.ensures.survives c.put_routes.ensures.survives c.in_ok-put_peers.field-0
    (λ clean. rw c.as_slice-3.ensures at (c.in_ok-put_peers.ensures.step clean))
    (first_fails (RoutesAreNotPut id change.routes_put) (Each (RoutePuts id) change.routes_put) (NextStays id change.next) before before end why
    (rw c.as_slice-4.ensures at c.in_err-put_routes.ensures.cause)))))

pub returns-clause-cause : goal.returns-clause-cause
returns-clause-cause g c =
    let id = c.args.self.now.network in
    let change = c.args.self.now.change.now in
    let from_put = survives_next _ _ _ c.put_routes.ensures.survives c.set_next.ensures.survives in
    let from_gone = survives_next _ _ _ c.put_peers.ensures.survives from_put in
    let from_removed = survives_next _ _ _ c.drop_routes.ensures.survives from_gone in
    behind_removed id change _ _ _ c.set_next.result c.remove_peers.ensures.survives from_removed c.in_ok-remove_peers.field-0
    (λ clean. rw c.as_slice.ensures at (c.in_ok-remove_peers.ensures.step clean))
    (behind_gone id change _ _ _ c.set_next.result c.drop_routes.ensures.survives from_gone c.in_ok-drop_routes.field-0
    (λ clean. rw c.as_slice-2.ensures at (c.in_ok-drop_routes.ensures.step clean))
    (behind_peers id change _ _ _ c.set_next.result c.put_peers.ensures.survives from_put c.in_ok-put_peers.field-0
    (λ clean. rw c.as_slice-3.ensures at (c.in_ok-put_peers.ensures.step clean))
    (behind_routes id change _ _ _ c.set_next.result c.put_routes.ensures.survives c.set_next.ensures.survives c.in_ok-put_routes.field-0
    (λ clean. rw c.as_slice-4.ensures at (c.in_ok-put_routes.ensures.step clean))
    c.set_next.ensures.cause)))

pub returns-in_err-put_routes-clause-step : goal.returns-in_err-put_routes-clause-step
returns-in_err-put_routes-clause-step g c clean =
    let start = state g.S.Store c.args.tx.now.conn.now in
    let removed = state g.S.Store c.remove_peers.new.tx.conn.now in
    let gone = state g.S.Store c.drop_routes.new.tx.conn.now in
    let put = state g.S.Store c.put_peers.new.tx.conn.now in
    let led = state g.S.Store c.put_routes.new.tx.conn.now in
    let third : HasCleanDisk put = omega (arith, c.put_routes.ensures.survives.clean, clean) in
    let second : HasCleanDisk gone = omega (arith, c.put_peers.ensures.survives.clean, third) in
    let first : HasCleanDisk removed = omega (arith, c.drop_routes.ensures.survives.clean, second) in
    let change = c.args.self.now.change.now in
    let A = Each (PeerLeaves c.args.self.now.network) change.removed in
    let B = Each (RouteGoes c.args.self.now.network) change.routes_gone in
    let C = PeersPut c.args.self.now.network change.peers in
    let D = Each (RoutePuts c.args.self.now.network) change.routes_put in
    let why = c.in_err-put_routes.field-0.0 in
    let three = chain_then_chain IsRegister tables_of {Y = ℕ} Fault C D gone put led c.in_ok-put_peers.field-0 (Err why) (rw c.as_slice-3.ensures at (c.in_ok-put_peers.ensures.step third)) (c.in_err-put_routes.ensures.step clean) in
    let two = chain_then_chain IsRegister tables_of {Y = ℕ} Fault B (Then C D) removed gone led c.in_ok-drop_routes.field-0 (Err why) (rw c.as_slice-2.ensures at (c.in_ok-drop_routes.ensures.step second)) three in
    let one = chain_then_chain IsRegister tables_of {Y = ℕ} Fault A (Then B (Then C D)) start removed led c.in_ok-remove_peers.field-0 (Err why) (rw c.as_slice.ensures at (c.in_ok-remove_peers.ensures.step first)) two in
    failed_step (Then A (Then B (Then C D))) (IsReplacement c.args.self.now.network change) start led c.from_residual-in_err-put_routes.result why c.from_residual-in_err-put_routes.ensures.1 one
