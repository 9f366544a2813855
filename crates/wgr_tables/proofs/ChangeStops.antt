-- Which step of a change failed: what may stop it from each step on, and that stops it as a whole.
use Rattle.std.proofs.Common.{ℕ, Result, Ok}
use Rattle.sqlite.specs.State.{State, HasCleanDisk, Survives}
use Rattle.wgr_core.specs.declared.change.Change.{Change}
use Rattle.wgr_model.specs.Rows.{Tables}
use Rattle.wgr_sql.specs.Steps.{Each}
use Rattle.wgr_sql.specs.declared.fault.Fault.{Fault}
use Rattle.wgr_tables.specs.Standing.{StepsFrom}
use Rattle.wgr_tables.specs.Stops.{ChangeStops, FailsBy, NextStays, OneOfEach, OneOfTwo, PeerStays, PeersStayOut, RouteStays, RoutesAreNotPut}
use Rattle.wgr_tables.specs.TableSteps.{PeerLeaves, PeersPut, RouteGoes, RoutePuts}
use Rattle.wgr_tables.proofs.StopLemmas.{next_fails}

-- from the new routes on
abbrev pub StopsAtRoutes : ℕ → Change → Tables → Type 0
StopsAtRoutes id c = OneOfTwo (RoutesAreNotPut id c.routes_put) (Each (RoutePuts id) c.routes_put) (NextStays id c.next)

-- from the changed peers on
abbrev pub StopsAtPeers : ℕ → Change → Tables → Type 0
StopsAtPeers id c = OneOfTwo (PeersStayOut id c.peers) (PeersPut id c.peers) (StopsAtRoutes id c)

-- from the routes that go on
abbrev pub StopsAtGone : ℕ → Change → Tables → Type 0
StopsAtGone id c = OneOfTwo (OneOfEach (RouteGoes id) (RouteStays id) c.routes_gone) (Each (RouteGoes id) c.routes_gone) (StopsAtPeers id c)

module _ (id : ℕ) (change : Change) (a b c : State) {Y : Type 0} (r : Result Y Fault) (before : Survives a b (λ _. ⊥)) (after : Survives b c (λ _. ⊥)) where
  pub behind_removed : {X : Type 0} (x : X) → (HasCleanDisk b → StepsFrom {X = X} {E = Fault} (Each (PeerLeaves id) change.removed) a b (Ok x)) → FailsBy (StopsAtGone id change) b c r → FailsBy (ChangeStops id change) a c r
  behind_removed x done = next_fails (OneOfEach (PeerLeaves id) (PeerStays id) change.removed) (Each (PeerLeaves id) change.removed) (StopsAtGone id change) a b c x r done before after

  pub behind_gone : {X : Type 0} (x : X) → (HasCleanDisk b → StepsFrom {X = X} {E = Fault} (Each (RouteGoes id) change.routes_gone) a b (Ok x)) → FailsBy (StopsAtPeers id change) b c r → FailsBy (StopsAtGone id change) a c r
  behind_gone x done = next_fails (OneOfEach (RouteGoes id) (RouteStays id) change.routes_gone) (Each (RouteGoes id) change.routes_gone) (StopsAtPeers id change) a b c x r done before after

  pub behind_peers : {X : Type 0} (x : X) → (HasCleanDisk b → StepsFrom {X = X} {E = Fault} (PeersPut id change.peers) a b (Ok x)) → FailsBy (StopsAtRoutes id change) b c r → FailsBy (StopsAtPeers id change) a c r
  behind_peers x done = next_fails (PeersStayOut id change.peers) (PeersPut id change.peers) (StopsAtRoutes id change) a b c x r done before after

  pub behind_routes : {X : Type 0} (x : X) → (HasCleanDisk b → StepsFrom {X = X} {E = Fault} (Each (RoutePuts id) change.routes_put) a b (Ok x)) → FailsBy (NextStays id change.next) b c r → FailsBy (StopsAtRoutes id change) a c r
  behind_routes x done = next_fails (RoutesAreNotPut id change.routes_put) (Each (RoutePuts id) change.routes_put) (NextStays id change.next) a b c x r done before after
