use Rattle.std.proofs.Common.{◌≡◌, arith, subst, sym}
use Rattle.sqlite.specs.State.{HasCleanDisk}
use Rattle.sqlite.specs.Held.{state}
use Rattle.wgr_sql.specs.Steps.{Then}
use Rattle.wgr_sql.specs.declared.fault.Fault.{Fault}
use Rattle.wgr_sql.proofs.StepLemmas.{steps_then}
use Rattle.wgr_columns.specs.Decode.{IsRegister, tables_of}
use Rattle.wgr_entries.specs.OrderSteps.{NetworkAllowedGoes, NetworkGoes, NetworkRowGoes, NetworkPeersGo}
use Rattle.std.proofs.Common.{ℕ, Err, Ok}
use Rattle.wgr_sql.specs.Causes.{HasCauseOr}
use Rattle.wgr_sql.proofs.CauseLemmas.{handed}
use Rattle.wgr_sql.proofs.StepLemmas.{from_step}
use Rattle.wgr_sql.proofs.SurvivesLemmas.{survives_next}
use Rattle.wgr_tables.specs.Stops.{OneOfTwo}
use Rattle.wgr_model.specs.Rows.{AreKeyed, Tables}
use Rattle.wgr_tables.specs.Writes.{Changes, NetworkLost, Written}
use Rattle.wgr_tables.proofs.Commits.{steps_as}
use Rattle.wgr_tables.proofs.Made.{Made}
use Rattle.wgr_tables.proofs.StopLemmas.{first_fails, next_fails}
use Rattle.wgr_entries.proofs.GoLemmas.{network_removed}
use Rattle.wgr_entries.specs.Stops.{NetworkAllowedStays, NetworkRowStays, NetworkStays, PeersStay}
use Rattle.wgr_entries.proofs.network.EndedNetworkWriting.run.Goals as goal

removes_it : (id : ℕ) (t u : Tables) (one : Written) → NetworkGoes id t u → AreKeyed t × (one ≡ NetworkLost id) → Changes one t u
removes_it id t u one gone (keyed, lost) = subst (λ w. Changes w t u) (sym lost) (network_removed id t u keyed gone)

pub returns-clause-step : goal.returns-clause-step
returns-clause-step g c clean =
    let a = state g.S.Store c.args.tx.now.conn.now in
    let b = state g.S.Store c.drop_allowed.new.tx.conn.now in
    let d = state g.S.Store c.drop_peers.new.tx.conn.now in
    let e = state g.S.Store c.drop_network_row.new.tx.conn.now in
    let clean_d : HasCleanDisk d = omega (arith, c.drop_network_row.ensures.survives.clean, clean) in
    let clean_b : HasCleanDisk b = omega (arith, c.drop_peers.ensures.survives.clean, clean_d) in
    let id = c.args.self.now.network in
    let two = steps_then IsRegister tables_of Fault (NetworkPeersGo id) (NetworkRowGoes id) b d e c.in_ok-drop_peers.field-0 c.drop_network_row.result (c.in_ok-drop_peers.ensures.step clean_d) (c.drop_network_row.ensures.step clean) in
    steps_as (NetworkGoes id) (λ t one. AreKeyed t × (one ≡ NetworkLost id)) (removes_it id) a e c.drop_network_row.result
    (steps_then IsRegister tables_of Fault (NetworkAllowedGoes id) (Then (NetworkPeersGo id) (NetworkRowGoes id)) a b e c.in_ok-drop_allowed.field-0 c.drop_network_row.result (c.in_ok-drop_allowed.ensures.step clean_b) two)

pub returns-in_err-drop_allowed-clause-cause : goal.returns-in_err-drop_allowed-clause-cause
returns-in_err-drop_allowed-clause-cause g c inside register =
    let id = c.args.self.now.network in
    let a = state g.S.Store c.args.tx.now.conn.now in
    let b = state g.S.Store c.drop_allowed.new.tx.conn.now in
    handed (HasCauseOr (NetworkStays id (tables_of a.now)) a b) c.from_residual.result c.in_err-drop_allowed.field-0.0 c.from_residual.ensures.1
    (first_fails (NetworkAllowedStays id) (NetworkAllowedGoes id) (OneOfTwo (PeersStay id) (NetworkPeersGo id) (NetworkRowStays id)) a a b c.in_err-drop_allowed.field-0.0 c.in_err-drop_allowed.ensures.cause inside register)

pub returns-in_err-drop_peers-clause-cause : goal.returns-in_err-drop_peers-clause-cause
returns-in_err-drop_peers-clause-cause g c inside register =
    let id = c.args.self.now.network in
    let a = state g.S.Store c.args.tx.now.conn.now in
    let b = state g.S.Store c.drop_allowed.new.tx.conn.now in
    let d = state g.S.Store c.drop_peers.new.tx.conn.now in
    let why = c.in_err-drop_peers.field-0.0 in
    handed (HasCauseOr (NetworkStays id (tables_of a.now)) a d) c.from_residual-in_err-drop_peers.result why c.from_residual-in_err-drop_peers.ensures.1
    (next_fails (NetworkAllowedStays id) (NetworkAllowedGoes id) (OneOfTwo (PeersStay id) (NetworkPeersGo id) (NetworkRowStays id)) a b d {Y = ℕ} c.in_ok-drop_allowed.field-0 (Err why)
    (λ clean. from_step IsRegister {X = ℕ} {E = Fault} (Made (NetworkAllowedGoes id)) a b (Ok c.in_ok-drop_allowed.field-0) (c.in_ok-drop_allowed.ensures.step clean)) c.drop_allowed.ensures.survives c.drop_peers.ensures.survives
    (first_fails (PeersStay id) (NetworkPeersGo id) (NetworkRowStays id) b b d why c.in_err-drop_peers.ensures.cause) inside register)

pub returns-clause-cause : goal.returns-clause-cause
returns-clause-cause g c =
    let id = c.args.self.now.network in
    let a = state g.S.Store c.args.tx.now.conn.now in
    let b = state g.S.Store c.drop_allowed.new.tx.conn.now in
    let d = state g.S.Store c.drop_peers.new.tx.conn.now in
    let e = state g.S.Store c.drop_network_row.new.tx.conn.now in
    next_fails (NetworkAllowedStays id) (NetworkAllowedGoes id) (OneOfTwo (PeersStay id) (NetworkPeersGo id) (NetworkRowStays id)) a b e c.in_ok-drop_allowed.field-0 c.drop_network_row.result
    (λ clean. from_step IsRegister {X = ℕ} {E = Fault} (Made (NetworkAllowedGoes id)) a b (Ok c.in_ok-drop_allowed.field-0) (c.in_ok-drop_allowed.ensures.step clean)) c.drop_allowed.ensures.survives (survives_next _ _ _ c.drop_peers.ensures.survives c.drop_network_row.ensures.survives)
    (next_fails (PeersStay id) (NetworkPeersGo id) (NetworkRowStays id) b d e c.in_ok-drop_peers.field-0 c.drop_network_row.result
    (λ clean. from_step IsRegister {X = ℕ} {E = Fault} (Made (NetworkPeersGo id)) b d (Ok c.in_ok-drop_peers.field-0) (c.in_ok-drop_peers.ensures.step clean)) c.drop_peers.ensures.survives c.drop_network_row.ensures.survives c.drop_network_row.ensures.cause)
