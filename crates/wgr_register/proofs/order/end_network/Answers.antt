use Rattle.std.proofs.Common.{◌≡◌, ℕ, IsTrue, List, None, Some, false, nat_eq, refl, sym, ap, subst, ◌∙◌}
use Rattle.wgr_model.specs.Register.{id_of}
use Rattle.wgr_model.specs.RowLaws.{IsRowStep}
use Rattle.wgr_model.specs.Rows.{IsFormed, NetworkRow, Tables}
use Rattle.wgr_model.specs.Steps.{Done, EndNetwork, Event}
use Rattle.wgr_model.specs.Laws.{Has}
use Rattle.wgr_core.specs.Network.{NetworkValue}
use Rattle.wgr_entries.specs.Lookups.{IsSlotOf}
use Rattle.wgr_tables.specs.Standing.{IsDone}
use Rattle.wgr_columns.specs.Decode.{tables_of}
use Rattle.wgr_tables.specs.Writes.{Changes, NetworkLost, Written}
use Rattle.wgr_register.proofs.AskLemmas.{no_network}
use Rattle.wgr_register.proofs.OrderLemmas.{network_ends, nobody_has, none_ends}
use Rattle.wgr_register.proofs.StandLemmas.{at_read, order_done, order_unread, order_unwritten}
use Rattle.sqlite.specs.Effect.{Database}
use Rattle.sqlite.specs.Held.{state}
use Rattle.sqlite.specs.State.{HasCleanDisk}
use Rattle.wgr_register.specs.Standing.{StandsAt}
use Rattle.wgr_sql.proofs.SurvivesLemmas.{survives_next, survives_still}
use Rattle.wgr_register.proofs.OrderCauses.{unread_stops, unwritten_stops}
use Rattle.wgr_register.specs.Ends.{EndsWith, is_change}
use Rattle.wgr_register.specs.Memory.{IsMemoryOf}
use Rattle.wgr_register.proofs.MemoryLemmas.{others_of}
use Rattle.wgr_register.proofs.LoadedLemmas.{shown_so}
use Rattle.wgr_register.proofs.StayLemmas.{at_next, other_stays, undone}
use Rattle.wgr_register.proofs.order.end_network.Given.{Over}
use Rattle.wgr_register.proofs.order.end_network.Goals.{After-commit}
use Rattle.wgr_register.proofs.order.end_network.Goals as goal

module _ (g : Over) (c : After-commit g) (db : Database) (late : List Event) (at : StandsAt g.S.Store c.args.conn.now db late) (clean : HasCleanDisk (state g.S.Store c.commit.new.conn)) where
  known : id_of (tables_of db).tenants c.args.tenant.now ≡ Some c.in-Some.id
  known = sym (c.in_ok-id.ensures.found db at.pending at.stands (c.network_id.ensures.reads.clean (c.commit.ensures.keeps.clean clean))) ∙ c.in-Some.is

  found : (w : NetworkRow) × Has (tables_of db).networks w × IsSlotOf w c.in-Some.id c.args.name.now × (w.id ≡ c.in-Some-2.network)
  found = rw c.in-Some-2.is at c.in_ok-network.ensures.some db at.pending (c.tenant_id.ensures.reads.stands db at.pending at.stands) (c.commit.ensures.keeps.clean clean)

  -- what the write does, if it is made
  network_goes : (u : Tables) → Changes (NetworkLost c.in-Some-2.network) (tables_of db) u → IsRowStep (tables_of db) (EndNetwork c.args.tenant.now c.args.name.now) Done u
  network_goes = network_ends (tables_of db) at.consistent c.args.tenant.now c.args.name.now c.in-Some.id c.in-Some-2.network known found.0 found.1 found.2.0 found.2.1 found.3

  module _ (done : IsDone g.S.Store c.commit.new.conn db (NetworkLost c.in-Some-2.network)) where
    network_gone : EndsWith g.S.Store c.commit.new.conn db late (EndNetwork c.args.tenant.now c.args.name.now) (λ answer. answer ≡ Done)
    network_gone = order_done g.S.Store c.commit.new.conn db late (EndNetwork c.args.tenant.now c.args.name.now) (NetworkLost c.in-Some-2.network) tt at.consistent network_goes done

    -- the other networks are formed by the rows that the connection shows
    others_show : IsTrue (state g.S.Store c.commit.new.conn).is_open → (P : Tables → Type 0)
        → ((u : Tables) → ((other : ℕ) (n : NetworkValue) → nat_eq c.in-Some-2.network other ≡ false → IsFormed (tables_of db) other n → IsFormed u other n) → P u) → P (tables_of (state g.S.Store c.commit.new.conn).now)
    others_show live P holds =
        let end = network_gone clean in
        let event = EndNetwork c.args.tenant.now c.args.name.now in
        let stays = other_stays (tables_of db) (tables_of end.2) at.consistent c.args.tenant.now c.args.name.now end.0 end.3 c.in-Some.id known found.0 found.1 found.2 in
        subst (λ d. P (tables_of d)) (sym (at_next g.S.Store c.commit.new.conn db late end.2 (is_change end.0 event) end.4 clean live))
        (holds (tables_of end.2) (λ other n off. stays other n (ap (λ i. nat_eq i other) found.3 ∙ off)))

pub returns-in_err-id-clause-ends : goal.returns-in_err-id-clause-ends
returns-in_err-id-clause-ends g c db late at =
    order_unread g.S.Store _ _ db late _ _ _ c.from_residual.ensures.1 (c.tenant_id.ensures.reads.stands db) at

pub returns-in_default-clause-ends : goal.returns-in_default-clause-ends
returns-in_default-clause-ends g c db late at = (
  at_read g.S.Store _ _ db late (c.tenant_id.ensures.reads.stands db) at,
  λ clean.
      let none : id_of (tables_of db).tenants c.args.tenant.now ≡ None = sym (c.in_ok-id.ensures.found db at.pending at.stands clean) ∙ c.in_default.is in
      nobody_has (tables_of db) at.consistent c.args.tenant.now c.args.name.now none,
)

pub returns-in_err-network-clause-ends : goal.returns-in_err-network-clause-ends
returns-in_err-network-clause-ends g c db late at =
    order_unread g.S.Store _ _ db late _ _ _ c.from_residual-in_err-network.ensures.1
    (λ pending stood. c.network_id.ensures.reads.stands db pending (c.tenant_id.ensures.reads.stands db pending stood)) at

pub returns-in_default-2-clause-ends : goal.returns-in_default-2-clause-ends
returns-in_default-2-clause-ends g c db late at = (
  at_read g.S.Store _ _ db late (λ pending stood. c.network_id.ensures.reads.stands db pending (c.tenant_id.ensures.reads.stands db pending stood)) at,
  λ clean.
      let mid = c.tenant_id.ensures.reads.stands db at.pending at.stands in
      let known : id_of (tables_of db).tenants c.args.tenant.now ≡ Some c.in-Some.id = sym (c.in_ok-id.ensures.found db at.pending at.stands (c.network_id.ensures.reads.clean clean)) ∙ c.in-Some.is in
      none_ends (tables_of db) at.consistent c.args.tenant.now c.args.name.now c.in-Some.id known (no_network (tables_of db) c.in-Some.id c.args.name.now (rw c.in_default-2.is at c.in_ok-network.ensures.none db at.pending mid clean)),
)

pub returns-in_err-commit-clause-ends : goal.returns-in_err-commit-clause-ends
returns-in_err-commit-clause-ends g c db late at =
    let one : Written = NetworkLost c.in-Some-2.network in
    let ends = network_goes g (goal.at.returns-in_err-commit-clause-ends g c).After-commit db late at in
    let near = c.network_id.ensures.reads.stands db at.pending (c.tenant_id.ensures.reads.stands db at.pending at.stands) in
    order_unwritten g.S.Store _ _ db late _ tt _ _ one c.from_residual-in_err-commit.ensures.1 c.commit.ensures.keeps.idle ends at (c.in_err-commit.ensures.commits.fault db at.pending one near (at.consistent.rows.keyed, refl))

pub returns-clause-ends : goal.returns-clause-ends
returns-clause-ends g c db late at clean =
    let one : Written = NetworkLost c.in-Some-2.network in
    let near = c.network_id.ensures.reads.stands db at.pending (c.tenant_id.ensures.reads.stands db at.pending at.stands) in
    network_gone g (goal.at.returns-clause-ends g c).After-commit db late at clean (c.in_ok-commit.ensures.commits.done db at.pending one near (at.consistent.rows.keyed, refl) clean) clean

-- ---- why it ends by a fault

pub returns-in_err-id-clause-stops : goal.returns-in_err-id-clause-stops
returns-in_err-id-clause-stops g c db late at =
    unread_stops _ _ _ _ _ _ c.from_residual.ensures.1 (survives_still _) c.tenant_id.ensures.reads.survives (c.in_err-id.ensures.cause db at.pending at.stands at.consistent)

pub returns-in_err-network-clause-stops : goal.returns-in_err-network-clause-stops
returns-in_err-network-clause-stops g c db late at =
    unread_stops _ _ _ _ _ _ c.from_residual-in_err-network.ensures.1 c.tenant_id.ensures.reads.survives c.network_id.ensures.reads.survives (c.in_err-network.ensures.cause db at.pending (c.tenant_id.ensures.reads.stands db at.pending at.stands) at.consistent)

pub returns-in_err-commit-clause-stops : goal.returns-in_err-commit-clause-stops
returns-in_err-commit-clause-stops g c db late at =
    let ends = network_goes g (goal.at.returns-in_err-commit-clause-stops g c).After-commit db late at in
    let near = c.network_id.ensures.reads.stands db at.pending (c.tenant_id.ensures.reads.stands db at.pending at.stands) in
    unwritten_stops _ _ _ _ _ _ c.from_residual-in_err-commit.ensures.1 (survives_next _ _ _ c.tenant_id.ensures.reads.survives c.network_id.ensures.reads.survives) _ c.commit.ensures.keeps.survives
    (λ clean refused. record { write = NetworkLost c.in-Some-2.network; does = ends clean; stops = refused }) (c.in_err-commit.ensures.commits.cause db at.pending near)

-- ---- where it isn't undone, the store was open

pub returns-in_err-id-clause-open : goal.returns-in_err-id-clause-open
returns-in_err-id-clause-open g c clean = undone _ _ _ c.from_residual.ensures.1

pub returns-in_default-clause-open : goal.returns-in_default-clause-open
returns-in_default-clause-open g c clean = c.in_ok-id.ensures.open clean

pub returns-in_err-network-clause-open : goal.returns-in_err-network-clause-open
returns-in_err-network-clause-open g c clean = undone _ _ _ c.from_residual-in_err-network.ensures.1

pub returns-in_default-2-clause-open : goal.returns-in_default-2-clause-open
returns-in_default-2-clause-open g c clean = c.in_ok-id.ensures.open (c.network_id.ensures.reads.clean clean)

pub returns-in_err-commit-clause-open : goal.returns-in_err-commit-clause-open
returns-in_err-commit-clause-open g c clean = undone _ _ _ c.from_residual-in_err-commit.ensures.1

pub returns-clause-open : goal.returns-clause-open
returns-clause-open g c clean = c.in_ok-id.ensures.open (c.network_id.ensures.reads.clean (c.commit.ensures.keeps.clean clean))

-- ---- what stays in memory

pub returns-in_err-id-clause-memory : goal.returns-in_err-id-clause-memory
returns-in_err-id-clause-memory g c db late at is = undone _ _ _ c.from_residual.ensures.1

pub returns-in_default-clause-memory : goal.returns-in_default-clause-memory
returns-in_default-clause-memory g c db late at is =
    shown_so g.S.Store c.tenant_id.new.conn db at.pending (IsMemoryOf c.args.memory.now) (c.tenant_id.ensures.reads.stands db at.pending at.stands) is

pub returns-in_err-network-clause-memory : goal.returns-in_err-network-clause-memory
returns-in_err-network-clause-memory g c db late at is = undone _ _ _ c.from_residual-in_err-network.ensures.1

pub returns-in_default-2-clause-memory : goal.returns-in_default-2-clause-memory
returns-in_default-2-clause-memory g c db late at is =
    shown_so g.S.Store c.network_id.new.conn db at.pending (IsMemoryOf c.args.memory.now) (c.network_id.ensures.reads.stands db at.pending (c.tenant_id.ensures.reads.stands db at.pending at.stands)) is

pub returns-in_err-commit-clause-memory : goal.returns-in_err-commit-clause-memory
returns-in_err-commit-clause-memory g c db late at is = undone _ _ _ c.from_residual-in_err-commit.ensures.1

pub returns-clause-memory : goal.returns-clause-memory
returns-clause-memory g c db late at is clean live =
    let near = c.network_id.ensures.reads.stands db at.pending (c.tenant_id.ensures.reads.stands db at.pending at.stands) in
    let done = c.in_ok-commit.ensures.commits.done db at.pending (NetworkLost c.in-Some-2.network) near (at.consistent.rows.keyed, refl) clean in
    others_show g (goal.at.returns-clause-memory g c).After-commit db late at clean done live (IsMemoryOf c.forget.new.self)
    (λ u stays. c.forget.ensures u (others_of c.in-Some-2.network c.args.memory.now (tables_of db) u stays is))
