use Rattle.std.proofs.Common.{◌≡◌, ℕ, List, [], None, Some, Result, Ok, Err, IsPermutation, map, refl, sym, ◌∙◌}
use Rattle.wgr_model.specs.Register.{id_of}
use Rattle.wgr_model.specs.RowLaws.{IsRowStep}
use Rattle.wgr_model.specs.Rows.{NetworkRow, Tables}
use Rattle.wgr_model.specs.Steps.{AddNetwork, Done, Event}
use Rattle.wgr_entries.specs.OrderSteps.{new_row}
use Rattle.wgr_columns.specs.Decode.{tables_of}
use Rattle.wgr_entries.specs.Lookups.{settled}
use Rattle.wgr_tables.specs.Writes.{Changes, NetworkGained, Written}
use Rattle.wgr_register.specs.Ends.{AdmitsNetwork}
use Rattle.wgr_register.specs.declared.fault.OrderFault.{OrderFault}
use Rattle.wgr_register.proofs.NetworkLemmas.{admits_by, network_comes, network_refused, nobody_has_it}
use Rattle.wgr_register.proofs.StandLemmas.{at_read, order_done, order_refused, order_unread, order_unwritten}
use Rattle.sqlite.specs.Effect.{Database}
use Rattle.sqlite.specs.Held.{state}
use Rattle.sqlite.specs.State.{HasCleanDisk}
use Rattle.wgr_register.specs.Standing.{StandsAt}
use Rattle.wgr_sql.proofs.SurvivesLemmas.{survives_next, survives_still}
use Rattle.wgr_register.proofs.OrderCauses.{admitted_stops, unread_stops, unwritten_stops}
use Rattle.wgr_register.proofs.CauseLemmas.{network_kept, tenant_kept}
use Rattle.wgr_register.proofs.StayLemmas.{undone, unless_undone}
use Rattle.wgr_register.proofs.order.add_network.Given.{Over}
use Rattle.wgr_register.proofs.order.add_network.Goals.{After-admit}
use Rattle.wgr_register.proofs.order.add_network.Goals as goal

-- what was read, once the checks are to be made
module _ (g : Over) (c : After-admit g) (db : Database) (late : List Event) (at : StandsAt g.S.Store c.args.conn.now db late) (clean : HasCleanDisk (state g.S.Store c.settled_networks.new.conn)) where
  abbrev t : Tables
  t = tables_of db

  known : id_of t.tenants c.args.tenant.now ≡ Some c.in-Some.id
  known = sym (c.in_ok-id.ensures.found db at.pending at.stands (c.tenants.ensures.reads.clean (c.settled_networks.ensures.reads.clean clean))) ∙ c.in-Some.is

  tenants_read : IsPermutation t.tenants c.in_ok-tenants.tenants.items
  tenants_read = c.in_ok-tenants.ensures.listed db at.pending (c.tenant_id.ensures.reads.stands db at.pending at.stands) (c.settled_networks.ensures.reads.clean clean)

  networks_read : (ws : List NetworkRow) × IsPermutation t.networks ws × (c.in_ok-networks.networks.items ≡ map settled ws)
  networks_read = c.in_ok-networks.ensures.listed db at.pending (c.tenants.ensures.reads.stands db at.pending (c.tenant_id.ensures.reads.stands db at.pending at.stands)) clean

  admits_read : (r : Result ℕ OrderFault) → AdmitsNetwork (record { tenants = c.as_slice.result.now; tokens = []; readers = []; networks = c.as_slice-2.result.now }) c.in-Some.id c.args.name.now c.args.settings.now r
      → AdmitsNetwork (record { tenants = c.in_ok-tenants.tenants.items; tokens = []; readers = []; networks = map settled networks_read.0 }) c.in-Some.id c.args.name.now c.args.settings.now r
  admits_read r is =
      admits_by c.as_slice.result.now c.in_ok-tenants.tenants.items c.as_slice-2.result.now (map settled networks_read.0) c.in-Some.id c.args.name.now c.args.settings.now r c.as_slice.ensures.value
      (c.as_slice-2.ensures.value ∙ networks_read.2) is

  -- what the write does, if it is made
  network_joins : (new : ℕ) → AdmitsNetwork (record { tenants = c.as_slice.result.now; tokens = []; readers = []; networks = c.as_slice-2.result.now }) c.in-Some.id c.args.name.now c.args.settings.now (Ok new) → (u : Tables)
      → Changes (NetworkGained (new_row new c.in-Some.id c.args.name.now c.args.settings.now)) t u → IsRowStep t (AddNetwork c.args.tenant.now c.args.name.now c.args.settings.now) Done u
  network_joins new is =
      network_comes t at.consistent c.args.tenant.now c.args.name.now c.args.settings.now c.in_ok-tenants.tenants.items networks_read.0 tenants_read networks_read.1 c.in-Some.id known new (admits_read (Ok new) is)

pub returns-in_err-id-clause-ends : goal.returns-in_err-id-clause-ends
returns-in_err-id-clause-ends g c db late at proper =
    order_unread g.S.Store _ _ db late _ _ _ c.from_residual.ensures.1 (c.tenant_id.ensures.reads.stands db) at

pub returns-in_default-clause-ends : goal.returns-in_default-clause-ends
returns-in_default-clause-ends g c db late at proper = (
  at_read g.S.Store _ _ db late (c.tenant_id.ensures.reads.stands db) at,
  λ clean.
      let none : id_of (tables_of db).tenants c.args.tenant.now ≡ None = sym (c.in_ok-id.ensures.found db at.pending at.stands clean) ∙ c.in_default.is in
      nobody_has_it (tables_of db) at.consistent c.args.tenant.now c.args.name.now c.args.settings.now none,
)

pub returns-in_err-tenants-clause-ends : goal.returns-in_err-tenants-clause-ends
returns-in_err-tenants-clause-ends g c db late at proper =
    order_unread g.S.Store _ _ db late _ _ _ c.from_residual-in_err-tenants.ensures.1
    (λ pending stood. c.tenants.ensures.reads.stands db pending (c.tenant_id.ensures.reads.stands db pending stood)) at

pub returns-in_err-networks-clause-ends : goal.returns-in_err-networks-clause-ends
returns-in_err-networks-clause-ends g c db late at proper =
    order_unread g.S.Store _ _ db late _ _ _ c.from_residual-in_err-networks.ensures.1
    (λ pending stood. c.settled_networks.ensures.reads.stands db pending (c.tenants.ensures.reads.stands db pending (c.tenant_id.ensures.reads.stands db pending stood))) at

pub returns-in_err-new-clause-ends : goal.returns-in_err-new-clause-ends
returns-in_err-new-clause-ends g c db late at proper =
    let a = (goal.at.returns-in_err-new-clause-ends g c).After-admit in
    order_refused g.S.Store _ db late _ _ _ c.from_residual-in_err-new.ensures.1
    (at_read g.S.Store _ _ db late (λ pending stood. c.settled_networks.ensures.reads.stands db pending (c.tenants.ensures.reads.stands db pending (c.tenant_id.ensures.reads.stands db pending stood))) at)
    (λ refusal why clean.
    let networks = networks_read g a db late at clean in
    let told = admits_read g a db late at clean (Err c.in_err-new.field-0.0) c.in_err-new.ensures in
    network_refused (tables_of db) at.consistent c.args.tenant.now c.args.name.now c.args.settings.now c.in_ok-tenants.tenants.items networks.0 (tenants_read g a db late at clean) networks.1 c.in-Some.id (known g a db late at clean) refusal
    (rw why at told))

pub returns-in_err-commit-clause-ends : goal.returns-in_err-commit-clause-ends
returns-in_err-commit-clause-ends g c db late at proper =
    let one : Written = NetworkGained (new_row c.in_ok-new.new c.in-Some.id c.args.name.now c.args.settings.now) in
    let ends = λ (clean : HasCleanDisk (state g.S.Store c.commit.new.conn)).
    network_joins g (goal.at.returns-in_err-commit-clause-ends g c).After-admit db late at (c.commit.ensures.keeps.clean clean) c.in_ok-new.new c.in_ok-new.ensures in
    let last = c.settled_networks.ensures.reads.stands db at.pending (c.tenants.ensures.reads.stands db at.pending (c.tenant_id.ensures.reads.stands db at.pending at.stands)) in
    order_unwritten g.S.Store _ _ db late _ proper _ _ one c.from_residual-in_err-commit.ensures.1 c.commit.ensures.keeps.idle
    ends at (c.in_err-commit.ensures.commits.fault db at.pending one last refl)

pub returns-clause-ends : goal.returns-clause-ends
returns-clause-ends g c db late at proper clean =
    let one : Written = NetworkGained (new_row c.in_ok-new.new c.in-Some.id c.args.name.now c.args.settings.now) in
    let ends = network_joins g (goal.at.returns-clause-ends g c).After-admit db late at (c.commit.ensures.keeps.clean clean) c.in_ok-new.new c.in_ok-new.ensures in
    let last = c.settled_networks.ensures.reads.stands db at.pending (c.tenants.ensures.reads.stands db at.pending (c.tenant_id.ensures.reads.stands db at.pending at.stands)) in
    order_done g.S.Store _ db late _ one proper at.consistent ends (c.in_ok-commit.ensures.commits.done db at.pending one last refl clean) clean

-- ---- why it ends by a fault

pub returns-in_err-id-clause-stops : goal.returns-in_err-id-clause-stops
returns-in_err-id-clause-stops g c db late at =
    unread_stops _ _ _ _ _ _ c.from_residual.ensures.1 (survives_still _) c.tenant_id.ensures.reads.survives (c.in_err-id.ensures.cause db at.pending at.stands at.consistent)

pub returns-in_err-tenants-clause-stops : goal.returns-in_err-tenants-clause-stops
returns-in_err-tenants-clause-stops g c db late at =
    unread_stops _ _ _ _ _ _ c.from_residual-in_err-tenants.ensures.1 c.tenant_id.ensures.reads.survives c.tenants.ensures.reads.survives (c.in_err-tenants.ensures.cause db at.pending (c.tenant_id.ensures.reads.stands db at.pending at.stands) (tenant_kept (tables_of db) at.consistent))

pub returns-in_err-networks-clause-stops : goal.returns-in_err-networks-clause-stops
returns-in_err-networks-clause-stops g c db late at =
    unread_stops _ _ _ _ _ _ c.from_residual-in_err-networks.ensures.1 (survives_next _ _ _ c.tenant_id.ensures.reads.survives c.tenants.ensures.reads.survives) c.settled_networks.ensures.reads.survives
    (c.in_err-networks.ensures.cause db at.pending (c.tenants.ensures.reads.stands db at.pending (c.tenant_id.ensures.reads.stands db at.pending at.stands)) (network_kept (tables_of db) at.consistent))

pub returns-in_err-new-clause-stops : goal.returns-in_err-new-clause-stops
returns-in_err-new-clause-stops g c db late at =
    admitted_stops _ (state g.S.Store c.args.conn.now) (state g.S.Store c.settled_networks.new.conn) _ _ c.from_residual-in_err-new.ensures.1
    (record { tenants = c.as_slice.result.now; tokens = []; readers = []; networks = c.as_slice-2.result.now }) c.in-Some.id c.args.name.now c.args.settings.now c.in_err-new.ensures

pub returns-in_err-commit-clause-stops : goal.returns-in_err-commit-clause-stops
returns-in_err-commit-clause-stops g c db late at =
    let ends = λ (clean : HasCleanDisk (state g.S.Store c.commit.new.conn)).
    network_joins g (goal.at.returns-in_err-commit-clause-stops g c).After-admit db late at (c.commit.ensures.keeps.clean clean) c.in_ok-new.new c.in_ok-new.ensures in
    let last = c.settled_networks.ensures.reads.stands db at.pending (c.tenants.ensures.reads.stands db at.pending (c.tenant_id.ensures.reads.stands db at.pending at.stands)) in
    let survived = survives_next _ _ _ (survives_next _ _ _ c.tenant_id.ensures.reads.survives c.tenants.ensures.reads.survives) c.settled_networks.ensures.reads.survives in
    unwritten_stops _ _ _ _ _ _ c.from_residual-in_err-commit.ensures.1 survived _ c.commit.ensures.keeps.survives
    (λ clean refused. record { write = NetworkGained (new_row c.in_ok-new.new c.in-Some.id c.args.name.now c.args.settings.now); does = ends clean; stops = refused }) (c.in_err-commit.ensures.commits.cause db at.pending last)

-- ---- where it isn't undone, the store was open

pub returns-in_err-id-clause-open : goal.returns-in_err-id-clause-open
returns-in_err-id-clause-open g c clean = undone _ _ _ c.from_residual.ensures.1

pub returns-in_default-clause-open : goal.returns-in_default-clause-open
returns-in_default-clause-open g c clean = c.in_ok-id.ensures.open clean

pub returns-in_err-tenants-clause-open : goal.returns-in_err-tenants-clause-open
returns-in_err-tenants-clause-open g c clean = undone _ _ _ c.from_residual-in_err-tenants.ensures.1

pub returns-in_err-networks-clause-open : goal.returns-in_err-networks-clause-open
returns-in_err-networks-clause-open g c clean = undone _ _ _ c.from_residual-in_err-networks.ensures.1

pub returns-in_err-new-clause-open : goal.returns-in_err-new-clause-open
returns-in_err-new-clause-open g c clean = unless_undone c.from_residual-in_err-new.result _ (c.in_ok-id.ensures.open (c.tenants.ensures.reads.clean (c.settled_networks.ensures.reads.clean clean)))

pub returns-in_err-commit-clause-open : goal.returns-in_err-commit-clause-open
returns-in_err-commit-clause-open g c clean = undone _ _ _ c.from_residual-in_err-commit.ensures.1

pub returns-clause-open : goal.returns-clause-open
returns-clause-open g c clean = c.in_ok-id.ensures.open (c.tenants.ensures.reads.clean (c.settled_networks.ensures.reads.clean (c.commit.ensures.keeps.clean clean)))
