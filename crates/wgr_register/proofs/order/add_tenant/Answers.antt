use Rattle.std.proofs.Common.{◌≡◌, List, None, Some, false, true, refl, sym, ◌∙◌}
use Rattle.wgr_model.specs.Register.{id_of}
use Rattle.wgr_model.specs.RowLaws.{IsRowStep}
use Rattle.wgr_model.specs.Rows.{Tables}
use Rattle.wgr_model.specs.Steps.{AddTenant, Done, Event}
use Rattle.wgr_columns.specs.Decode.{tables_of}
use Rattle.wgr_tables.specs.Writes.{Changes, TenantGained, Written}
use Rattle.wgr_register.proofs.OrderLemmas.{name_held, room_by, tenant_comes, tenants_full, unused_by}
use Rattle.wgr_register.proofs.StandLemmas.{at_read, order_done, order_unread, order_unwritten}
use Rattle.sqlite.specs.Effect.{Database}
use Rattle.sqlite.specs.Held.{state}
use Rattle.sqlite.specs.State.{HasCleanDisk}
use Rattle.wgr_register.specs.Standing.{StandsAt}
use Rattle.wgr_sql.proofs.SurvivesLemmas.{survives_next, survives_still}
use Rattle.wgr_register.proofs.OrderCauses.{unread_stops, unwritten_stops}
use Rattle.wgr_register.proofs.CauseLemmas.{tenant_kept}
use Rattle.wgr_register.proofs.StayLemmas.{undone}
use Rattle.wgr_register.proofs.order.add_tenant.Given.{Over}
use Rattle.wgr_register.proofs.order.add_tenant.Goals.{After-commit}
use Rattle.wgr_register.proofs.order.add_tenant.Goals as goal

-- what the write does, if it is made
tenant_joins : (g : Over) (c : After-commit g) (db : Database) (late : List Event) (at : StandsAt g.S.Store c.args.conn.now db late) → HasCleanDisk (state g.S.Store c.commit.new.conn) → (u : Tables)
    → Changes (TenantGained (record { id = c.unused_id-id.result; name = c.args.name.now })) (tables_of db) u → IsRowStep (tables_of db) (AddTenant c.args.name.now) Done u
tenant_joins g c db late at clean =
    let t = tables_of db in
    let listing = c.commit.ensures.keeps.clean clean in
    let free : id_of t.tenants c.args.name.now ≡ None = sym (c.in_ok-tenant_id.ensures.found db at.pending at.stands (c.tenant_ids.ensures.reads.clean listing)) ∙ c.in-None.is in
    let listed = c.in_ok-ids.ensures.listed db at.pending (c.tenant_id.ensures.reads.stands db at.pending at.stands) listing in
    let room = room_by t c.in_ok-ids.ids.items listed false (rw c.as_slice.ensures.value at (sym c.is_full.ensures ∙ c.if-is_full.false)) in
    let unused = unused_by t c.in_ok-ids.ids.items listed c.unused_id-id.result (rw c.as_slice-2.ensures.value at c.unused_id-id.ensures.unused) in
    tenant_comes t at.consistent c.args.name.now free room c.unused_id-id.result c.unused_id-id.ensures.id unused

pub returns-in_err-tenant_id-clause-ends : goal.returns-in_err-tenant_id-clause-ends
returns-in_err-tenant_id-clause-ends g c db late at proper =
    order_unread g.S.Store _ _ db late _ _ _ c.from_residual.ensures.1 (c.tenant_id.ensures.reads.stands db) at

pub returns-in_default-clause-ends : goal.returns-in_default-clause-ends
returns-in_default-clause-ends g c db late at proper = (
  at_read g.S.Store _ _ db late (c.tenant_id.ensures.reads.stands db) at,
  λ clean.
      let held : id_of (tables_of db).tenants c.args.name.now ≡ Some c.in_default.field-0 = sym (c.in_ok-tenant_id.ensures.found db at.pending at.stands clean) ∙ c.in_default.is in
      name_held (tables_of db) at.consistent c.args.name.now c.in_default.field-0 held,
)

pub returns-in_err-ids-clause-ends : goal.returns-in_err-ids-clause-ends
returns-in_err-ids-clause-ends g c db late at proper =
    order_unread g.S.Store _ _ db late _ _ _ c.from_residual-in_err-ids.ensures.1
    (λ pending stood. c.tenant_ids.ensures.reads.stands db pending (c.tenant_id.ensures.reads.stands db pending stood)) at

pub returns-then-is_full-clause-ends : goal.returns-then-is_full-clause-ends
returns-then-is_full-clause-ends g c db late at proper = (
  at_read g.S.Store _ _ db late (λ pending stood. c.tenant_ids.ensures.reads.stands db pending (c.tenant_id.ensures.reads.stands db pending stood)) at,
  λ clean.
      let mid = c.tenant_id.ensures.reads.stands db at.pending at.stands in
      let free : id_of (tables_of db).tenants c.args.name.now ≡ None = sym (c.in_ok-tenant_id.ensures.found db at.pending at.stands (c.tenant_ids.ensures.reads.clean clean)) ∙ c.in-None.is in
      let listed = c.in_ok-ids.ensures.listed db at.pending mid clean in
      let full = room_by (tables_of db) c.in_ok-ids.ids.items listed true (rw c.as_slice.ensures.value at (sym c.is_full.ensures ∙ c.if-is_full.true)) in
      tenants_full (tables_of db) at.consistent c.args.name.now free full,
)

pub returns-in_err-commit-clause-ends : goal.returns-in_err-commit-clause-ends
returns-in_err-commit-clause-ends g c db late at proper =
    let one : Written = TenantGained (record { id = c.unused_id-id.result; name = c.args.name.now }) in
    let ends = tenant_joins g (goal.at.returns-in_err-commit-clause-ends g c).After-commit db late at in
    let near = c.tenant_ids.ensures.reads.stands db at.pending (c.tenant_id.ensures.reads.stands db at.pending at.stands) in
    order_unwritten g.S.Store _ _ db late _ proper _ _ one c.from_residual-in_err-commit.ensures.1 c.commit.ensures.keeps.idle
    ends at (c.in_err-commit.ensures.commits.fault db at.pending one near refl)

pub returns-clause-ends : goal.returns-clause-ends
returns-clause-ends g c db late at proper clean =
    let one : Written = TenantGained (record { id = c.unused_id-id.result; name = c.args.name.now }) in
    let ends = tenant_joins g (goal.at.returns-clause-ends g c).After-commit db late at clean in
    let near = c.tenant_ids.ensures.reads.stands db at.pending (c.tenant_id.ensures.reads.stands db at.pending at.stands) in
    order_done g.S.Store _ db late _ one proper at.consistent ends (c.in_ok-commit.ensures.commits.done db at.pending one near refl clean) clean

-- ---- why it ends by a fault

pub returns-in_err-tenant_id-clause-stops : goal.returns-in_err-tenant_id-clause-stops
returns-in_err-tenant_id-clause-stops g c db late at =
    unread_stops _ _ _ _ _ _ c.from_residual.ensures.1 (survives_still _) c.tenant_id.ensures.reads.survives (c.in_err-tenant_id.ensures.cause db at.pending at.stands at.consistent)

pub returns-in_err-ids-clause-stops : goal.returns-in_err-ids-clause-stops
returns-in_err-ids-clause-stops g c db late at =
    unread_stops _ _ _ _ _ _ c.from_residual-in_err-ids.ensures.1 c.tenant_id.ensures.reads.survives c.tenant_ids.ensures.reads.survives (c.in_err-ids.ensures.cause db at.pending (c.tenant_id.ensures.reads.stands db at.pending at.stands) (tenant_kept (tables_of db) at.consistent))

pub returns-in_err-commit-clause-stops : goal.returns-in_err-commit-clause-stops
returns-in_err-commit-clause-stops g c db late at =
    let ends = tenant_joins g (goal.at.returns-in_err-commit-clause-stops g c).After-commit db late at in
    let near = c.tenant_ids.ensures.reads.stands db at.pending (c.tenant_id.ensures.reads.stands db at.pending at.stands) in
    unwritten_stops _ _ _ _ _ _ c.from_residual-in_err-commit.ensures.1 (survives_next _ _ _ c.tenant_id.ensures.reads.survives c.tenant_ids.ensures.reads.survives) _ c.commit.ensures.keeps.survives
    (λ clean refused. record { write = TenantGained (record { id = c.unused_id-id.result; name = c.args.name.now }); does = ends clean; stops = refused }) (c.in_err-commit.ensures.commits.cause db at.pending near)

-- ---- where it isn't undone, the store was open

pub returns-in_err-tenant_id-clause-open : goal.returns-in_err-tenant_id-clause-open
returns-in_err-tenant_id-clause-open g c clean = undone _ _ _ c.from_residual.ensures.1

pub returns-in_default-clause-open : goal.returns-in_default-clause-open
returns-in_default-clause-open g c clean = c.in_ok-tenant_id.ensures.open clean

pub returns-in_err-ids-clause-open : goal.returns-in_err-ids-clause-open
returns-in_err-ids-clause-open g c clean = undone _ _ _ c.from_residual-in_err-ids.ensures.1

pub returns-then-is_full-clause-open : goal.returns-then-is_full-clause-open
returns-then-is_full-clause-open g c clean = c.in_ok-tenant_id.ensures.open (c.tenant_ids.ensures.reads.clean clean)

pub returns-in_err-commit-clause-open : goal.returns-in_err-commit-clause-open
returns-in_err-commit-clause-open g c clean = undone _ _ _ c.from_residual-in_err-commit.ensures.1

pub returns-clause-open : goal.returns-clause-open
returns-clause-open g c clean = c.in_ok-tenant_id.ensures.open (c.tenant_ids.ensures.reads.clean (c.commit.ensures.keeps.clean clean))
