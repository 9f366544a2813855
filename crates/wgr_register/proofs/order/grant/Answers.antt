use Rattle.std.proofs.Common.{◌≡◌, List, None, Some, false, true, refl, sym, ◌∙◌}
use Rattle.wgr_model.specs.Register.{id_of}
use Rattle.wgr_model.specs.RowLaws.{IsRowStep}
use Rattle.wgr_model.specs.Rows.{Tables}
use Rattle.wgr_model.specs.Steps.{Done, Event, Grant, tenant_of_token}
use Rattle.wgr_columns.specs.Decode.{tables_of}
use Rattle.wgr_tables.specs.Writes.{Changes, TokenGained, Written}
use Rattle.wgr_register.proofs.OrderLemmas.{held_already, nobody_gets, token_comes, tokens_by, tokens_full}
use Rattle.wgr_register.proofs.StandLemmas.{at_read, order_done, order_unread, order_unwritten}
use Rattle.sqlite.specs.Effect.{Database}
use Rattle.sqlite.specs.Held.{state}
use Rattle.sqlite.specs.State.{HasCleanDisk}
use Rattle.wgr_register.specs.Standing.{StandsAt}
use Rattle.wgr_sql.proofs.SurvivesLemmas.{survives_next, survives_still}
use Rattle.wgr_register.proofs.OrderCauses.{unread_stops, unwritten_stops}
use Rattle.wgr_register.proofs.StayLemmas.{undone}
use Rattle.wgr_register.proofs.order.grant.Given.{Over}
use Rattle.wgr_register.proofs.order.grant.Goals.{After-commit}
use Rattle.wgr_register.proofs.order.grant.Goals as goal

-- what the write does, if it is made
token_joins : (g : Over) (c : After-commit g) (db : Database) (late : List Event) (at : StandsAt g.S.Store c.args.conn.now db late) → HasCleanDisk (state g.S.Store c.commit.new.conn) → (u : Tables)
    → Changes (TokenGained (record { digest = c.args.digest.now; tenant = c.in-Some.id }) c.args.right) (tables_of db) u → IsRowStep (tables_of db) (Grant c.args.tenant.now c.args.digest.now c.args.right) Done u
token_joins g c db late at clean =
    let t = tables_of db in
    let mid = c.tenant_id.ensures.reads.stands db at.pending at.stands in
    let counting = c.commit.ensures.keeps.clean clean in
    let looking = c.count_tokens.ensures.reads.clean counting in
    let known : id_of t.tenants c.args.tenant.now ≡ Some c.in-Some.id = sym (c.in_ok-id.ensures.found db at.pending at.stands (c.tenant_of_token.ensures.reads.clean looking)) ∙ c.in-Some.is in
    let free : tenant_of_token t.tokens c.args.digest.now ≡ None = sym (c.in_ok-tenant_of_token.ensures.found db at.pending mid looking) ∙ c.in-None.is in
    let counted = c.in_ok-count.ensures.counted db at.pending (c.tenant_of_token.ensures.reads.stands db at.pending mid) counting in
    let room = tokens_by t c.in_ok-count.count counted false (sym c.is_full.ensures ∙ c.if-is_full.false) in
    token_comes t at.consistent c.args.tenant.now c.args.digest.now c.args.right c.in-Some.id known free room

pub returns-in_err-id-clause-ends : goal.returns-in_err-id-clause-ends
returns-in_err-id-clause-ends g c db late at proper =
    order_unread g.S.Store _ _ db late _ _ _ c.from_residual.ensures.1 (c.tenant_id.ensures.reads.stands db) at

pub returns-in_default-clause-ends : goal.returns-in_default-clause-ends
returns-in_default-clause-ends g c db late at proper = (
  at_read g.S.Store _ _ db late (c.tenant_id.ensures.reads.stands db) at,
  λ clean.
      let none : id_of (tables_of db).tenants c.args.tenant.now ≡ None = sym (c.in_ok-id.ensures.found db at.pending at.stands clean) ∙ c.in_default.is in
      nobody_gets (tables_of db) at.consistent c.args.tenant.now c.args.digest.now c.args.right none,
)

pub returns-in_err-tenant_of_token-clause-ends : goal.returns-in_err-tenant_of_token-clause-ends
returns-in_err-tenant_of_token-clause-ends g c db late at proper =
    order_unread g.S.Store _ _ db late _ _ _ c.from_residual-in_err-tenant_of_token.ensures.1
    (λ pending stood. c.tenant_of_token.ensures.reads.stands db pending (c.tenant_id.ensures.reads.stands db pending stood)) at

pub returns-in_default-2-clause-ends : goal.returns-in_default-2-clause-ends
returns-in_default-2-clause-ends g c db late at proper = (
  at_read g.S.Store _ _ db late (λ pending stood. c.tenant_of_token.ensures.reads.stands db pending (c.tenant_id.ensures.reads.stands db pending stood)) at,
  λ clean.
      let mid = c.tenant_id.ensures.reads.stands db at.pending at.stands in
      let known : id_of (tables_of db).tenants c.args.tenant.now ≡ Some c.in-Some.id = sym (c.in_ok-id.ensures.found db at.pending at.stands (c.tenant_of_token.ensures.reads.clean clean)) ∙ c.in-Some.is in
      let held : tenant_of_token (tables_of db).tokens c.args.digest.now ≡ Some c.in_default-2.field-0 = sym (c.in_ok-tenant_of_token.ensures.found db at.pending mid clean) ∙ c.in_default-2.is in
      held_already (tables_of db) at.consistent c.args.tenant.now c.args.digest.now c.args.right c.in-Some.id known c.in_default-2.field-0 held,
)

pub returns-in_err-count-clause-ends : goal.returns-in_err-count-clause-ends
returns-in_err-count-clause-ends g c db late at proper =
    order_unread g.S.Store _ _ db late _ _ _ c.from_residual-in_err-count.ensures.1
    (λ pending stood. c.count_tokens.ensures.reads.stands db pending (c.tenant_of_token.ensures.reads.stands db pending (c.tenant_id.ensures.reads.stands db pending stood))) at

pub returns-then-is_full-clause-ends : goal.returns-then-is_full-clause-ends
returns-then-is_full-clause-ends g c db late at proper = (
  at_read g.S.Store _ _ db late (λ pending stood. c.count_tokens.ensures.reads.stands db pending (c.tenant_of_token.ensures.reads.stands db pending (c.tenant_id.ensures.reads.stands db pending stood))) at,
  λ clean.
      let mid = c.tenant_id.ensures.reads.stands db at.pending at.stands in
      let near = c.tenant_of_token.ensures.reads.stands db at.pending mid in
      let clean2 = c.count_tokens.ensures.reads.clean clean in
      let known : id_of (tables_of db).tenants c.args.tenant.now ≡ Some c.in-Some.id = sym (c.in_ok-id.ensures.found db at.pending at.stands (c.tenant_of_token.ensures.reads.clean clean2)) ∙ c.in-Some.is in
      let free : tenant_of_token (tables_of db).tokens c.args.digest.now ≡ None = sym (c.in_ok-tenant_of_token.ensures.found db at.pending mid clean2) ∙ c.in-None.is in
      let full = tokens_by (tables_of db) c.in_ok-count.count (c.in_ok-count.ensures.counted db at.pending near clean) true (sym c.is_full.ensures ∙ c.if-is_full.true) in
      tokens_full (tables_of db) at.consistent c.args.tenant.now c.args.digest.now c.args.right c.in-Some.id known free full,
)

pub returns-in_err-commit-clause-ends : goal.returns-in_err-commit-clause-ends
returns-in_err-commit-clause-ends g c db late at proper =
    let one : Written = TokenGained (record { digest = c.args.digest.now; tenant = c.in-Some.id }) c.args.right in
    let ends = token_joins g (goal.at.returns-in_err-commit-clause-ends g c).After-commit db late at in
    let last = c.count_tokens.ensures.reads.stands db at.pending (c.tenant_of_token.ensures.reads.stands db at.pending (c.tenant_id.ensures.reads.stands db at.pending at.stands)) in
    order_unwritten g.S.Store _ _ db late _ proper _ _ one c.from_residual-in_err-commit.ensures.1 c.commit.ensures.keeps.idle
    ends at (c.in_err-commit.ensures.commits.fault db at.pending one last (at.consistent.rows.meta, refl))

pub returns-clause-ends : goal.returns-clause-ends
returns-clause-ends g c db late at proper clean =
    let one : Written = TokenGained (record { digest = c.args.digest.now; tenant = c.in-Some.id }) c.args.right in
    let ends = token_joins g (goal.at.returns-clause-ends g c).After-commit db late at clean in
    let last = c.count_tokens.ensures.reads.stands db at.pending (c.tenant_of_token.ensures.reads.stands db at.pending (c.tenant_id.ensures.reads.stands db at.pending at.stands)) in
    order_done g.S.Store _ db late _ one proper at.consistent ends (c.in_ok-commit.ensures.commits.done db at.pending one last (at.consistent.rows.meta, refl) clean) clean

-- ---- why it ends by a fault

pub returns-in_err-id-clause-stops : goal.returns-in_err-id-clause-stops
returns-in_err-id-clause-stops g c db late at =
    unread_stops _ _ _ _ _ _ c.from_residual.ensures.1 (survives_still _) c.tenant_id.ensures.reads.survives (c.in_err-id.ensures.cause db at.pending at.stands at.consistent)

pub returns-in_err-tenant_of_token-clause-stops : goal.returns-in_err-tenant_of_token-clause-stops
returns-in_err-tenant_of_token-clause-stops g c db late at =
    unread_stops _ _ _ _ _ _ c.from_residual-in_err-tenant_of_token.ensures.1 c.tenant_id.ensures.reads.survives c.tenant_of_token.ensures.reads.survives (c.in_err-tenant_of_token.ensures.cause db at.pending (c.tenant_id.ensures.reads.stands db at.pending at.stands) at.consistent)

pub returns-in_err-count-clause-stops : goal.returns-in_err-count-clause-stops
returns-in_err-count-clause-stops g c db late at =
    let near = c.tenant_of_token.ensures.reads.stands db at.pending (c.tenant_id.ensures.reads.stands db at.pending at.stands) in
    unread_stops _ _ _ _ _ _ c.from_residual-in_err-count.ensures.1 (survives_next _ _ _ c.tenant_id.ensures.reads.survives c.tenant_of_token.ensures.reads.survives) c.count_tokens.ensures.reads.survives (c.in_err-count.ensures.cause db at.pending near)

pub returns-in_err-commit-clause-stops : goal.returns-in_err-commit-clause-stops
returns-in_err-commit-clause-stops g c db late at =
    let ends = token_joins g (goal.at.returns-in_err-commit-clause-stops g c).After-commit db late at in
    let last = c.count_tokens.ensures.reads.stands db at.pending (c.tenant_of_token.ensures.reads.stands db at.pending (c.tenant_id.ensures.reads.stands db at.pending at.stands)) in
    let survived = survives_next _ _ _ (survives_next _ _ _ c.tenant_id.ensures.reads.survives c.tenant_of_token.ensures.reads.survives) c.count_tokens.ensures.reads.survives in
    unwritten_stops _ _ _ _ _ _ c.from_residual-in_err-commit.ensures.1 survived _ c.commit.ensures.keeps.survives
    (λ clean refused. record { write = TokenGained (record { digest = c.args.digest.now; tenant = c.in-Some.id }) c.args.right; does = ends clean; stops = refused at.consistent.rows.meta }) (c.in_err-commit.ensures.commits.cause db at.pending last)

-- ---- where it isn't undone, the store was open

pub returns-in_err-id-clause-open : goal.returns-in_err-id-clause-open
returns-in_err-id-clause-open g c clean = undone _ _ _ c.from_residual.ensures.1

pub returns-in_default-clause-open : goal.returns-in_default-clause-open
returns-in_default-clause-open g c clean = c.in_ok-id.ensures.open clean

pub returns-in_err-tenant_of_token-clause-open : goal.returns-in_err-tenant_of_token-clause-open
returns-in_err-tenant_of_token-clause-open g c clean = undone _ _ _ c.from_residual-in_err-tenant_of_token.ensures.1

pub returns-in_default-2-clause-open : goal.returns-in_default-2-clause-open
returns-in_default-2-clause-open g c clean = c.in_ok-id.ensures.open (c.tenant_of_token.ensures.reads.clean clean)

pub returns-in_err-count-clause-open : goal.returns-in_err-count-clause-open
returns-in_err-count-clause-open g c clean = undone _ _ _ c.from_residual-in_err-count.ensures.1

pub returns-then-is_full-clause-open : goal.returns-then-is_full-clause-open
returns-then-is_full-clause-open g c clean = c.in_ok-id.ensures.open (c.tenant_of_token.ensures.reads.clean (c.count_tokens.ensures.reads.clean clean))

pub returns-in_err-commit-clause-open : goal.returns-in_err-commit-clause-open
returns-in_err-commit-clause-open g c clean = undone _ _ _ c.from_residual-in_err-commit.ensures.1

pub returns-clause-open : goal.returns-clause-open
returns-clause-open g c clean = c.in_ok-id.ensures.open (c.tenant_of_token.ensures.reads.clean (c.count_tokens.ensures.reads.clean (c.commit.ensures.keeps.clean clean)))
