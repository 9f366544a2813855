use Rattle.std.proofs.Common.{◌≡◌, List, None, Some, refl, sym, ◌∙◌}
use Rattle.wgr_model.specs.RowLaws.{IsRowStep}
use Rattle.wgr_model.specs.Rows.{Tables}
use Rattle.wgr_model.specs.Steps.{Done, EndToken, Event, tenant_of_token}
use Rattle.wgr_columns.specs.Decode.{tables_of}
use Rattle.wgr_tables.specs.Writes.{Changes, TokenLost, Written}
use Rattle.wgr_register.proofs.OrderLemmas.{no_such_token, token_ends}
use Rattle.wgr_register.proofs.StandLemmas.{at_read, order_done, order_unread, order_unwritten}
use Rattle.sqlite.specs.Effect.{Database}
use Rattle.sqlite.specs.Held.{state}
use Rattle.sqlite.specs.State.{HasCleanDisk}
use Rattle.wgr_register.specs.Standing.{StandsAt}
use Rattle.wgr_sql.proofs.SurvivesLemmas.{survives_still}
use Rattle.wgr_register.proofs.OrderCauses.{unread_stops, unwritten_stops}
use Rattle.wgr_register.proofs.StayLemmas.{undone}
use Rattle.wgr_register.proofs.order.end_token.Given.{Over}
use Rattle.wgr_register.proofs.order.end_token.Goals.{After-commit}
use Rattle.wgr_register.proofs.order.end_token.Goals as goal

-- what the write does, if it is made
token_goes : (g : Over) (c : After-commit g) (db : Database) (late : List Event) (at : StandsAt g.S.Store c.args.conn.now db late) → HasCleanDisk (state g.S.Store c.commit.new.conn) → (u : Tables)
    → Changes (TokenLost c.args.digest.now) (tables_of db) u → IsRowStep (tables_of db) (EndToken c.args.digest.now) Done u
token_goes g c db late at clean =
    let known : tenant_of_token (tables_of db).tokens c.args.digest.now ≡ Some c.in-Some._holder = sym (c.in_ok-_holder.ensures.found db at.pending at.stands (c.commit.ensures.keeps.clean clean)) ∙ c.in-Some.is in
    token_ends (tables_of db) at.consistent c.args.digest.now c.in-Some._holder known

pub returns-in_err-_holder-clause-ends : goal.returns-in_err-_holder-clause-ends
returns-in_err-_holder-clause-ends g c db late at =
    order_unread g.S.Store _ _ db late _ _ _ c.from_residual.ensures.1 (c.tenant_of_token.ensures.reads.stands db) at

pub returns-in_default-clause-ends : goal.returns-in_default-clause-ends
returns-in_default-clause-ends g c db late at = (
  at_read g.S.Store _ _ db late (c.tenant_of_token.ensures.reads.stands db) at,
  λ clean.
      let none : tenant_of_token (tables_of db).tokens c.args.digest.now ≡ None = sym (c.in_ok-_holder.ensures.found db at.pending at.stands clean) ∙ c.in_default.is in
      no_such_token (tables_of db) at.consistent c.args.digest.now none,
)

pub returns-in_err-commit-clause-ends : goal.returns-in_err-commit-clause-ends
returns-in_err-commit-clause-ends g c db late at =
    let one : Written = TokenLost c.args.digest.now in
    let ends = token_goes g (goal.at.returns-in_err-commit-clause-ends g c).After-commit db late at in
    let there = c.tenant_of_token.ensures.reads.stands db at.pending at.stands in
    order_unwritten g.S.Store _ _ db late _ tt _ _ one c.from_residual-in_err-commit.ensures.1 c.commit.ensures.keeps.idle ends at (c.in_err-commit.ensures.commits.fault db at.pending one there (at.consistent.rows.meta, refl))

pub returns-clause-ends : goal.returns-clause-ends
returns-clause-ends g c db late at clean =
    let one : Written = TokenLost c.args.digest.now in
    let ends = token_goes g (goal.at.returns-clause-ends g c).After-commit db late at clean in
    let there = c.tenant_of_token.ensures.reads.stands db at.pending at.stands in
    order_done g.S.Store _ db late _ one tt at.consistent ends (c.in_ok-commit.ensures.commits.done db at.pending one there (at.consistent.rows.meta, refl) clean) clean

-- ---- why it ends by a fault

pub returns-in_err-_holder-clause-stops : goal.returns-in_err-_holder-clause-stops
returns-in_err-_holder-clause-stops g c db late at =
    unread_stops _ _ _ _ _ _ c.from_residual.ensures.1 (survives_still _) c.tenant_of_token.ensures.reads.survives (c.in_err-_holder.ensures.cause db at.pending at.stands at.consistent)

pub returns-in_err-commit-clause-stops : goal.returns-in_err-commit-clause-stops
returns-in_err-commit-clause-stops g c db late at =
    let ends = token_goes g (goal.at.returns-in_err-commit-clause-stops g c).After-commit db late at in
    let there = c.tenant_of_token.ensures.reads.stands db at.pending at.stands in
    unwritten_stops _ _ _ _ _ _ c.from_residual-in_err-commit.ensures.1 c.tenant_of_token.ensures.reads.survives _ c.commit.ensures.keeps.survives
    (λ clean refused. record { write = TokenLost c.args.digest.now; does = ends clean; stops = refused at.consistent.rows.meta }) (c.in_err-commit.ensures.commits.cause db at.pending there)

-- ---- where it isn't undone, the store was open

pub returns-in_err-_holder-clause-open : goal.returns-in_err-_holder-clause-open
returns-in_err-_holder-clause-open g c clean = undone _ _ _ c.from_residual.ensures.1

pub returns-in_default-clause-open : goal.returns-in_default-clause-open
returns-in_default-clause-open g c clean = c.in_ok-_holder.ensures.open clean

pub returns-in_err-commit-clause-open : goal.returns-in_err-commit-clause-open
returns-in_err-commit-clause-open g c clean = undone _ _ _ c.from_residual-in_err-commit.ensures.1

pub returns-clause-open : goal.returns-clause-open
returns-clause-open g c clean = c.in_ok-_holder.ensures.open (c.commit.ensures.keeps.clean clean)
