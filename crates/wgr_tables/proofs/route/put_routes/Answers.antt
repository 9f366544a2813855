use Rattle.std.proofs.Common.{◌≡◌, ℕ, IsTrue, arith, sym, subst, Err, inl, inr, ◌∙◌}
use Rattle.sqlite.specs.State.{HasCleanDisk}
use Rattle.sqlite.specs.Held.{state}
use Rattle.wgr_model.specs.Rows.{Tables}
use Rattle.wgr_sql.specs.declared.fault.Fault.{Fault}
use Rattle.wgr_sql.specs.Steps.{Each}
use Rattle.wgr_sql.proofs.StepLemmas.{chain_then}
use Rattle.wgr_columns.specs.Decode.{IsRegister, tables_of}
use Rattle.wgr_tables.specs.TableSteps.{HasNoRoute, RouteComes, RoutePuts}
use Rattle.wgr_tables.proofs.Made.{Made}
use Rattle.wgr_tables.proofs.NewRoutes.{routes_are_put}
use Rattle.wgr_tables.specs.Stops.{OneOfEach, OneOfTwo, RouteIsNotPut, RouteStaysOut, RoutesAreNotPut}
use Rattle.wgr_tables.proofs.StopLemmas.{hands_on, next_fails, weaker_fails}
use Rattle.wgr_tables.proofs.route.put_routes.Goals as goal

pub returns-then-branch-clause-step : goal.returns-then-branch-clause-step
returns-then-branch-clause-step g c clean =
    let network = c.args.network in
    let routes = c.args.routes.now in
    let a = state g.S.Store c.args.tx.now.conn.now in
    let b = state g.S.Store c.are_new.new.tx.conn.now in
    let d = state g.S.Store c.add_routes.new.tx.conn.now in
    let was : HasCleanDisk b = omega (arith, c.add_routes.ensures.survives.clean, clean) in
    let ordered = c.in_ok-are_new.ensures.ordered c.if-branch.true in
    chain_then IsRegister {E = Fault} (Made (λ t u. (t ≡ u) × (IsTrue c.in_ok-are_new.field-0 → HasNoRoute network t))) (Made (Each (RouteComes network) routes)) (Made (Each (RoutePuts network) routes)) a b d c.in_ok-are_new.field-0 c.add_routes.result
    (λ p q r asked come. record {
      sound = come.sound;
      schema = come.schema ∙ asked.schema;
      made = routes_are_put network routes (tables_of p) (tables_of r) ordered (asked.made.1 c.if-branch.true) (subst (λ (t : Tables). Each (RouteComes network) routes t (tables_of r)) (sym asked.made.0) come.made);
    }) (λ p q asked. asked.sound) (c.in_ok-are_new.ensures.step was) (c.add_routes.ensures.step clean)

pub returns-else-branch-clause-step : goal.returns-else-branch-clause-step
returns-else-branch-clause-step g c clean =
    let network = c.args.network in
    let routes = c.args.routes.now in
    let a = state g.S.Store c.args.tx.now.conn.now in
    let b = state g.S.Store c.are_new.new.tx.conn.now in
    let d = state g.S.Store c.replace_routes.new.tx.conn.now in
    let was : HasCleanDisk b = omega (arith, c.replace_routes.ensures.survives.clean, clean) in
    chain_then IsRegister {E = Fault} (Made (λ t u. (t ≡ u) × (IsTrue c.in_ok-are_new.field-0 → HasNoRoute network t))) (Made (Each (RoutePuts network) routes)) (Made (Each (RoutePuts network) routes)) a b d c.in_ok-are_new.field-0 c.replace_routes.result
    (λ p q r asked put. record { sound = put.sound; schema = put.schema ∙ asked.schema; made = subst (λ (t : Tables). Each (RoutePuts network) routes t (tables_of r)) (sym asked.made.0) put.made }) (λ p q asked. asked.sound) (c.in_ok-are_new.ensures.step was) (c.replace_routes.ensures.step clean)

pub returns-in_err-are_new-clause-cause : goal.returns-in_err-are_new-clause-cause
returns-in_err-are_new-clause-cause g c =
    let network = c.args.network in
    let routes = c.args.routes.now in
    let a = state g.S.Store c.args.tx.now.conn.now in
    let b = state g.S.Store c.are_new.new.tx.conn.now in
    let why = c.in_err-are_new.field-0.0 in
    hands_on (RoutesAreNotPut network routes) a b c.from_residual.result why c.from_residual.ensures.1
    (weaker_fails {X = ℕ} (λ _. ⊥) (RoutesAreNotPut network routes) a b (Err why) (λ t none. absurd none) c.in_err-are_new.ensures.cause)

pub returns-then-branch-clause-cause : goal.returns-then-branch-clause-cause
returns-then-branch-clause-cause g c =
    let network = c.args.network in
    let routes = c.args.routes.now in
    let a = state g.S.Store c.args.tx.now.conn.now in
    let b = state g.S.Store c.are_new.new.tx.conn.now in
    let d = state g.S.Store c.add_routes.new.tx.conn.now in
    let Asked = (λ (t u : Tables). (t ≡ u) × (IsTrue c.in_ok-are_new.field-0 → HasNoRoute network t)) in
    let Stops = OneOfEach (RouteComes network) (RouteStaysOut network) routes in
    weaker_fails (OneOfTwo (λ _. ⊥) Asked Stops) (RoutesAreNotPut network routes) a d c.add_routes.result
    (λ t stop. elim stop [ inl none ↦ absurd none | inr (u, is, stays) ↦ inr (subst Stops (sym is.0) stays) ])
    (next_fails (λ _. ⊥) Asked Stops a b d c.in_ok-are_new.field-0 c.add_routes.result (λ clean. c.in_ok-are_new.ensures.step clean) c.are_new.ensures.survives c.add_routes.ensures.survives c.add_routes.ensures.cause)

pub returns-else-branch-clause-cause : goal.returns-else-branch-clause-cause
returns-else-branch-clause-cause g c =
    let network = c.args.network in
    let routes = c.args.routes.now in
    let a = state g.S.Store c.args.tx.now.conn.now in
    let b = state g.S.Store c.are_new.new.tx.conn.now in
    let d = state g.S.Store c.replace_routes.new.tx.conn.now in
    let Asked = (λ (t u : Tables). (t ≡ u) × (IsTrue c.in_ok-are_new.field-0 → HasNoRoute network t)) in
    let Stops = OneOfEach (RoutePuts network) (RouteIsNotPut network) routes in
    weaker_fails (OneOfTwo (λ _. ⊥) Asked Stops) (RoutesAreNotPut network routes) a d c.replace_routes.result
    (λ t stop. elim stop [ inl none ↦ absurd none | inr (u, is, stays) ↦ inl (subst Stops (sym is.0) stays) ])
    (next_fails (λ _. ⊥) Asked Stops a b d c.in_ok-are_new.field-0 c.replace_routes.result (λ clean. c.in_ok-are_new.ensures.step clean) c.are_new.ensures.survives c.replace_routes.ensures.survives c.replace_routes.ensures.cause)
