use Rattle.std.proofs.Common.{◌≡◌, pos, List, [], ◌∷◌, is_ok, rules, sym, subst}
use Rattle.sqlite.specs.declared.types.Value.TheVariants.{Int}
use Rattle.sqlite.specs.Held.{state}
use Rattle.sqlite.specs.Listing.{understood}
use Rattle.sqlite.specs.Order.{Row}
use Rattle.sqlite.specs.State.{Shown}
use Rattle.sqlite.proofs.Callers.{IsPlain}
use Rattle.wgr_columns.specs.Decode.{IsRegister, tables_of}
use Rattle.wgr_tables.specs.TableSteps.{HasNoRoute}
use Rattle.wgr_tables.proofs.ListedLemmas.{no_route_listed}
use Rattle.wgr_tables.proofs.Meanings.{first_route_asks, first_route_text}
use Rattle.wgr_tables.proofs.QuerySteps.{query_step}
use Rattle.wgr_sql.proofs.CauseLemmas.{mapped_cause, query_cause}
use Rattle.wgr_sql.proofs.SurvivesLemmas.{survives_still}
use Rattle.wgr_sql.specs.Causes.{IsAnswered}
use Rattle.wgr_tables.proofs.AskedLemmas.{first_route_answered}
use Rattle.wgr_tables.proofs.route.first_route.Goals as goal

pub returns-clause-step : goal.returns-clause-step
returns-clause-step g c clean =
    let network = c.args.network in
    let old = state g.S.Store c.args.tx.now.conn.now in
    let new = state g.S.Store c.query_all.new.self.conn.now in
    let params : Row = Int (pos network) ∷ [] in
    let same : is_ok c.map_err.result ≡ is_ok c.query_all.result = search rules in
    query_step IsRegister tables_of first_route_text params old new (λ register. subst (λ s. IsPlain (understood s first_route_text)) (sym register.schema_is) (first_route_asks register.others).means.plain)
    (λ rows t. rows.items ≡ [] → HasNoRoute network t) (λ rows. rows.items) c.query_all.result c.map_err.result _
    (rw (c.number_value.ensures) at (c.query_all.ensures.ok clean)) (rw (c.number_value.ensures) at (c.query_all.ensures.err clean)) same c.map_err.ensures.cases
    (λ rows register shown none. no_route_listed old new register network [] (subst (λ (l : List Row). Shown first_route_text params old new l) none shown))

pub returns-clause-cause : goal.returns-clause-cause
returns-clause-cause g c inside register =
    let old = state g.S.Store c.args.tx.now.conn.now in
    let new = state g.S.Store c.query_all.new.self.conn.now in
    let params : Row = Int (pos c.args.network) ∷ [] in
    mapped_cause ⊥ old new c.query_all.result c.map_err.result c.map_err.ensures.cases
    (query_cause first_route_text params old new new (λ _. ⊥) (survives_still new) c.query_all.result (rw (c.number_value.ensures) at c.query_all.ensures.err)
    (λ live clean. let it = register live in subst (λ s. IsAnswered s first_route_text params) (sym it.schema_is) (first_route_answered it.others c.args.network)))
