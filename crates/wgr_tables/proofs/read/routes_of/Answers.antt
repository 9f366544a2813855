use Rattle.std.proofs.Common.{rules, ◌≡◌, ℕ, IfNone, length, map, get_or, ap, subst, ◌∙◌, arith}
use Rattle.std.specs.List.{AllByRecursion}
use Rattle.std.proofs.Math.ListN.{length-map}
use Rattle.wgr_text.specs.Prefix.{PrefixValue}
use Rattle.wgr_peers.specs.Routes.{Routes}
use Rattle.wgr_model.specs.Rows.{route_row}
use Rattle.wgr_sql.proofs.Answers.{map-both}
use Rattle.wgr_columns.specs.Stored.{IsKeptRoute, stored_allowed}
use Rattle.wgr_tables.proofs.PlaceLemmas.{made_at}
use Rattle.wgr_tables.proofs.read.routes_of.Goals as goal

pub returns-in_default-clause-only : goal.returns-in_default-clause-only
returns-in_default-clause-only c =
    let id = c.args.network in
    let none : (r : PrefixValue × ℕ) → IsKeptRoute r → c.row-item.result ≡ stored_allowed (route_row id r) → ⊥ =
    subst (λ o. IfNone o ((r : PrefixValue × ℕ) → IsKeptRoute r → c.row-item.result ≡ stored_allowed (route_row id r) → ⊥)) c.in_default.is c.route_of.ensures.only in
    let never : (routes : Routes) → AllByRecursion IsKeptRoute routes → c.args.rows.now ≡ map stored_allowed (map (route_row id) routes) → ⊥ = (λ routes kept is.
    let at = c.loop-row.row-index in
    let same = is ∙ map-both (route_row id) stored_allowed routes in
    let long : length c.args.rows.now ≡ length routes = ap length same ∙ length-map routes (λ r. stored_allowed (route_row id r)) in
    let found = made_at IsKeptRoute (λ r. stored_allowed (route_row id r)) routes kept at c.row-item.result (omega (arith, long, c.loop-row-test.true)) (c.row-item.is ∙ ap (λ l. get_or l at c.row-item.result) same) in
    none found.0 found.1 found.2) in
    search (rules, never)
