use Rattle.std.proofs.Common.{rules, ◌≡◌, [], ◌∷◌, ◌++◌, map, ap, subst, ◌∙◌, arith}
use Rattle.std.proofs.lemmas.List.{take_all}
use Rattle.wgr_checks.specs.NetworkRows.{IsEndpointRow, endpoint_at}
use Rattle.wgr_checks.proofs.ListLemmas.{all_places, at_place, item_is, one_more, one_longer}
use Rattle.wgr_checks.proofs.networks.endpoints_of.Goals as goal

pub loop-row-preserved : goal.loop-row-preserved
loop-row-preserved c =
    let found = rw c.in-Some.is at c.in_ok-endpoint.ensures.some in
    let longer = one_longer endpoint_at c.args.rows.now c.loop-row.all.items c.loop-row.row-index c.row-item.result c.in-Some.endpoint c.loop-row-test.true c.row-item.is found.1 c.loop-row.invariant.0 in
    let grown : c.push.new.self.items ≡ c.loop-row.all.items ++ c.in-Some.endpoint ∷ [] = search rules in (
      grown ∙ longer,
      one_more IsEndpointRow c.args.rows.now c.loop-row.row-index c.row-item.result [] c.loop-row-test.true c.row-item.is found.0 c.loop-row.invariant.1,
    )

pub returns-clause-some : goal.returns-clause-some
returns-clause-some c = (
  all_places IsEndpointRow c.args.rows.now [] (λ k low. c.loop-row.invariant.1 k (omega (arith, low, c.loop-row-test.false))),
  c.loop-row.invariant.0 ∙ ap (map endpoint_at) (take_all c.loop-row.row-index c.args.rows.now (omega (arith, c.loop-row-test.false))),
)

pub returns-in_default-clause-none : goal.returns-in_default-clause-none
returns-in_default-clause-none c all =
    let none : IsEndpointRow c.row-item.result → ⊥ = search rules in
    none (subst IsEndpointRow (item_is c.args.rows.now c.loop-row.row-index c.row-item.result [] c.loop-row-test.true c.row-item.is) (at_place IsEndpointRow c.args.rows.now [] all c.loop-row.row-index c.loop-row-test.true))
