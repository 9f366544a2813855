use Rattle.std.proofs.Common.{◌≡◌, ℕ, true, nat_eq, nat_le, not, ◌&&◌, subst, sym, ap, refl, ◌∙◌}
use Rattle.std.specs.HashSet.{contains}
use Rattle.std.specs.List.{AllPairs}
use Rattle.std.proofs.lemmas.List.Elements.{All-filter}
use Rattle.wgr_text.specs.Prefix.{PrefixValue, IsPrefix, rank}
use Rattle.wgr_pool.specs.PrefixTests.{is_before}
use Rattle.wgr_pool.specs.Spans.{spans_from}
use Rattle.wgr_pool.specs.HeldSpans.{span_of, standing, standing_spans}
use Rattle.wgr_pool.proofs.Lists.{AllPairs-filter}
use Rattle.wgr_pool.proofs.Merging.{found_is, taken_is}
use Rattle.wgr_pool.proofs.Skipped.{standing_in, same_lowest, merged_from}
use Rattle.wgr_pool.proofs.held_spans.lowest_address.Goals as goal

pub new-holds-requires-clause-routes_rise : goal.new-holds-requires-clause-routes_rise
new-holds-requires-clause-routes_rise c =
    let span = span_of c.args.pool.now in
    subst (AllPairs (λ (r s : PrefixValue × ℕ). is_before r.0 s.0 ≡ true)) (sym c.routes_in.ensures)
    (AllPairs-filter (λ (r s : PrefixValue × ℕ). is_before r.0 s.0 ≡ true) (λ r. nat_le (rank span.lo) (rank r.0.address) && nat_le (rank r.0.address) (rank span.hi)) c.args.routes.now c.requires.in_order)

pub returns-in-Ok : goal.returns-in-Ok
returns-in-Ok c = λ taken test.
    let holds = c.new-holds in
    let pool = c.args.pool.now in
    let set = c.args.addresses.now in
    let expired = contains nat_eq c.args.expired.now in
    let stands = standing expired c.args.routes.now in
    let prefixes = All-filter (λ (r : PrefixValue × ℕ). not (expired r.1)) (λ r. IsPrefix r.0) c.args.routes.now c.requires.prefixes in
    let routes = holds.ensures.routes ∙ ap (standing_spans pool expired) c.routes_in.ensures ∙ standing_in pool expired c.args.routes.now holds.ensures.is_pool in
    let runs = holds.ensures.runs ∙ c.spans_from-runs.ensures.value ∙ ap (λ a. spans_from a set) (c.address.ensures.value ∙ ap (λ p. p.address) c.prefix.ensures.value) in
    let same = taken_is pool taken set set _ stands refl routes holds.ensures.is_pool prefixes test in
    let found = same_lowest pool _ _ c.in-Ok.found (merged_from pool set _ _ holds.ensures.is_pool runs) (c.in-Ok.ensures.lowest tt) in
    found_is pool taken _ c.in-Ok.found holds.ensures.is_pool same found
