use Rattle.std.proofs.Common.{◌≡◌, true, nat_eq, not, ℕ, subst, sym, arith}
use Rattle.std.specs.HashSet.{contains}
use Rattle.wgr_text.specs.Prefix.{PrefixValue}
use Rattle.wgr_pool.specs.Spans.{RisesFrom}
use Rattle.wgr_pool.specs.PrefixTests.{is_before}
use Rattle.wgr_pool.specs.HeldSpans.{standing}
use Rattle.wgr_pool.proofs.Lists.{AllPairs-filter}
use Rattle.wgr_pool.proofs.Merging.{taken_all, rises_merged, rises_routes}
use Rattle.wgr_pool.proofs.held_spans.HeldSpans.new.Goals as goal

pub invariant_of-result : goal.invariant_of-result
invariant_of-result c =
    let expired = contains nat_eq c.args.expired.now in
    let stands = standing expired c.args.routes.now in
    let ordered = AllPairs-filter (λ (r s : PrefixValue × ℕ). is_before r.0 s.0 ≡ true) (λ r. not (expired r.1)) c.args.routes.now c.requires.routes_rise in
    let routes_rise = subst (RisesFrom 0) (sym (taken_all _ _ _ c.next-route.ensures.next)) (rises_routes 0 c.prefix.result stands ordered (λ k d l. omega arith)) in
    record { runs_rise = c.requires.runs_rise; routes_rise = routes_rise; all_rise = rises_merged 0 c.args.runs.now _ c.requires.runs_rise routes_rise }
