use Rattle.std.proofs.Common.{◌≡◌, ℕ, ◌-◌, ◌&&◌, length, take, drop, filter, nat_lt, nat_le, sym, ap, refl, ◌∙◌, rules, arith}
use Rattle.std.proofs.lemmas.List.{length-drop, take_all}
use Rattle.std.proofs.lemmas.List.Sorted.{IsNonDecreasingBy-drop, IsNonDecreasingBy-take, IsPartitionPoint-from_clause, IsPartitionedBy-leb, IsPartitionedBy-ltb}
use Rattle.wgr_text.specs.Prefix.{PrefixValue, rank}
use Rattle.wgr_pool.specs.HeldSpans.{span_of}
use Rattle.wgr_pool.proofs.Lists.{drop_below, take_above, filter_twice}
use Rattle.wgr_pool.proofs.Skipped.{routes_order}
use Rattle.wgr_pool.proofs.held_spans.routes_in.Goals as goal

pub returns : goal.returns
returns c =
    let routes = c.args.routes.now in
    let begin = λ (r : PrefixValue × ℕ). rank r.0.address in
    let span = c.whole-lo.result in
    let start = c.partition_point-start in
    let count = c.partition_point-count in
    let rest = take (length routes - start.result) (drop start.result routes) in
    let rises = routes_order routes c.requires in
    let rest_rises = IsNonDecreasingBy-take begin (length routes - start.result) (drop start.result routes) (IsNonDecreasingBy-drop begin start.result routes rises) in
    let low = IsPartitionPoint-from_clause (λ (r : PrefixValue × ℕ). nat_lt (rank r.0.address) (rank span.lo)) routes start.result start.ensures.partitioned (IsPartitionedBy-ltb begin routes (rank span.lo) rises) (λ a r f called. search rules) in
    let high = IsPartitionPoint-from_clause (λ (r : PrefixValue × ℕ). nat_le (rank r.0.address) (rank span.hi)) rest count.result count.ensures.partitioned (IsPartitionedBy-leb begin rest (rank span.hi) rest_rises) (λ a r f called. search rules) in
    let from : rest ≡ filter (λ r. nat_le (rank span.lo) (rank r.0.address)) routes = take_all _ _ (omega (arith, length-drop start.result routes)) ∙ drop_below begin (rank span.lo) routes start.result low start.ensures.bound in
    take_above begin (rank span.hi) rest count.result high count.ensures.bound
    ∙ ap (filter (λ r. nat_le (rank r.0.address) (rank span.hi))) from
    ∙ sym (filter_twice (λ (r : PrefixValue × ℕ). nat_le (rank span.lo) (rank r.0.address)) (λ r. nat_le (rank r.0.address) (rank span.hi)) (λ r. nat_le (rank span.lo) (rank r.0.address) && nat_le (rank r.0.address) (rank span.hi)) (λ r. refl) routes)
    ∙ ap (λ s. filter (λ r. nat_le (rank s.lo) (rank r.0.address) && nat_le (rank r.0.address) (rank s.hi)) routes) (c.whole-lo.ensures ∙ ap span_of c.prefix.ensures.value)
