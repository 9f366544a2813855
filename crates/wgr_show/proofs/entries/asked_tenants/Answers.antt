use Rattle.std.proofs.Common.{◌∙◌, ap, filter, map, subst, is_lt, rules, Bor}
use Rattle.std.specs.List.Sorted.{IsPermutation}
use Rattle.std.specs.Option.{option_map}
use Rattle.std.specs.Ordering.{nat_cmp}
use Rattle.std.specs.Cmp.Lexicographic.{slice_cmp, nat_list_cmp_total}
use Rattle.std.proofs.lemmas.List.{take_all}
use Rattle.std.proofs.lemmas.List.Sorted.{IsPermutation-map, answers_always, ranks_by}
use Rattle.wgr_model.specs.Register.{Tenant}
use Rattle.wgr_show.specs.Shown.{is_asked}
use Rattle.wgr_show.proofs.Listing.{sorted_values}
use Rattle.wgr_show.proofs.entries.asked_tenants.Goals as goal

pub returns : goal.returns
returns c =
    let found = c.sort_unstable_by.new.self.items in
    let asked = is_asked (option_map (λ n. n.now) c.args.name) in
    let all = c.loop-tenant.invariant ∙ ap (filter asked) (take_all _ _ c.loop-tenant-test.false) in
    let below = λ (a : Tenant) (b : Tenant). is_lt (slice_cmp nat_cmp a.name b.name) in
    let sorted = c.sort_unstable_by.ensures.sorted (λ (a : Bor Tenant) (b : Bor Tenant). below a.now b.now) (ranks_by nat_list_cmp_total (λ (a : Bor Tenant). a.now.name)) (answers_always _ _ _ (λ f a r g called. search rules)) in
    record {
      same = subst (λ xs. IsPermutation xs (map (λ r. r.now) found)) all (IsPermutation-map (λ r. r.now) _ _ c.sort_unstable_by.ensures.permutation);
      sorted = sorted_values (λ r. r.now) below found sorted;
    }
