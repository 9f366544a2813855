use Rattle.std.proofs.Common.{ℕ, List, nat_eq, cond, true, sym, ap, ◌∙◌}
use Rattle.std.specs.List.{list_any}
use Rattle.std.proofs.lemmas.List.Sorted.{IsNonDecreasingBy-from_sort, list_any-IsPermutation}
use Rattle.wgr_peers.proofs.NumberLemmas.{any_last}
use Rattle.wgr_peers.proofs.number_set.NumberSet.insert.Goals as goal

pub invariant_of-self-2 : goal.invariant_of-self-2
invariant_of-self-2 c = IsNonDecreasingBy-from_sort (λ x. x) c.sort_unstable.new.self.items c.sort_unstable.ensures.sorted

pub returns-clause-ok : goal.returns-clause-ok
returns-clause-ok c = λ n.
    sym (list_any-IsPermutation (nat_eq n) c.push.new.self.items c.sort_unstable.new.self.items c.sort_unstable.ensures.permutation)
    ∙ ap (list_any (nat_eq n)) c.in_ok-push.ensures.items
    ∙ any_last c.self.inside.numbers.items c.args.number n
    ∙ ap (λ (xs : List ℕ). cond (nat_eq c.args.number n) true (list_any (nat_eq n) xs)) c.self.view_is
