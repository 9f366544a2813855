use Rattle.std.proofs.Common.{sym, ◌∙◌}
use Rattle.std.proofs.lemmas.List.Sorted.{IsNonDecreasingBy-from_sort}
use Rattle.wgr_peers.proofs.NumberLemmas.{found_is}
use Rattle.wgr_checks.proofs.owners.is_among.Goals as goal

pub returns : goal.returns
returns c up =
    let rising = IsNonDecreasingBy-from_sort (λ x. x) c.args.numbers.now up in
    let is = c.is_ok.ensures.value ∙ found_is c.args.numbers.now c.args.number c.binary_search.result rising c.binary_search.ensures.position in
    ((λ told. sym is ∙ told), (λ any. is ∙ any))
