use Rattle.std.proofs.Common.{nat_eq, ap, ◌∙◌}
use Rattle.std.specs.List.{list_any}
use Rattle.wgr_peers.proofs.NumberLemmas.{found_is}
use Rattle.wgr_peers.proofs.number_set.NumberSet.contains.Goals as goal

pub returns : goal.returns
returns c =
    let position = rw c.deref.ensures.value at c.binary_search.ensures.position in
    c.is_ok.ensures.value ∙ found_is c.self.inside.numbers.items c.args.number c.binary_search.result c.self.invariant position ∙ ap (list_any (nat_eq c.args.number)) c.self.view_is
