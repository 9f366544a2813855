use Rattle.std.proofs.Common.{ap, nat_eq, ◌∙◌, ℕ, List}
use Rattle.std.specs.HashSet.{contains}
use Rattle.std.specs.List.{list_any}
use Rattle.wgr_core.proofs.FreedLemmas.{none_over}
use Rattle.wgr_core.proofs.network.Network.lowest_free.Goals as goal

pub returns : goal.returns
returns c = c.lowest_beside.ensures ∙ none_over c.args.self.now c.args.pool.now (contains nat_eq c.new.result) (λ i. ap (λ (keys : List ℕ). list_any (nat_eq i) keys) c.new.ensures.empty)
