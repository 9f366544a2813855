use Rattle.wgr_core.proofs.JoinLemmas.{lowest_is_free}
use Rattle.wgr_laws.proofs.LowestLemmas.{lowest_is_least, none_is_full}
use Rattle.wgr_laws.proofs.lowest_is_least.Goals as goal

pub returns : goal.returns
returns c = record { free = lowest_is_free; least = λ n a h k from below given. lowest_is_least n a k h from below given; full = none_is_full }
