use Rattle.wgr_laws.proofs.MatchLemmas.{match_is_longest, no_match_is_none, nobody_owns, owner_has_longest}
use Rattle.wgr_laws.proofs.RouteOwners.{own_is_owned}
use Rattle.wgr_laws.proofs.UniqueMatch.{longest_owns}
use Rattle.wgr_laws.proofs.owner_is_longest.Goals as goal

pub returns : goal.returns
returns c = record { found = match_is_longest; none = no_match_is_none; owner = owner_has_longest; nobody = nobody_owns; unique = longest_owns; own = own_is_owned }
