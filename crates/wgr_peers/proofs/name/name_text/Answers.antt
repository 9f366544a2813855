use Rattle.std.proofs.lemmas.Bool.{false_from_ne_true}
use Rattle.wgr_peers.proofs.TextLemmas.{own_name_is_utf8}
use Rattle.wgr_peers.proofs.name.name_text.Goals as goal
use Rattle.wgr_peers.proofs.name.name_text.Goals.{in_default-via-in-Ok+else-is_name, in_default-via-in_default}

pub returns-in_default-clause-none : goal.returns-in_default-clause-none
returns-in_default-clause-none c = elim c.in_default.branch [
  | in_default-via-in-Ok+else-is_name w ↦ cc
  | in_default-via-in_default w ↦ false_from_ne_true _ (λ is. w.in_default.ensures.cases.0 (own_name_is_utf8 _ is))
]
