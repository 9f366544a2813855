use Rattle.wgr_laws.proofs.RunLemmas.{next_only_rises, numbers_keep_keys, numbers_once}
use Rattle.wgr_laws.proofs.numbers_are_given_once.Goals as goal

pub returns : goal.returns
returns c = record { next = next_only_rises; once = numbers_once; keys = numbers_keep_keys }
