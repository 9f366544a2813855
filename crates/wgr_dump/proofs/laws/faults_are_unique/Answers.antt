use Rattle.wgr_dump.proofs.LawLemmas.{one_fault, not_both, not_neither}
use Rattle.wgr_dump.proofs.laws.faults_are_unique.Goals as goal

pub returns : goal.returns
returns c = record { one = one_fault; not_both = not_both; not_neither = not_neither }
