-- A register without entries is consistent.
use Rattle.wgr_model.proofs.RunLemmas.{empty_consistent}
use Rattle.wgr_plain.proofs.register.Register.new.Goals as goal

pub invariant_of-result : goal.invariant_of-result
invariant_of-result c = rw c.new.ensures.items (rw c.new-2.ensures.items (rw c.new-3.ensures.items (rw c.new-4.ensures.items empty_consistent)))

pub returns-clause-consistent : goal.returns-clause-consistent
returns-clause-consistent c = rw c.new.ensures.items (rw c.new-2.ensures.items (rw c.new-3.ensures.items (rw c.new-4.ensures.items empty_consistent)))
