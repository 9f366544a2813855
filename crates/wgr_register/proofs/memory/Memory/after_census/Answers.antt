use Rattle.wgr_register.proofs.memory.Memory.after_census.Goals as goal

pub returns-then-is_err-clause-is_of : goal.returns-then-is_err-clause-is_of
returns-then-is_err-clause-is_of c t is = c.forget_all.ensures t
