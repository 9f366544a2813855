use Rattle.wgr_register.proofs.memory.Memory.after_request.Goals as goal

pub returns-in-Err-Fault-clause-is_of : goal.returns-in-Err-Fault-clause-is_of
returns-in-Err-Fault-clause-is_of c t is = c.forget_all.ensures t
