use Rattle.wgr_register.proofs.memory.Memory.outline_with.Goals as goal

pub returns : goal.returns
returns c t good is formed = record { ends = c.soonest_end.ensures; floor = (c.outline.ensures t c.args.network.now good is formed).floor }
