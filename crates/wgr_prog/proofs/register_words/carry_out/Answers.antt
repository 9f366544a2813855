use Rattle.wgr_prog.proofs.RegisterLemmas.{carried}
use Rattle.wgr_prog.proofs.register_words.carry_out.Goals as goal

pub returns-in-Ok-clause-carried : goal.returns-in-Ok-clause-carried
returns-in-Ok-clause-carried g c = carried _ _ _ _ _ _ c.in-Ok.order _ c.in-Ok.ensures.ordered c.done_or_failed.ensures
