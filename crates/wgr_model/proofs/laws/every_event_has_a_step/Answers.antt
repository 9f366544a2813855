use Rattle.wgr_model.proofs.StepLemmas.{an_id_is_unused, has_step}
use Rattle.wgr_model.proofs.laws.every_event_has_a_step.Goals as goal

pub returns : goal.returns
returns c = record { step = has_step; id = an_id_is_unused }
