use Rattle.wgr_core.proofs.LiveLemmas.{live_is_network}
use Rattle.wgr_core.proofs.OutcomeLemmas.{outcome_keeps}
use Rattle.wgr_laws.proofs.commands_keep_the_rules.Goals as goal

pub returns : goal.returns
returns c = record { commands = outcome_keeps; live = live_is_network }
