use Rattle.wgr_laws.specs.Laws.{after_commands}
use Rattle.wgr_laws.proofs.RunLemmas.{own_address, own_key, runs_keep}
use Rattle.wgr_laws.proofs.runs_keep_the_rules.Goals as goal

pub returns : goal.returns
returns c = record {
  rules = runs_keep;
  addresses = λ n asked is fits. own_address (after_commands n asked) (runs_keep n asked is fits);
  keys = λ n asked is fits. own_key (after_commands n asked) (runs_keep n asked is fits);
}
