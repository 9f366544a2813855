use Rattle.wgr_laws.proofs.FormLemmas.{commands_keep_the_forms}
use Rattle.wgr_laws.proofs.commands_keep_the_forms.Goals as goal

pub returns : goal.returns
returns c = commands_keep_the_forms
