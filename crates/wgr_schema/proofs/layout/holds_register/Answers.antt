use Rattle.wgr_schema.proofs.LaidOutLemmas.{laid_out_is}
use Rattle.wgr_schema.proofs.layout.holds_register.Goals as goal

pub returns : goal.returns
returns c = let same = laid_out_is c.args.schema.now in let told = c.begins_with_register.ensures in ((λ so. same.0 (told.0 so)), (λ h. told.1 (same.1 h)))
