use Rattle.std.proofs.Common.{arith}
use Rattle.sqlite.specs.WalFiles.{image_at}
use Rattle.wgr_file.proofs.FileLemmas.{made, stays}
use Rattle.wgr_file.proofs.opening.make_register.Goals as goal

pub returns-in-Ok-create-clause-made : goal.returns-in-Ok-create-clause-made
returns-in-Ok-create-clause-made g c =
    made c.in-Ok.conn c.in-Ok-create.register (image_at g.S.Start) c.close.result c.in-Ok.ensures.sound c.in-Ok.ensures.found c.in-Ok-create.ensures.clean c.in-Ok-create.ensures.free c.in-Ok-create.ensures.done
    c.close.ensures

pub returns-in-Err-create-clause-kept : goal.returns-in-Err-create-clause-kept
returns-in-Err-create-clause-kept g c =
    stays c.in-Ok.conn c.in-Err-create.field-0.connection (image_at g.S.Start) c.close-in-Err-create.result c.in-Ok.ensures.found (λ now. omega (arith, c.in-Err-create.ensures.crash.clean, now))
    c.in-Err-create.ensures.kept c.close-in-Err-create.ensures
