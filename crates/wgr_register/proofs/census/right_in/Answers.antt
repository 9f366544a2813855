use Rattle.std.proofs.Common.{sym}
use Rattle.wgr_register.proofs.RightLemmas.{else_full, found_reads}
use Rattle.wgr_register.proofs.census.right_in.Goals as goal

pub returns-in-Ok : goal.returns-in-Ok
returns-in-Ok c up = sym (found_reads c.args.readers.now c.args.digest.now _ c.in-Ok.ensures.bound c.in-Ok.ensures.position)

pub returns-in-Err : goal.returns-in-Err
returns-in-Err c up = sym (else_full c.args.readers.now c.args.digest.now _ up c.in-Err.ensures.position)
