use Rattle.wgr_prog.proofs.ReplyRoundTrips.{readings}
use Rattle.wgr_prog.proofs.laws.readings_are_read.Goals as goal

pub returns : goal.returns
returns c = readings
