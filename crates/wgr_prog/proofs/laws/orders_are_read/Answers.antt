use Rattle.wgr_prog.proofs.ReplyRoundTrips.{orders}
use Rattle.wgr_prog.proofs.laws.orders_are_read.Goals as goal

pub returns : goal.returns
returns c = orders
