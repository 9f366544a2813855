use Rattle.wgr_pool.proofs.Parting.{some_above}
use Rattle.wgr_pool.proofs.address_set.part_above.Goals as goal

pub returns : goal.returns
returns c = some_above c.args.run.now c.args.address.now c.after.result c.requires c.after.ensures.above c.after.ensures.to c.after.ensures.first
