use Rattle.wgr_pool.proofs.Parting.{some_below}
use Rattle.wgr_pool.proofs.address_set.part_below.Goals as goal

pub returns : goal.returns
returns c = some_below c.args.run.now c.args.address.now c.before-2.result c.requires c.before-2.ensures.from c.before-2.ensures.below c.before-2.ensures.last
