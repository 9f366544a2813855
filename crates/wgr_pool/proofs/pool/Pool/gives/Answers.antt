use Rattle.wgr_pool.proofs.Bridge.{assignable_iff, same_test}
use Rattle.wgr_pool.specs.Allot.{is_assignable}
use Rattle.wgr_pool.proofs.pool.Pool.gives.Goals as goal

pub returns : goal.returns
returns c =
    let within = c.is_between.ensures.within in
    let between = c.assignable-lo.ensures.between c.args.address.now c.is_between.ensures.fits in
    same_test c.is_between.result (is_assignable c.args.self.now c.args.address.now) ((λ h. between.1 (within.0 h)), (λ h. within.1 (between.0 h))) (assignable_iff c.args.self.now c.args.address.now c.rules_hold.ensures)
