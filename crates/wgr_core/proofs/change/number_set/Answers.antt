use Rattle.std.proofs.Common.{nat_eq}
use Rattle.std.specs.HashSet.{contains}
use Rattle.wgr_core.proofs.WalkLemmas.{walk_inserts}
use Rattle.wgr_core.proofs.change.number_set.Goals as goal

pub loop-number-preserved : goal.loop-number-preserved
loop-number-preserved c = λ n.
    walk_inserts (contains nat_eq c.loop-number.set n) (contains nat_eq c.insert.new.self n) c.args.numbers.now c.loop-number.number-index n c.loop-number-test.true (c.loop-number.invariant n) (c.in_ok-insert.ensures.updates.0 n)
