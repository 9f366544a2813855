use Rattle.wgr_dump.specs.Fields.{SpellsCount, a_count}
use Rattle.wgr_dump.proofs.TakingLemmas.{taken}
use Rattle.wgr_dump.proofs.taking.take_count.Goals as goal

pub returns : goal.returns
returns c = taken a_count SpellsCount (λ field of. of) c.in_ok-field.field.now _ _ c.in_ok-field.ensures c.read.result c.read.ensures.spelled c.read.ensures.none
