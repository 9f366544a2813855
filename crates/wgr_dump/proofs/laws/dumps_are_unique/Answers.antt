use Rattle.wgr_dump.specs.Unique.{one_dump}
use Rattle.wgr_dump.proofs.laws.dumps_are_unique.Goals as goal

pub returns : goal.returns
returns c = one_dump
