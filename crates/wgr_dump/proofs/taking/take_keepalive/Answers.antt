use Rattle.wgr_dump.specs.Fields.{SpellsKeepalive, a_keepalive}
use Rattle.wgr_dump.proofs.TakingLemmas.{taken}
use Rattle.wgr_dump.proofs.taking.take_keepalive.Goals as goal

pub returns : goal.returns
returns c = taken a_keepalive SpellsKeepalive (λ field of. of) c.in_ok-field.field.now _ _ c.in_ok-field.ensures c.read_keepalive.result c.read_keepalive.ensures.spelled c.read_keepalive.ensures.none
