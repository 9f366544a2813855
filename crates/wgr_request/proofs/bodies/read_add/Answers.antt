use Rattle.std.proofs.Common.{None, refl}
use Rattle.wgr_request.proofs.bodies.read_add.Goals as goal

pub returns-in_default : goal.returns-in_default
returns-in_default c = rw c.bad.ensures (None, (rw c.in_default.is at c.in_ok-fields.ensures), refl)
