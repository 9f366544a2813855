use Rattle.std.proofs.Common.{refl}
use Rattle.wgr_service.specs.Connections.{missed}
use Rattle.wgr_service.proofs.connections.serve_one.Goals as goal

pub returns-in-Err-clause-outcome : goal.returns-in-Err-clause-outcome
returns-in-Err-clause-outcome g c = (missed c.in-Err.field-0.door, (tt, refl), refl, tt, c.in-Err.ensures.missed, refl)
