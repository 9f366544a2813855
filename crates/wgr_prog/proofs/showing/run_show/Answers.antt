use Rattle.std.proofs.Common.{refl}
use Rattle.wgr_prog.proofs.showing.run_show.Goals as goal

pub returns : goal.returns
returns g c input failed = record { answer = c.show-shown.result.0; kept = c.show-shown.ensures.kept; shows = c.show-shown.ensures.shown; reported = c.report.ensures; unread = (refl, refl) }
