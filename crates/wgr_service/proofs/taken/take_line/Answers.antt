use Rattle.std.proofs.Common.{subst}
use Rattle.wgr_service.specs.Readings.{TakesAt}
use Rattle.wgr_service.proofs.LineLemmas.{has_taken}
use Rattle.wgr_service.proofs.taken.take_line.Goals as goal

pub returns-in-Ok-Some-clause-ok : goal.returns-in-Ok-Some-clause-ok
returns-in-Ok-Some-clause-ok g c = has_taken g.S.Store c.args.office.now c.take.new.office (g.R.Read.remaining c.args.input.now) c.in-Ok-Some.line.items c.take.result (rw c.in-Ok-Some.field-0-is at c.in-Ok-Some.ensures.line)
    (subst (λ line. TakesAt g.S.Store c.args.office.now c.take.new.office line c.take.result) c.deref.ensures.value c.take.ensures.taken)
