use Rattle.std.proofs.Common.{sym, subst}
use Rattle.wgr_request.specs.Request.{request_view}
use Rattle.wgr_register.specs.Standing.{StandsAt}
use Rattle.wgr_office.proofs.OfficeLemmas.{answered}
use Rattle.wgr_office.proofs.office.Office.answer.Goals as goal

pub returns-in-Ok-clause-answered : goal.returns-in-Ok-clause-answered
returns-in-Ok-clause-answered g c db late at =
    answered g.S.Store c.respond.new.register db late c.args.now c.args.bytes.now (request_view c.in-Ok.request) c.respond.result (record { asks = c.in-Ok.ensures; proper = c.respond.ensures.proper })
    (c.respond.ensures.responds db late (subst (λ h. StandsAt g.S.Store h db late) (sym c.self.view_is) at))
