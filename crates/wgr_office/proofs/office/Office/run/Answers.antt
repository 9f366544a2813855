use Rattle.std.proofs.Common.{subst}
use Rattle.wgr_register.specs.Standing.{IsAtRest}
use Rattle.wgr_office.proofs.RunLemmas.{at_rest}
use Rattle.wgr_office.proofs.office.Office.run.Goals as goal

pub returns-clause-isolated : goal.returns-clause-isolated
returns-clause-isolated g c =
    at_rest g.S.Store c.args.self.now c.run.new.office c.args.events.now c.run.result (subst (λ h. IsAtRest g.S.Store h) c.self.view_is c.rules_hold.ensures) c.run.ensures.clean c.run.ensures.run
