use Rattle.std.proofs.Common.{sym, subst}
use Rattle.sqlite.specs.Held.{state}
use Rattle.wgr_register.specs.Standing.{StandsAt}
use Rattle.wgr_sql.specs.Causes.{HasCause}
use Rattle.wgr_sql.specs.declared.fault.Cause.TheVariants.{Other}
use Rattle.wgr_sql.specs.declared.fault.Fault.TheVariants.{Store}
use Rattle.wgr_office.proofs.office.Office.is_shut.Goals as goal

pub returns-clause-cause : goal.returns-clause-cause
returns-clause-cause g c db late at shut =
    subst (λ h. HasCause (state g.S.Store h) (state g.S.Store c.is_shut.new.self) (Store Other)) c.self.view_is (c.is_shut.ensures.cause db late (subst (λ h. StandsAt g.S.Store h db late) (sym c.self.view_is) at) shut)
