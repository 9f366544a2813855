use Rattle.std.proofs.Common.{IfErr, sym, subst}
use Rattle.sqlite.specs.Held.{state}
use Rattle.wgr_register.specs.Standing.{StandsAt}
use Rattle.wgr_sql.specs.Causes.{HasCause}
use Rattle.wgr_office.proofs.office.Office.census.Goals as goal

pub returns-clause-listed : goal.returns-clause-listed
returns-clause-listed g c db late at = c.census.ensures.listed db late (subst (λ h. StandsAt g.S.Store h db late) (sym c.self.view_is) at)

pub returns-clause-cause : goal.returns-clause-cause
returns-clause-cause g c = subst (λ h. IfErr c.census.result (HasCause (state g.S.Store h) (state g.S.Store c.census.new.self))) c.self.view_is c.census.ensures.cause
