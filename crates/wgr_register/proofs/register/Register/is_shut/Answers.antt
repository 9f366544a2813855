use Rattle.std.proofs.Common.{sym, subst}
use Rattle.sqlite.specs.Held.{state}
use Rattle.wgr_sql.specs.Causes.{HasCause}
use Rattle.wgr_sql.specs.declared.fault.Cause.TheVariants.{Other}
use Rattle.wgr_sql.specs.declared.fault.Fault.TheVariants.{Store}
use Rattle.wgr_sql.proofs.CauseLemmas.{any_cause}
use Rattle.wgr_register.specs.Standing.{StandsAt}
use Rattle.wgr_columns.specs.Decode.{tables_of}
use Rattle.wgr_register.proofs.StandLemmas.{at_read}
use Rattle.wgr_register.proofs.register.Register.is_shut.Goals as goal

pub invariant_of-self : goal.invariant_of-self
invariant_of-self g c = (
  record {
    idle = c.tenant_of_token-found.ensures.reads.idle;
    somewhere = λ clean.
        let held = c.self.invariant.0.somewhere (c.tenant_of_token-found.ensures.reads.clean clean) in
        (held.0, held.1, at_read g.S.Store c.self.inside.conn c.tenant_of_token-found.new.conn held.0 held.1 (c.tenant_of_token-found.ensures.reads.stands held.0) held.2);
  },
  λ clean live. c.forget_all.ensures (tables_of (state g.S.Store c.tenant_of_token-found.new.conn).now),
)

pub returns-clause-stands : goal.returns-clause-stands
returns-clause-stands g c db late at =
    at_read g.S.Store c.self.inside.conn c.tenant_of_token-found.new.conn db late (c.tenant_of_token-found.ensures.reads.stands db) (subst (λ h. StandsAt g.S.Store h db late) (sym c.self.view_is) at)

pub returns-clause-cause : goal.returns-clause-cause
returns-clause-cause g c db late at shut =
    let new = state g.S.Store c.tenant_of_token-found.new.conn in
    let here = subst (λ h. StandsAt g.S.Store h db late) (sym c.self.view_is) at in
    subst (λ h. HasCause (state g.S.Store h) new (Store Other)) c.self.view_is
    (any_cause ⊥ (state g.S.Store c.self.inside.conn) new Other c.tenant_of_token-found.result (c.is_fault_of_store.ensures shut) (c.tenant_of_token-found.ensures.cause db here.pending here.stands here.consistent))
