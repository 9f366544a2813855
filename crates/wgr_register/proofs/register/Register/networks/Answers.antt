use Rattle.std.proofs.Common.{IsTrue, sym, subst}
use Rattle.sqlite.specs.Held.{state}
use Rattle.sqlite.specs.State.{HasCleanDisk}
use Rattle.wgr_model.specs.Rows.{Tables}
use Rattle.wgr_model.specs.Steps.{Networks}
use Rattle.wgr_columns.specs.Decode.{tables_of}
use Rattle.wgr_register.specs.Memory.{IsMemoryOf}
use Rattle.wgr_register.specs.Loaded.{Shows, UnlessFault}
use Rattle.wgr_register.specs.Standing.{StandsAt}
use Rattle.wgr_register.proofs.LoadedLemmas.{shown_read, unless_map}
use Rattle.wgr_register.proofs.StandLemmas.{ask_somewhere}
use Rattle.wgr_sql.specs.Causes.{HasCause}
use Rattle.wgr_register.specs.Causes.{IfFault}
use Rattle.wgr_register.proofs.CauseLemmas.{asked_clean}
use Rattle.wgr_register.proofs.register.Register.networks.Given.{Over}
use Rattle.wgr_register.proofs.register.Register.networks.Goals.{After-networks-answered}
use Rattle.wgr_register.proofs.register.Register.networks.Goals as goal

-- what was kept in memory is of the rows that are shown, unless a fault ended the request
module _ (g : Over) (c : After-networks-answered g) (P : Tables → Type 0) (shows : Shows g.S.Store c.self.inside.conn P) (clean : HasCleanDisk (state g.S.Store c.networks-answered.new.conn))
    (live : IsTrue (state g.S.Store c.networks-answered.new.conn).is_open) where
  kept : UnlessFault c.networks-answered.result (P (tables_of (state g.S.Store c.networks-answered.new.conn).now))
  kept =
      let before = c.networks-answered.ensures.reads.clean clean in
      let held = c.self.invariant.0.somewhere before in
      let stands = c.networks-answered.ensures.reads.stands held.0 held.2.pending held.2.stands in
      unless_map c.networks-answered.result (IsTrue (state g.S.Store c.self.inside.conn).is_open) (P (tables_of (state g.S.Store c.networks-answered.new.conn).now))
      (λ was_live. shown_read g.S.Store c.self.inside.conn c.networks-answered.new.conn held.0 held.2.pending P held.2.stands stands shows before was_live clean live) (c.networks-answered.ensures.open clean)

pub invariant_of-self : goal.invariant_of-self
invariant_of-self g c =
    let a = (goal.at.invariant_of-self g c).After-networks-answered in
    let shown = tables_of (state g.S.Store c.networks-answered.new.conn).now in (
      record {
        idle = c.networks-answered.ensures.reads.idle;
        somewhere = λ clean.
            let held = c.self.invariant.0.somewhere (c.networks-answered.ensures.reads.clean clean) in
            ask_somewhere g.S.Store g.R.Render.shown c.networks-answered.new.conn held.0 held.1 (Networks c.args.digest.now) 0 c.networks-answered.result (c.networks-answered.ensures.ends held.0 held.1 0 held.2) clean;
      },
      λ clean live. c.after_request.ensures.is_of shown (kept g a (IsMemoryOf c.self.inside.memory) c.self.invariant.1 clean live),
    )

pub returns-clause-ends : goal.returns-clause-ends
returns-clause-ends g c db late now at = c.networks-answered.ensures.ends db late now (subst (λ h. StandsAt g.S.Store h db late) (sym c.self.view_is) at)

pub returns-clause-cause : goal.returns-clause-cause
returns-clause-cause g c =
    let new = state g.S.Store c.networks-answered.new.conn in
    subst (λ h. IfFault (HasCause (state g.S.Store h) new) c.networks-answered.result) c.self.view_is
    (asked_clean (state g.S.Store c.self.inside.conn) new c.networks-answered.result (λ clean.
    let held = c.self.invariant.0.somewhere (c.networks-answered.ensures.reads.clean clean) in
    c.networks-answered.ensures.cause held.0 held.1 held.2))
