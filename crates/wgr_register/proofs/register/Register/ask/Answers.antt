use Rattle.std.proofs.Common.{IsTrue, List, sym, subst}
use Rattle.sqlite.specs.Effect.{Database}
use Rattle.sqlite.specs.Held.{state}
use Rattle.sqlite.specs.State.{HasCleanDisk}
use Rattle.wgr_model.specs.Rows.{Tables}
use Rattle.wgr_model.specs.Steps.{Ask, Event}
use Rattle.wgr_columns.specs.Decode.{tables_of}
use Rattle.wgr_register.specs.Memory.{IsMemoryOf}
use Rattle.wgr_register.specs.Loaded.{Shows, UnlessFault}
use Rattle.wgr_register.specs.Standing.{StandsAt}
use Rattle.wgr_register.proofs.LoadedLemmas.{unless_map}
use Rattle.wgr_register.proofs.StandLemmas.{ask_somewhere}
use Rattle.wgr_sql.specs.Causes.{HasCause, HasCauseOr}
use Rattle.wgr_register.specs.Causes.{IfFault, AskStops}
use Rattle.wgr_register.proofs.CauseLemmas.{asked_clean}
use Rattle.wgr_register.proofs.register.Register.ask.Given.{Over}
use Rattle.wgr_register.proofs.register.Register.ask.Goals.{After-ask-answered}
use Rattle.wgr_register.proofs.register.Register.ask.Goals as goal

pub ask-answered-requires-clause-memory : goal.ask-answered-requires-clause-memory
ask-answered-requires-clause-memory g c = c.self.invariant.1

-- what is kept in memory is of the rows that are shown, unless a fault ended the request
kept : (g : Over) (c : After-ask-answered g) (P : Tables → Type 0) → ((db : Database) (late : List Event) → StandsAt g.S.Store c.self.inside.conn db late → UnlessFault c.ask-answered.result (Shows g.S.Store c.ask-answered.new.conn P))
    → HasCleanDisk (state g.S.Store c.ask-answered.new.conn) → IsTrue (state g.S.Store c.ask-answered.new.conn).is_open → UnlessFault c.ask-answered.result (P (tables_of (state g.S.Store c.ask-answered.new.conn).now))
kept g c P next clean live =
    let held = c.self.invariant.0.somewhere (c.ask-answered.ensures.clean clean) in
    unless_map c.ask-answered.result (Shows g.S.Store c.ask-answered.new.conn P) (P (tables_of (state g.S.Store c.ask-answered.new.conn).now)) (λ shows. shows clean live) (next held.0 held.1 held.2)

pub invariant_of-self : goal.invariant_of-self
invariant_of-self g c =
    let a = (goal.at.invariant_of-self g c).After-ask-answered in
    let shown = tables_of (state g.S.Store c.ask-answered.new.conn).now in (
      record {
        idle = c.ask-answered.ensures.idle;
        somewhere = λ clean.
            let held = c.self.invariant.0.somewhere (c.ask-answered.ensures.clean clean) in
            ask_somewhere g.S.Store g.R.Render.shown c.ask-answered.new.conn held.0 held.1 (Ask c.args.digest.now c.args.name.now c.args.now c.args.command.now) c.args.now c.ask-answered.result (c.ask-answered.ensures.ends held.0 held.1 held.2) clean;
      },
      λ clean live. c.after_request.ensures.is_of shown (kept g a (IsMemoryOf c.ask-answered.new.memory) c.ask-answered.ensures.memory clean live),
    )

pub returns-clause-ends : goal.returns-clause-ends
returns-clause-ends g c db late at = c.ask-answered.ensures.ends db late (subst (λ h. StandsAt g.S.Store h db late) (sym c.self.view_is) at)

pub returns-clause-cause : goal.returns-clause-cause
returns-clause-cause g c reads =
    let new = state g.S.Store c.ask-answered.new.conn in
    subst (λ h. IfFault (HasCause (state g.S.Store h) new) c.ask-answered.result) c.self.view_is
    (asked_clean (state g.S.Store c.self.inside.conn) new c.ask-answered.result (λ clean.
    let held = c.self.invariant.0.somewhere (c.ask-answered.ensures.clean clean) in
    c.ask-answered.ensures.cause held.0 held.1 held.2 reads))

pub returns-clause-stops : goal.returns-clause-stops
returns-clause-stops g c db late at =
    let new = state g.S.Store c.ask-answered.new.conn in
    subst (λ h. IfFault (HasCauseOr (AskStops (tables_of db) c.args.digest.now c.args.name.now c.args.now c.args.command.now) (state g.S.Store h) new) c.ask-answered.result) c.self.view_is
    (c.ask-answered.ensures.stops db late (subst (λ h. StandsAt g.S.Store h db late) (sym c.self.view_is) at))
