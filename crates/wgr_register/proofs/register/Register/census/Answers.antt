use Rattle.std.proofs.Common.{IfErr, IsTrue, refl, sym, subst}
use Rattle.std.specs.Prelude.{OnOk}
use Rattle.sqlite.specs.Held.{state}
use Rattle.sqlite.specs.State.{HasCleanDisk}
use Rattle.wgr_model.specs.Rows.{Tables}
use Rattle.wgr_columns.specs.Decode.{tables_of}
use Rattle.wgr_register.specs.Loaded.{Shows}
use Rattle.wgr_register.specs.Memory.{IsMemoryOf}
use Rattle.wgr_register.specs.Standing.{StandsAt}
use Rattle.wgr_register.proofs.LoadedLemmas.{shown_read}
use Rattle.wgr_register.proofs.StandLemmas.{at_read}
use Rattle.wgr_sql.proofs.ResultLemmas.{on_ok}
use Rattle.wgr_sql.specs.Causes.{HasCause}
use Rattle.wgr_register.proofs.CauseLemmas.{if_clean}
use Rattle.wgr_register.proofs.register.Register.census.Given.{Over}
use Rattle.wgr_register.proofs.register.Register.census.Goals.{After-census-read}
use Rattle.wgr_register.proofs.register.Register.census.Goals as goal

-- what was kept in memory is of the rows that are shown, if the census was made
module _ (g : Over) (c : After-census-read g) (P : Tables → Type 0) (shows : Shows g.S.Store c.self.inside.conn P) (clean : HasCleanDisk (state g.S.Store c.census-read.new.conn))
    (live : IsTrue (state g.S.Store c.census-read.new.conn).is_open) where
  kept : OnOk c.census-read.result (P (tables_of (state g.S.Store c.census-read.new.conn).now))
  kept =
      let before = c.census-read.ensures.reads.clean clean in
      let held = c.self.invariant.0.somewhere before in
      let stands = c.census-read.ensures.reads.stands held.0 held.2.pending held.2.stands held.2.consistent.rows.meta in
      on_ok c.census-read.result c.census-read.result (IsTrue (state g.S.Store c.self.inside.conn).is_open) (P (tables_of (state g.S.Store c.census-read.new.conn).now))
      (λ was_live. shown_read g.S.Store c.self.inside.conn c.census-read.new.conn held.0 held.2.pending P held.2.stands stands shows before was_live clean live) (c.census-read.ensures.open clean) refl

pub invariant_of-self : goal.invariant_of-self
invariant_of-self g c =
    let a = (goal.at.invariant_of-self g c).After-census-read in
    let shown = tables_of (state g.S.Store c.census-read.new.conn).now in (
      record {
        idle = c.census-read.ensures.reads.idle;
        somewhere = λ clean.
            let held = c.self.invariant.0.somewhere (c.census-read.ensures.reads.clean clean) in
            (held.0, held.1, at_read g.S.Store c.self.inside.conn c.census-read.new.conn held.0 held.1 (λ pending stood. c.census-read.ensures.reads.stands held.0 pending stood held.2.consistent.rows.meta) held.2);
      },
      λ clean live. c.after_census.ensures.is_of shown (kept g a (IsMemoryOf c.self.inside.memory) c.self.invariant.1 clean live),
    )

pub returns-clause-stands : goal.returns-clause-stands
returns-clause-stands g c db late at =
    at_read g.S.Store c.self.inside.conn c.census-read.new.conn db late (λ pending stood. c.census-read.ensures.reads.stands db pending stood at.consistent.rows.meta) (subst (λ h. StandsAt g.S.Store h db late) (sym c.self.view_is) at)

pub returns-clause-listed : goal.returns-clause-listed
returns-clause-listed g c db late at clean =
    let here = subst (λ h. StandsAt g.S.Store h db late) (sym c.self.view_is) at in
    c.census-read.ensures.listed db here.pending here.stands here.consistent.rows.meta clean

pub returns-clause-cause : goal.returns-clause-cause
returns-clause-cause g c =
    let new = state g.S.Store c.census-read.new.conn in
    subst (λ h. IfErr c.census-read.result (HasCause (state g.S.Store h) new)) c.self.view_is
    (if_clean (state g.S.Store c.self.inside.conn) new c.census-read.result (λ clean.
    let held = c.self.invariant.0.somewhere (c.census-read.ensures.reads.clean clean) in
    c.census-read.ensures.cause held.0 held.2.pending held.2.stands held.2.consistent))
