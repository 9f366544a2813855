use Rattle.std.proofs.Common.{IsTrue, List, sym, subst}
use Rattle.sqlite.specs.Effect.{Database}
use Rattle.sqlite.specs.Held.{state}
use Rattle.sqlite.specs.State.{HasCleanDisk}
use Rattle.wgr_model.specs.Rows.{Tables}
use Rattle.wgr_model.specs.Steps.{Event}
use Rattle.wgr_orders.specs.Orders.{order_event}
use Rattle.wgr_sql.specs.Causes.{HasCauseOr}
use Rattle.wgr_register.specs.Causes.{IfOrderFault, OrderStops}
use Rattle.wgr_register.specs.Standing.{StandsAt}
use Rattle.wgr_columns.specs.Decode.{tables_of}
use Rattle.wgr_register.specs.Loaded.{Shows, UnlessUndone}
use Rattle.wgr_register.specs.Memory.{IsMemoryOf}
use Rattle.wgr_register.proofs.StayLemmas.{shown_then}
use Rattle.wgr_register.proofs.StandLemmas.{order_somewhere}
use Rattle.wgr_register.proofs.register.Register.operate.Given.{Over}
use Rattle.wgr_register.proofs.register.Register.operate.Goals.{After-operate-ended}
use Rattle.wgr_register.proofs.register.Register.operate.Goals as goal

-- what was kept in memory, as the order leaves it, is of the rows that are shown, unless it failed
module _ (g : Over) (c : After-operate-ended g) (P : Tables → Type 0) (shows : Shows g.S.Store c.self.inside.conn P) (clean : HasCleanDisk (state g.S.Store c.operate-ended.new.conn))
    (live : IsTrue (state g.S.Store c.operate-ended.new.conn).is_open) where
  kept : (Q : Tables → Type 0) → ((db : Database) (late : List Event) → StandsAt g.S.Store c.self.inside.conn db late → P (tables_of db) → UnlessUndone c.operate-ended.result (Shows g.S.Store c.operate-ended.new.conn Q))
      → UnlessUndone c.operate-ended.result (Q (tables_of (state g.S.Store c.operate-ended.new.conn).now))
  kept Q next =
      let before = c.operate-ended.ensures.clean clean in
      let held = c.self.invariant.0.somewhere before in
      shown_then g.S.Store c.self.inside.conn c.operate-ended.new.conn c.operate-ended.result held.0 held.2.pending P Q held.2.stands shows before (c.operate-ended.ensures.open clean) (next held.0 held.1 held.2) clean live

pub invariant_of-self : goal.invariant_of-self
invariant_of-self g c =
    let a = (goal.at.invariant_of-self g c).After-operate-ended in
    let shown = tables_of (state g.S.Store c.operate-ended.new.conn).now in (
      record {
        idle = c.operate-ended.ensures.idle;
        somewhere = λ clean.
            let held = c.self.invariant.0.somewhere (c.operate-ended.ensures.clean clean) in
            order_somewhere g.S.Store c.operate-ended.new.conn held.0 held.1 (order_event c.args.order.now) c.operate-ended.result (c.operate-ended.ensures.ends held.0 held.1 held.2) clean;
      },
      λ clean live. c.after_order.ensures.is_of shown (kept g a (IsMemoryOf c.self.inside.memory) c.self.invariant.1 clean live (IsMemoryOf c.operate-ended.new.memory) c.operate-ended.ensures.memory),
    )

pub returns-clause-ends : goal.returns-clause-ends
returns-clause-ends g c db late at = c.operate-ended.ensures.ends db late (subst (λ h. StandsAt g.S.Store h db late) (sym c.self.view_is) at)

pub returns-clause-stops : goal.returns-clause-stops
returns-clause-stops g c db late at =
    let new = state g.S.Store c.operate-ended.new.conn in
    subst (λ h. IfOrderFault (HasCauseOr (OrderStops (tables_of db) (order_event c.args.order.now)) (state g.S.Store h) new) c.operate-ended.result) c.self.view_is
    (c.operate-ended.ensures.stops db late (subst (λ h. StandsAt g.S.Store h db late) (sym c.self.view_is) at))
