use Rattle.std.proofs.Common.{sym, subst}
use Rattle.sqlite.specs.Held.{state}
use Rattle.sqlite.specs.State.{HasCleanDisk}
use Rattle.wgr_register.specs.Standing.{StandsAt}
use Rattle.wgr_office.proofs.RunLemmas.{order_served}
use Rattle.wgr_columns.specs.Decode.{tables_of}
use Rattle.wgr_orders.specs.Orders.{order_event}
use Rattle.wgr_register.specs.Causes.{IfOrderFault, OrderStops}
use Rattle.wgr_sql.specs.Causes.{HasCauseOr}
use Rattle.wgr_office.proofs.office.Office.operate.Goals as goal

pub returns : goal.returns
returns g c = record {
  call = λ answer settled. record {
    clean = λ is. subst (λ h. HasCleanDisk (state g.S.Store h)) c.self.view_is (c.operate.ensures.clean is);
    served = λ db late at clean.
        order_served g.S.Store c.operate.new.self db late c.args.order.now c.operate.result answer
        (c.operate.ensures.ends db late (subst (λ h. StandsAt g.S.Store h db late) (sym c.self.view_is) at)) settled c.forms_hold.ensures clean;
  };
  stops = λ db late at.
      subst (λ h. IfOrderFault (HasCauseOr (OrderStops (tables_of db) (order_event c.args.order.now)) (state g.S.Store h) (state g.S.Store c.operate.new.self)) c.operate.result) c.self.view_is
      (c.operate.ensures.stops db late (subst (λ h. StandsAt g.S.Store h db late) (sym c.self.view_is) at));
}
