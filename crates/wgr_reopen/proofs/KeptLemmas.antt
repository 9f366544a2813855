-- What was acknowledged stays.
use Rattle.std.proofs.Common.{◌≡◌, Bool, true, false, [], List, subst, inl, inr}
use Rattle.sqlite.specs.Effect.{Database}
use Rattle.sqlite.specs.Held.{Held, state}
use Rattle.sqlite.specs.State.{HasCleanDisk}
use Rattle.sqlite.specs.Store.{Ghosts}
use Rattle.wgr_model.specs.RowLaws.{IsRowStep}
use Rattle.wgr_model.specs.Rows.{Tables}
use Rattle.wgr_model.specs.Steps.{Answer, Event}
use Rattle.wgr_model.specs.Stops.{IsLeft}
use Rattle.wgr_register.specs.Ends.{StandsAfter, is_change}
use Rattle.wgr_register.specs.Given.{GivenValue}
use Rattle.wgr_model.specs.Register.{Bytes}
use Rattle.wgr_register.specs.Standing.{StandsAt}
use Rattle.wgr_register.proofs.LeftLemmas.{stop_leaves}
use Rattle.wgr_columns.specs.Decode.{tables_of}
use Rattle.wgr_reopen.specs.Laws.{AnsweredStays, DoneStays, KeepsOnStop}

-- where no event is late, a stop leaves the rows themselves
none_late : (t u : Tables) → IsLeft t [] u → u ≡ t
none_late t u (inl same) = same
none_late t u (inr late) = absurd late.1

module _ {S : Type 0} (g : Ghosts S) (conn : Held S) where
  keeps : (change : Bool) (db : Database) (late : List Event) (next : Database) → StandsAfter g conn change db late next → HasCleanDisk (state g conn) → KeepsOnStop g conn change db late next
  keeps true db late next at clean = λ trees may.
      let left = stop_leaves g conn next [] at clean trees may in
      (left.0, left.1, left.3, none_late (tables_of next) (tables_of left.0) left.2)
  keeps false db late next (same, at) clean = (
    same,
    λ trees may.
        let left = stop_leaves g conn db late at clean trees may in
        (left.0, left.1, left.3, left.2),
  )

  pub done_stays : DoneStays g conn
  done_stays db late event done ends clean =
      let end = ends clean in
      let acknowledged = subst (λ (a : Answer). IsRowStep (tables_of db) event a (tables_of end.2) × StandsAfter g conn (is_change a event) db late end.2) end.1 (end.3, end.4) in
      (end.2, acknowledged.0, keeps true db late end.2 acknowledged.1 clean)

  pub answered_stays : (shown : GivenValue → Bytes) → AnsweredStays g shown conn
  answered_stays shown db late event now text ends clean =
      let end = ends clean in
      (end.0, end.1, end.2, end.3, keeps (is_change end.0 event) db late end.2 end.4 clean)
