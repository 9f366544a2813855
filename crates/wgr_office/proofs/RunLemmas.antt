-- A run grows at its end.
use Rattle.std.proofs.Common.{◌≡◌, ℕ, Bool, true, false, List, [], ◌∷◌, ◌++◌, Option, Some, None, Result, Ok, Err, refl, sym, ap, subst, inl, inr}
use Rattle.std.specs.Prelude.{IfOk}
use Rattle.std.specs.declared.vec.Vec.{Vec}
use Rattle.std.specs.declared.alloc.Global.{Global}
use Rattle.std.specs.declared.alloc.AllocError.{AllocError}
use Rattle.sqlite.specs.Effect.{Database}
use Rattle.sqlite.specs.State.{HasCleanDisk}
use Rattle.sqlite.specs.Store.{Ghosts}
use Rattle.sqlite.specs.Held.{Held, state}
use Rattle.wgr_orders.specs.Orders.{order_event, refusal_of}
use Rattle.wgr_orders.specs.declared.order.Order.{Order}
use Rattle.wgr_model.specs.RowLaws.{AreConsistent, RowsAreIsolated, IsRowRun, IsRowServed, IsRowStep}
use Rattle.wgr_model.specs.Runs.{Served, acknowledged}
use Rattle.wgr_model.specs.Steps.{Answer, Event, IsProper, Refused}
use Rattle.wgr_model.specs.Tenants.{Agree, FitsAnswer}
use Rattle.wgr_model.proofs.RunLemmas.{proper_more}
use Rattle.wgr_office.specs.Events.{AgreeAsGiven, HaveAnswers, Goes, GoesAll, HasRun, HaveBeenServed, IsAnswerTo, IsEventServed, IsOrderAnswer, Serves, Settles, IsAnswerIfAny, unread}
use Rattle.wgr_office.specs.Pages.{IsAnsweredAs, event_of}
use Rattle.wgr_office.specs.declared.answer.Answer as given
use Rattle.wgr_office.specs.declared.answer.Answer.TheVariants as givens
use Rattle.wgr_office.specs.declared.run.Event as event
use Rattle.wgr_office.specs.declared.run.Event.TheVariants as events
use Rattle.wgr_register.specs.Ends.{StandsAfter, OrderEnds, is_change}
use Rattle.wgr_register.specs.Standing.{IsAtRest, StandsAt}
use Rattle.wgr_register.specs.declared.fault.Done as done
use Rattle.wgr_register.specs.declared.fault.OrderFault.{OrderFault}
use Rattle.wgr_register.specs.declared.fault.OrderFault.TheVariants as order_fault
use Rattle.wgr_columns.specs.Decode.{tables_of}

-- ---- one more

pub served_more : (asked : List event.Event) (answers : List given.Answer) (served : List Served) (event : event.Event) (given : given.Answer) (e : Event) (a : Option Answer)
    → HaveAnswers asked answers served → Serves event given e a → HaveAnswers (asked ++ event ∷ []) (answers ++ given ∷ []) (served ++ (e, a) ∷ [])
served_more [] [] [] event given e a so_far one = (one, tt)
served_more (x ∷ asked) (b ∷ answers) (y ∷ served) event given e a so_far one = (so_far.0, served_more asked answers served event given e a so_far.1 one)
served_more [] [] (y ∷ served) event given e a so_far one = absurd so_far
served_more [] (b ∷ answers) served event given e a so_far one = absurd so_far
served_more (x ∷ asked) [] served event given e a so_far one = absurd so_far
served_more (x ∷ asked) (b ∷ answers) [] event given e a so_far one = absurd so_far

pub goes_more : (served : List Served) (db : Database) (late : List Event) (mid : Database) (between : List Event) (e : Event) (a : Option Answer) (next : Database) (left : List Event)
    → GoesAll db late served mid between → Goes mid between e a next left → GoesAll db late (served ++ (e, a) ∷ []) next left
goes_more [] db late mid between e a next left same step =
    (next, left, subst (λ (d : Database). Goes d late e a next left) same.0 (subst (λ (l : List Event). Goes mid l e a next left) same.1 step), (refl, refl))
goes_more (s ∷ served) db late mid between e a next left (first, first_left, goes, rest) step = (first, first_left, goes, goes_more served first first_left mid between e a next left rest step)

-- ---- what was done, as a run over rows

row_served : (db : Database) (late : List Event) (e : Event) (a : Option Answer) (next : Database) (left : List Event) → Goes db late e a next left → IsRowServed (tables_of db) e a (tables_of next)
row_served db late e None next left step = ap tables_of (sym step.0)
row_served db late e (Some answer) next left step = step.0

pub row_run : (served : List Served) (db : Database) (late : List Event) (next : Database) (left : List Event) → GoesAll db late served next left → IsRowRun (tables_of db) served (tables_of next)
row_run [] db late next left same = ap tables_of (sym same.0)
row_run (s ∷ served) db late next left (mid, between, step, rest) = (tables_of mid, row_served db late s.0 s.1 mid between step, row_run served mid between next left rest)

-- ---- one event

module _ {S : Type 0} (g : Ghosts S) (conn : Held S) (db : Database) (late : List Event) where
  ended : (asked : event.Event) (reply : given.Answer) (e : Event) (answer : Answer) → Serves asked reply e (Some answer) → IsProper e → (next : Database) → IsRowStep (tables_of db) e answer (tables_of next)
      → StandsAfter g conn (is_change answer e) db late next → IsEventServed g conn db late asked reply
  ended asked reply e answer serves proper next step = each (is_change answer e) refl
    where
      each : (b : Bool) → is_change answer e ≡ b → StandsAfter g conn b db late next → IsEventServed g conn db late asked reply
      each true is at = record { e = e; answer = Some answer; serves = serves; proper = proper; next = next; left = []; goes = (step, subst (λ c. Settles c db late next []) (sym is) refl); stands = at }
      each false is (same, at) = record {
        e = e;
        answer = Some answer;
        serves = serves;
        proper = proper;
        next = db;
        left = late;
        goes = (subst (λ (d : Database). IsRowStep (tables_of db) e answer (tables_of d)) same step, subst (λ c. Settles c db late db late) (sym is) (refl, refl));
        stands = at;
      }

  pub ask_served : (now : ℕ) (bytes : Vec ℕ Global) (reply : given.Answer) → IsAnsweredAs g conn db late now bytes.items reply → HasCleanDisk (state g conn) → IsEventServed g conn db late (events.Ask now bytes) reply
  ask_served now bytes (givens.Reply b) (r, read, ends) clean =
      let end = ends clean in
      ended (events.Ask now bytes) (givens.Reply b) (event_of now r) end.0 (r, read.asks, refl, end.1) read.proper end.2 end.3 end.4
  ask_served now bytes givens.Unavailable (inl at) clean = record { e = unread; answer = None; serves = inl refl; proper = tt; next = db; left = late; goes = (refl, inl refl); stands = at }
  ask_served now bytes givens.Unavailable (inr (r, read, at)) clean =
      record { e = event_of now r; answer = None; serves = inr (r, read.asks, refl); proper = read.proper; next = db; left = event_of now r ∷ late; goes = (refl, inr refl); stands = at }
  ask_served now bytes (givens.Order done) bad clean = absurd bad

  pub order_served : (order : Order) (end : Result done.Done OrderFault) (reply : given.Answer) → OrderEnds g conn db late (order_event order) end → IsOrderAnswer end reply → IsProper (order_event order) → HasCleanDisk (state g conn)
      → IsEventServed g conn db late (events.Order order) reply
  order_served order (Ok done) reply ends is proper clean =
      let end = ends clean in
      subst (IsEventServed g conn db late (events.Order order)) (sym is) (ended (events.Order order) (givens.Order (Ok done)) (order_event order) end.0 (refl, end.1) proper end.2 end.3 end.4)
  order_served order (Err (order_fault.Refused why)) reply ends is proper clean =
      subst (IsEventServed g conn db late (events.Order order)) (sym is) (ended (events.Order order) (givens.Order (Err why)) (order_event order) (Refused (refusal_of why)) (refl, refl) proper db (ends.1 clean) (refl, ends.0))
  order_served order (Err (order_fault.Fault why)) reply ends is proper clean =
      subst (IsEventServed g conn db late (events.Order order)) (sym is)
      (record { e = order_event order; answer = None; serves = refl; proper = proper; next = db; left = order_event order ∷ late; goes = (refl, inr refl); stands = ends })

-- ---- the answers of a tenant alone, as they were given

given_to : (event : event.Event) (reply : given.Answer) (e : Event) (answer : Answer) → Serves event reply e (Some answer) → IsAnswerTo event reply answer
given_to (events.Ask now bytes) (givens.Reply b) e answer serves = serves.3
given_to (events.Ask now bytes) givens.Unavailable e answer serves = serves.3
given_to (events.Ask now bytes) (givens.Order done) e answer serves = serves.3
given_to (events.Order order) (givens.Reply b) e answer serves = serves.1
given_to (events.Order order) givens.Unavailable e answer serves = serves.1
given_to (events.Order order) (givens.Order done) e answer serves = serves.1

tells : (event : event.Event) (reply : given.Answer) (alone : Option Answer) (answer : Answer) → IsAnswerTo event reply answer → FitsAnswer alone answer → IsAnswerIfAny event reply alone
tells event reply None answer is fits = tt
tells event reply (Some a) answer is fits = subst (IsAnswerTo event reply) (sym fits) is

pub agree_given : (asked : List event.Event) (answers : List given.Answer) (served : List Served) (alone : List (Option Answer))
    → HaveAnswers asked answers served → Agree alone (acknowledged served) → AgreeAsGiven asked answers alone
agree_given [] [] [] [] told agree = tt
agree_given [] [] [] (a ∷ alone) told agree = absurd agree
agree_given [] [] (s ∷ served) alone told agree = absurd told
agree_given [] (b ∷ answers) served alone told agree = absurd told
agree_given (e ∷ asked) [] served alone told agree = absurd told
agree_given (e ∷ asked) (b ∷ answers) [] alone told agree = absurd told
agree_given (e ∷ asked) (givens.Unavailable ∷ answers) ((s, None) ∷ served) alone told agree = agree_given asked answers served alone told.1 agree
agree_given (events.Ask now bytes ∷ asked) (givens.Unavailable ∷ answers) ((s, Some x) ∷ served) alone told agree = absurd told.0.3
agree_given (events.Order order ∷ asked) (givens.Unavailable ∷ answers) ((s, Some x) ∷ served) alone told agree = absurd told.0.1
agree_given (events.Ask now bytes ∷ asked) (givens.Reply b ∷ answers) ((s, None) ∷ served) alone told agree = absurd told.0
agree_given (events.Order order ∷ asked) (givens.Reply b ∷ answers) ((s, None) ∷ served) alone told agree = absurd told.0
agree_given (e ∷ asked) (givens.Reply b ∷ answers) ((s, Some x) ∷ served) [] told agree = absurd agree
agree_given (e ∷ asked) (givens.Reply b ∷ answers) ((s, Some x) ∷ served) (a ∷ alone) told agree =
    (tells e (givens.Reply b) a x (given_to e (givens.Reply b) s x told.0) agree.0, agree_given asked answers served alone told.1 agree.1)
agree_given (events.Ask now bytes ∷ asked) (givens.Order done ∷ answers) ((s, None) ∷ served) alone told agree = absurd told.0
agree_given (events.Order order ∷ asked) (givens.Order done ∷ answers) ((s, None) ∷ served) alone told agree = absurd told.0
agree_given (e ∷ asked) (givens.Order done ∷ answers) ((s, Some x) ∷ served) [] told agree = absurd agree
agree_given (e ∷ asked) (givens.Order done ∷ answers) ((s, Some x) ∷ served) (a ∷ alone) told agree =
    (tells e (givens.Order done) a x (given_to e (givens.Order done) s x told.0) agree.0, agree_given asked answers served alone told.1 agree.1)

-- ---- a run

module _ {S : Type 0} (g : Ghosts S) (db : Database) (late : List Event) (asked : List event.Event) (answers : List given.Answer) where
  pub one_more : (before after : Held S) (event : event.Event) (reply : given.Answer) → HasCleanDisk (state g after)
      → ((mid : Database) (between : List Event) → StandsAt g before mid between → HasCleanDisk (state g after) → IsEventServed g after mid between event reply)
      → HaveBeenServed g before db late asked answers → HaveBeenServed g after db late (asked ++ event ∷ []) (answers ++ reply ∷ [])
  one_more before after event reply clean serve all =
      let one = serve all.next all.left all.stands clean in
      record {
        served = all.served ++ (one.e, one.answer) ∷ [];
        reported = served_more asked answers all.served event reply one.e one.answer all.reported one.serves;
        proper = proper_more all.served one.e one.answer all.proper one.proper;
        next = one.next;
        left = one.left;
        goes = goes_more all.served db late all.next all.left one.e one.answer one.next one.left all.goes one.goes;
        stands = one.stands;
      }

  pub run_of : (conn : Held S) → RowsAreIsolated → AreConsistent (tables_of db) → HaveBeenServed g conn db late asked answers → HasRun g conn db late asked answers
  run_of conn law consistent all =
      let run = row_run all.served db late all.next all.left all.goes in
      let isolated = law (tables_of db) (tables_of all.next) all.served consistent all.proper run in
      record {
        all = all;
        run = run;
        apart = record { answered = λ me. agree_given asked answers all.served _ all.reported (isolated.answers me); views = isolated.views; holders = isolated.holders };
      }

-- a register at rest stands somewhere
pub at_rest : {S : Type 0} (g : Ghosts S) (old new : Held S) (asked : List event.Event) (end : Result (Vec given.Answer Global) AllocError) → IsAtRest g old → (HasCleanDisk (state g new) → HasCleanDisk (state g old))
    → IfOk end (λ answers. (db : Database) (late : List Event) → StandsAt g old db late → HasCleanDisk (state g new) → HasRun g new db late asked answers.items)
    → IfOk end (λ answers. HasCleanDisk (state g new) → (db : Database) × (late : List Event) × StandsAt g old db late × HasRun g new db late asked answers.items)
at_rest g old new asked (Ok answers) rest cleans all = λ clean. let at = rest.somewhere (cleans clean) in (at.0, at.1, at.2, all at.0 at.1 at.2 clean)
at_rest g old new asked (Err e) rest cleans all = tt
