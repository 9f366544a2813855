-- From the calls of a run to the places between them, and what a stop there leaves.
use Rattle.std.proofs.Common.{◌≤◌, ℕ, zero, suc, List, [], ◌∷◌, ◌++◌, length, refl, sym, ap, subst, arith}
use Rattle.sqlite.specs.Effect.{Database}
use Rattle.sqlite.specs.State.{HasCleanDisk}
use Rattle.sqlite.specs.Store.{Ghosts}
use Rattle.sqlite.specs.Held.{Held, state}
use Rattle.wgr_model.specs.RowLaws.{RowsAreIsolated}
use Rattle.wgr_model.specs.Runs.{Served}
use Rattle.wgr_model.specs.Steps.{Event}
use Rattle.wgr_office.specs.Between.{AreCalls, HasPassed, IsCall, IsKeptBetween, Keeps, PassesAll, Place, StopsKeepAcknowledged, place_at}
use Rattle.wgr_office.specs.Events.{GoesAll, HaveBeenServed}
use Rattle.wgr_office.specs.declared.answer.Answer as given
use Rattle.wgr_office.specs.declared.run.Event as event
use Rattle.wgr_office.proofs.RunLemmas.{agree_given, row_run}
use Rattle.wgr_register.specs.Standing.{StandsAt}
use Rattle.wgr_register.proofs.LeftLemmas.{stop_leaves}
use Rattle.wgr_columns.specs.Decode.{tables_of}

module _ {S : Type 0} (g : Ghosts S) where
  -- one call more
  pub calls_more : (old mid new : Held S) (asked : List event.Event) (answers : List given.Answer) (event : event.Event) (given : given.Answer)
      → AreCalls g old mid asked answers → IsCall g mid new event given → AreCalls g old new (asked ++ event ∷ []) (answers ++ given ∷ [])
  calls_more old mid new [] [] event given same one = (new, subst (λ (conn : Held S). IsCall g conn new event given) same one, refl)
  calls_more old mid new [] (a ∷ answers) event given so_far one = absurd so_far
  calls_more old mid new (e ∷ asked) [] event given so_far one = absurd so_far
  calls_more old mid new (e ∷ asked) (a ∷ answers) event given (next, first, rest) one = (next, first, calls_more next mid new asked answers event given rest one)

  -- a call that serves an event, and then one that serves none
  pub call_kept : (old mid new : Held S) (event : event.Event) (given : given.Answer) → IsCall g old mid event given → Keeps g mid new → IsCall g old new event given
  call_kept old mid new event given call keeps = record {
    clean = λ clean. call.clean (keeps.clean clean);
    served = λ db late at clean.
        let one = call.served db late at (keeps.clean clean) in
        record {
          e = one.e;
          answer = one.answer;
          serves = one.serves;
          proper = one.proper;
          next = one.next;
          left = one.left;
          goes = one.goes;
          stands = keeps.stands one.next one.left one.stands;
        };
  }

  pub calls_clean : (old new : Held S) (asked : List event.Event) (answers : List given.Answer) → AreCalls g old new asked answers → HasCleanDisk (state g new) → HasCleanDisk (state g old)
  calls_clean old new [] [] same clean = subst (λ (conn : Held S). HasCleanDisk (state g conn)) same clean
  calls_clean old new [] (a ∷ answers) calls clean = absurd calls
  calls_clean old new (e ∷ asked) [] calls clean = absurd calls
  calls_clean old new (e ∷ asked) (a ∷ answers) (mid, first, rest) clean = first.clean (calls_clean mid new asked answers rest clean)

  -- where the register stood, they lead it along the places between them
  record IsAlong (old new : Held S) (db : Database) (late : List Event) (asked : List event.Event) (answers : List given.Answer) : Type 0 where
    all : HaveBeenServed g new db late asked answers
    passes : PassesAll g (place_at old db late) (place_at new all.next all.left) asked answers all.served

  along : (old new : Held S) (db : Database) (late : List Event) (asked : List event.Event) (answers : List given.Answer)
      → AreCalls g old new asked answers → StandsAt g old db late → HasCleanDisk (state g new) → IsAlong old new db late asked answers
  along old new db late [] [] same at clean =
      record {
        all = record { served = []; reported = tt; proper = tt; next = db; left = late; goes = (refl, refl); stands = subst (λ (conn : Held S). StandsAt g conn db late) (sym same) at };
        passes = ap (λ (conn : Held S). place_at conn db late) same;
      }
  along old new db late [] (a ∷ answers) calls at clean = absurd calls
  along old new db late (e ∷ asked) [] calls at clean = absurd calls
  along old new db late (e ∷ asked) (a ∷ answers) (mid, first, rest) at clean =
      let clean_mid = calls_clean mid new asked answers rest clean in
      let one = first.served db late at clean_mid in
      let others = along mid new one.next one.left asked answers rest one.stands clean in
      record {
        all = record {
          served = (one.e, one.answer) ∷ others.all.served;
          reported = (one.serves, others.all.reported);
          proper = (one.proper, others.all.proper);
          next = others.all.next;
          left = others.all.left;
          goes = (one.next, one.left, one.goes, others.all.goes);
          stands = others.all.stands;
        };
        passes = (place_at mid one.next one.left, record { call = first; serves = one.serves; goes = one.goes; stands = one.stands; clean = clean_mid }, others.passes);
      }

  pub passed : (old new : Held S) (db : Database) (late : List Event) (asked : List event.Event) (answers : List given.Answer)
      → RowsAreIsolated → AreCalls g old new asked answers → StandsAt g old db late → HasCleanDisk (state g new) → HasPassed g old new db late asked answers
  passed old new db late asked answers law calls at clean =
      let it = along old new db late asked answers calls at clean in
      let run = row_run it.all.served db late it.all.next it.all.left it.all.goes in
      let isolated = law (tables_of db) (tables_of it.all.next) it.all.served at.consistent it.all.proper run in
      record {
        run = record {
          all = it.all;
          run = run;
          apart = record { answered = λ me. agree_given asked answers it.all.served _ it.all.reported (isolated.answers me); views = isolated.views; holders = isolated.holders };
        };
        passes = it.passes;
      }

  -- ---- a stop

  goes_along : (from to : Place S) (asked : List event.Event) (answers : List given.Answer) (served : List Served) → PassesAll g from to asked answers served → GoesAll from.db from.late served to.db to.late
  goes_along from to [] [] [] same = (ap (λ (p : Place S). p.db) same, ap (λ (p : Place S). p.late) same)
  goes_along from to [] [] (s ∷ served) passes = absurd passes
  goes_along from to [] (a ∷ answers) served passes = absurd passes
  goes_along from to (e ∷ asked) [] served passes = absurd passes
  goes_along from to (e ∷ asked) (a ∷ answers) [] passes = absurd passes
  goes_along from to (e ∷ asked) (a ∷ answers) (s ∷ served) (mid, first, rest) = (mid.db, mid.late, first.goes, goes_along mid to asked answers served rest)

  kept : (k : ℕ) (from to : Place S) (asked : List event.Event) (answers : List given.Answer) (served : List Served) → StandsAt g from.conn from.db from.late → HasCleanDisk (state g from.conn)
      → PassesAll g from to asked answers served → k ≤ length asked → IsKeptBetween g from to asked answers served k
  kept zero from to asked answers served at clean passes le =
      record { at = from; before = refl; after = passes; goes = (refl, refl); stands = at; leaves = stop_leaves g from.conn from.db from.late at clean }
  kept (suc k) from to [] answers served at clean passes le = absurd (omega (arith, le))
  kept (suc k) from to (e ∷ asked) [] served at clean passes le = absurd passes
  kept (suc k) from to (e ∷ asked) (a ∷ answers) [] at clean passes le = absurd passes
  kept (suc k) from to (e ∷ asked) (a ∷ answers) (s ∷ served) at clean (mid, first, rest) le =
      let it = kept k mid to asked answers served first.stands first.clean rest (omega (arith, le)) in
      record {
        at = it.at;
        before = (mid, first, it.before);
        after = it.after;
        goes = (mid.db, mid.late, first.goes, it.goes);
        stands = it.stands;
        leaves = it.leaves;
      }

  first_clean : (from to : Place S) (asked : List event.Event) (answers : List given.Answer) (served : List Served) → PassesAll g from to asked answers served → HasCleanDisk (state g to.conn) → HasCleanDisk (state g from.conn)
  first_clean from to [] [] [] same clean = subst (λ (p : Place S). HasCleanDisk (state g p.conn)) same clean
  first_clean from to [] [] (s ∷ served) passes clean = absurd passes
  first_clean from to [] (a ∷ answers) served passes clean = absurd passes
  first_clean from to (e ∷ asked) [] served passes clean = absurd passes
  first_clean from to (e ∷ asked) (a ∷ answers) [] passes clean = absurd passes
  first_clean from to (e ∷ asked) (a ∷ answers) (s ∷ served) (mid, first, rest) clean = first.call.clean first.clean

  pub stops_keep : StopsKeepAcknowledged g
  stops_keep old new db late asked answers at clean it k le =
      let from = place_at old db late in
      let to = place_at new it.run.all.next it.run.all.left in
      kept k from to asked answers it.run.all.served at (first_clean from to asked answers it.run.all.served it.passes clean) it.passes le
