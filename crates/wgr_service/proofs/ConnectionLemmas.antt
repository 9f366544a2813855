-- Connections that were served, and one more.
use Rattle.std.proofs.Common.{◌≡◌, ◌+◌, ℕ, Bool, true, false, List, [], ◌∷◌, ◌++◌, length, map, take, drop, Option, Some, None, inl, inr, refl, sym, ap, ◌∙◌, subst, rules}
use Rattle.std.specs.Prelude.{All, MatchBool, cond, flat_map}
use Rattle.std.specs.Io.KnownBytes.{Appends}
use Rattle.std.specs.List.{cons_option, filter}
use Rattle.std.proofs.lemmas.List.{append-nil, append_assoc, flat_map_more, length-append, map-append, take-append-drop}
use Rattle.std.proofs.lemmas.List.Elements.{All-append, filter-append, filter_map-append}
use Rattle.sqlite.specs.State.{HasCleanDisk}
use Rattle.sqlite.specs.Store.{Ghosts}
use Rattle.sqlite.specs.Held.{Held, state}
use Rattle.wgr_model.specs.Register.{Bytes}
use Rattle.wgr_model.specs.RowLaws.{RowsAreIsolated}
use Rattle.wgr_office.specs.Between.{AreCalls, IsCall, Keeps}
use Rattle.wgr_office.specs.Serving.{Ends, IsServeFault, TakesMessage, is_available, written_reply, status_of}
use Rattle.wgr_office.specs.declared.run.Event as event
use Rattle.wgr_office.specs.declared.answer.Answer as given
use Rattle.wgr_office.specs.declared.answer.Answer.TheVariants as givens
use Rattle.wgr_office.specs.declared.run.Event.TheVariants as events
use Rattle.wgr_office.specs.declared.serve.ServeFault.{ServeFault}
use Rattle.wgr_office.specs.declared.serve.ServeFault.TheVariants as serve_fault
use Rattle.wgr_office.proofs.BetweenLemmas.{call_kept, calls_more, passed}
use Rattle.wgr_office.proofs.RunLemmas.{ask_served}
use Rattle.wgr_io.specs.Device.{IsCut}
use Rattle.wgr_service.specs.Connections.{AreConnectionsServed, AreUnharmed, IsAppended, Asked, Exchange, HasCounted, HaveMoved, Moves, HasMet, HasOutcome, IsConnectionServed, Meeting, Ordered, ConnectionEnd, Reports, given_answer, answered, asked_event, contacts_of, counted_all, cut, door_of, exchange_of, exchanges, failed, failure_line, is_request_at, line_of, meeting_of, missed, served_moment, requests_in, shown, status_in, unavailable_line, unspelled, weight}
use Rattle.wgr_service.specs.Counts.{counted_if}
use Rattle.wgr_service.specs.Lines.{fault_text, is_read, order_answer}
use Rattle.wgr_service.specs.Network.{Contact, Log, Logs}
use Rattle.wgr_service.specs.Readings.{HasTaken, HasReadRows, is_reading_available, is_taken_available, reading_text, taken_text}
use Rattle.wgr_service.specs.Reports.{IsReport, report_line}
use Rattle.wgr_service.specs.declared.connections.Ending.{Ending}
use Rattle.wgr_service.specs.declared.desk.Replies.{Replies}
use Rattle.wgr_service.specs.declared.lines.LineEnd.TheVariants as line_end
use Rattle.wgr_service.specs.declared.network.Door.{Door}
use Rattle.wgr_service.specs.declared.network.Door.TheVariants as door
use Rattle.wgr_service.specs.declared.report.Report.{Report}
use Rattle.wgr_service.specs.declared.readings.ReadingEnd.{ReadingEnd}
use Rattle.wgr_service.specs.declared.report.Report.TheVariants as report
use Rattle.wgr_service.specs.declared.taken.Taken.{Taken}
use Rattle.wgr_service.specs.declared.taken.Taken.TheVariants as taken
use Rattle.wgr_words.specs.Reading.{ReadingAsked}
use Rattle.wgr_words.specs.declared.line.LineFault.{LineFault}

-- ---- what is written

pub appends_more : (old mid new : Option Bytes) (xs ys : Bytes) → Appends old mid xs → Appends mid new ys → Appends old new (xs ++ ys)
appends_more None mid new xs ys first next = tt
appends_more (Some a) None new xs ys first next = absurd first
appends_more (Some a) (Some b) None xs ys first next = absurd next
appends_more (Some a) (Some b) (Some c) xs ys first next = next ∙ ap (λ (z : Bytes). z ++ ys) first ∙ append_assoc a xs ys

pub appends_none : (old : Option Bytes) → Appends old old []
appends_none None = tt
appends_none (Some a) = sym (append-nil a)

pub written_none : (is_failed : Bool) (old : Option Bytes) → IsAppended is_failed old old []
written_none is_failed old sound = appends_none old

pub written_more : (failed_then failed_now : Bool) (old mid new : Option Bytes) (outcomes : List ConnectionEnd) (outcome : ConnectionEnd) → (failed_now ≡ false → failed_then ≡ false)
    → IsAppended failed_then old mid (flat_map line_of outcomes) → IsAppended failed_now mid new (line_of outcome) → IsAppended failed_now old new (flat_map line_of (outcomes ++ outcome ∷ []))
written_more failed_then failed_now old mid new outcomes outcome marks first next sound =
    subst (Appends old new) (flat_map_more line_of [] outcomes outcome) (appends_more old mid new (flat_map line_of outcomes) (line_of outcome) (first (marks sound)) (next sound))

-- ---- the network's log

pub logs_none : (log : Log) → Logs log log []
logs_none None = tt
logs_none (Some a) = ap Some (sym (append-nil a))

pub logs_more : (old mid new : Log) (xs ys : List Contact) → Logs old mid xs → Logs mid new ys → Logs old new (xs ++ ys)
logs_more None mid new xs ys first next = tt
logs_more (Some a) mid new xs ys first next = subst (λ (log : Log). Logs log new ys) first next ∙ ap Some (append_assoc a xs ys)

pub logged_more : (old mid new : Log) (outcomes : List ConnectionEnd) (outcome : ConnectionEnd) → Logs old mid (flat_map contacts_of outcomes) → Logs mid new (contacts_of outcome) → Logs old new (flat_map contacts_of (outcomes ++ outcome ∷ []))
logged_more old mid new outcomes outcome first next = subst (Logs old new) (flat_map_more contacts_of [] outcomes outcome) (logs_more old mid new (flat_map contacts_of outcomes) (contacts_of outcome) first next)

-- ---- one connection

-- a beginning of the answer
cut_at : (sent : ℕ) (before after : Option Bytes) (reply : Bytes) → Appends before after (take sent reply) → IsCut before after reply
cut_at sent before after reply written = (take sent reply, drop sent reply, sym (take-append-drop sent reply), written)

-- what is reported of an answer
reported : (m : Meeting) (x : Exchange) (r : Report) → IsReport (is_available (given_answer x)) r → Reports r (answered m x)
reported m x r told = by (given_answer x) refl told
  where
    by : (answer : given.Answer) → given_answer x ≡ answer → IsReport (is_available answer) r → Reports r (answered m x)
    by (givens.Reply reply) is fine = subst (λ (k : Report). Reports k (answered m x)) (sym fine) (ap is_available is)
    by (givens.Order done) is fine = subst (λ (k : Report). Reports k (answered m x)) (sym fine) (ap is_available is)
    by givens.Unavailable is (inl same) = subst (λ (k : Report). Reports k (answered m x)) (sym same) is
    by givens.Unavailable is (inr same) = subst (λ (k : Report). Reports k (answered m x)) (sym same) is

shown_reported : (m : Meeting) (asked : ReadingAsked) (end : ReadingEnd) (r : Report) → m.write_failed ≡ false → IsReport (is_reading_available end) r → Reports r (shown m asked end)
shown_reported m asked end r whole told = by (is_reading_available end) refl told
  where
    by : (available : Bool) → is_reading_available end ≡ available → IsReport available r → Reports r (shown m asked end)
    by true is fine = subst (λ (k : Report). Reports k (shown m asked end)) (sym fine) (whole, is)
    by false is (inl same) = subst (λ (k : Report). Reports k (shown m asked end)) (sym same) (whole, is)
    by false is (inr same) = subst (λ (k : Report). Reports k (shown m asked end)) (sym same) (whole, is)

-- and of a line that spells nothing
unspelled_reported : (m : Meeting) (why : LineFault) (r : Report) → m.write_failed ≡ false → IsReport (is_read why) r → Reports r (unspelled m why)
unspelled_reported m why r whole told = by (is_read why) refl told
  where
    by : (read : Bool) → is_read why ≡ read → IsReport read r → Reports r (unspelled m why)
    by true is fine = subst (λ (k : Report). Reports k (unspelled m why)) (sym fine) (whole, is)
    by false is (inl same) = subst (λ (k : Report). Reports k (unspelled m why)) (sym same) (whole, is)
    by false is (inr same) = subst (λ (k : Report). Reports k (unspelled m why)) (sym same) (whole, is)

-- ---- readings before and between events

module _ {S : Type 0} (g : Ghosts S) where
  pub keeps_same : (conn : Held S) → Keeps g conn conn
  keeps_same conn = record { clean = λ clean. clean; stands = λ db late at. at }

  pub keeps_both : (old mid new : Held S) → Keeps g old mid → Keeps g mid new → Keeps g old new
  keeps_both old mid new first next = record { clean = λ clean. first.clean (next.clean clean); stands = λ db late at. next.stands db late (first.stands db late at) }

  pub reads_kept : (old mid new : Held S) (asked : ReadingAsked) (end : ReadingEnd) → HasReadRows g old mid asked end → Keeps g mid new → HasReadRows g old new asked end
  reads_kept old mid new asked end (first, may, says) keeps = (keeps_both old mid new first keeps, may, λ db late at clean. says db late at (keeps.clean clean))

  -- a reading after calls belongs to the last of them, and one before all of them comes first
  calls_kept : (start mid new : Held S) (asked : List event.Event) (answers : List given.Answer) → AreCalls g start mid asked answers → Keeps g mid new → (front : Held S) × Keeps g start front × AreCalls g front new asked answers
  calls_kept start mid new [] [] calls keeps = (new, subst (λ (conn : Held S). Keeps g conn new) calls keeps, refl)
  calls_kept start mid new [] (a ∷ answers) calls keeps = absurd calls
  calls_kept start mid new (e ∷ asked) [] calls keeps = absurd calls
  calls_kept start mid new (e ∷ asked) (a ∷ answers) (next, call, rest) keeps =
      let (front, kept, later) = calls_kept next mid new asked answers rest keeps in
      (start, keeps_same start, (front, call_kept g start next front e a call kept, later))

-- ---- a message

-- a tenant's message
module _ {S : Type 0} (g : Ghosts S) (now clock : Option ℕ) (before after : Ends) (sound : AreUnharmed before) where
  abbrev pub request : Meeting
  request = meeting_of door.Requests clock before after

  pub no_moment : (old : Held S) (counts : Replies) → after ≡ before → served_moment now clock ≡ None → HasMet g old old now counts counts request report.Failed
  no_moment old counts kept none = (failed request, ((ap (λ (e : Ends). e.written) kept, ap (λ (e : Ends). e.write_failed) kept ∙ sound.1, inr (refl, none)), refl), refl, tt, refl, refl)

  module _ (old mid : Held S) (cleans : HasCleanDisk (state g mid) → HasCleanDisk (state g old)) (moment : ℕ) (is : served_moment now clock ≡ Some moment) where
    called : (answer : given.Answer) (takes : TakesMessage g old mid moment before.input answer) → IsCall g old mid (events.Ask moment takes.message) answer
    called answer takes = record { clean = cleans; served = λ db late at clean. ask_served g mid db late moment takes.message answer (takes.held db late at) clean }

    pub request_answered : (new : Held S) (answer : given.Answer) (available : Bool) (r : Report) (first last : Replies) → last ≡ counted_if (status_of answer) first → TakesMessage g old mid moment before.input answer → Appends before.written after.written (written_reply answer) → available ≡ is_available answer
        → after.read_failed ≡ before.read_failed → after.write_failed ≡ before.write_failed → IsReport available r → Keeps g mid new → HasMet g old new now first last request r
    request_answered new answer available r first last counts takes written whether read wrote told keeps =
        let x = Asked moment takes.message answer in
        (answered request x, (((refl, is, takes.asks), written, read ∙ sound.0, wrote ∙ sound.1), (call_kept g old mid new (asked_event x) answer (called answer takes) keeps, tt)), refl, reported request x r (subst (λ a. IsReport a r) whether told), refl, counts)

    pub request_broken : (why : ServeFault) (counts : Replies) → IsServeFault g old mid moment before after why → HasMet g old mid now counts counts request report.Failed
    request_broken serve_fault.Read counts fails = (failed request, ((fails.2, fails.3 ∙ sound.1, inl fails.0), fails.1), refl, tt, refl, refl)
    request_broken (serve_fault.Write sent) counts fails =
        let answer = fails.2.0 in
        let takes = fails.2.1 in
        (cut request (Asked moment takes.message answer), (((refl, is, takes.asks), cut_at sent before.written after.written (written_reply answer) fails.2.3, fails.1 ∙ sound.0, fails.0), (called answer takes, tt)), refl, tt, refl, refl)

-- an operator's order or reading
module _ {S : Type 0} (g : Ghosts S) (now clock : Option ℕ) (before after : Ends) (sound : AreUnharmed before) (first last : Replies) (counts : last ≡ first) where
  abbrev pub order : Meeting
  order = meeting_of door.Orders clock before after

  pub line_answered : (old mid new : Held S) (end : Taken) (r : Report) → HasTaken g old mid before.input end → Appends before.written after.written (taken_text end)
      → after.read_failed ≡ before.read_failed → after.write_failed ≡ before.write_failed → IsReport (is_taken_available end) r → Keeps g mid new → ((why : LineFault) → end ≡ taken.Order (line_end.Unspelled why) → new ≡ mid) → HasMet g old new now first last order r
  line_answered old mid new (taken.Order (line_end.Ended ended)) r takes written read wrote told keeps same =
      let x = Ordered takes.0 ended in
      (answered order x, (((refl, takes.1), written, read ∙ sound.0, wrote ∙ sound.1), (call_kept g old mid new (asked_event x) (order_answer ended) takes.2.call keeps, (mid, takes.2, keeps))), refl, reported order x r told, refl, counts)
  line_answered old mid new (taken.Order (line_end.Unspelled why)) r takes written read wrote told keeps same =
      let whole = wrote ∙ sound.1 in
      (unspelled order why, ((refl, takes.1, subst (λ b. MatchBool b (IsCut before.written after.written (fault_text why)) (Appends before.written after.written (fault_text why))) (sym whole) written, read ∙ sound.0), same why refl ∙ takes.0), refl, unspelled_reported order why r whole told, refl, counts)
  line_answered old mid new (taken.Reading end) r takes written read wrote told keeps same =
      let whole = wrote ∙ sound.1 in
      (shown order takes.0 end, ((refl, takes.1, subst (λ b. MatchBool b (IsCut before.written after.written (reading_text end)) (Appends before.written after.written (reading_text end))) (sym whole) written, read ∙ sound.0), reads_kept g old mid new takes.0 end takes.2 keeps), refl, shown_reported order takes.0 end r whole told, refl, counts)

  pub line_broken : (old new : Held S) (end : Taken) → HasTaken g old new before.input end → IsCut before.written after.written (taken_text end) → after.read_failed ≡ before.read_failed → after.write_failed ≡ true → HasMet g old new now first last order report.Failed
  line_broken old new (taken.Order (line_end.Ended ended)) takes cut_off read broken = (cut order (Ordered takes.0 ended), (((refl, takes.1), cut_off, read ∙ sound.0, broken), (takes.2.call, (new, takes.2, keeps_same g new))), refl, tt, refl, counts)
  line_broken old new (taken.Order (line_end.Unspelled why)) takes cut_off read broken =
      (unspelled order why, ((refl, takes.1, subst (λ b. MatchBool b (IsCut before.written after.written (fault_text why)) (Appends before.written after.written (fault_text why))) (sym broken) cut_off, read ∙ sound.0), takes.0), refl, broken, refl, counts)
  line_broken old new (taken.Reading end) takes cut_off read broken =
      (shown order takes.0 end, ((refl, takes.1, subst (λ b. MatchBool b (IsCut before.written after.written (reading_text end)) (Appends before.written after.written (reading_text end))) (sym broken) cut_off, read ∙ sound.0), takes.2), refl, broken, refl, counts)

  pub line_unread : (old new : Held S) → new ≡ old → after.written ≡ before.written → after.write_failed ≡ before.write_failed → after.read_failed ≡ true → HasMet g old new now first last order report.Failed
  line_unread old new same written wrote broken = (failed order, ((written, wrote ∙ sound.1, inl broken), same), refl, tt, refl, counts)

-- the line of the report is that of the outcome
line_is : (r : Report) (outcome : ConnectionEnd) → Reports r outcome → report_line (door_of outcome) r ≡ line_of outcome
line_is report.Fine (answered m x) is = ap (λ b. cond b [] unavailable_line) (sym is)
line_is report.Fine (cut m x) is = absurd is
line_is report.Fine (shown m asked end) is = ap (λ b. cond b [] unavailable_line) (sym is.1) ∙ ap (λ b. cond b (failure_line m.door) (cond (is_reading_available end) [] unavailable_line)) (sym is.0)
line_is report.Fine (unspelled m why) is = ap (λ b. cond b [] unavailable_line) (sym is.1) ∙ ap (λ b. cond b (failure_line m.door) (cond (is_read why) [] unavailable_line)) (sym is.0)
line_is report.Fine (failed m) is = absurd is
line_is report.Fine (missed at) is = absurd is
line_is report.Unavailable (answered m x) is = ap (λ a. cond (is_available a) [] unavailable_line) (sym is)
line_is report.Unavailable (cut m x) is = absurd is
line_is report.Unavailable (shown m asked end) is = ap (λ b. cond b [] unavailable_line) (sym is.1) ∙ ap (λ b. cond b (failure_line m.door) (cond (is_reading_available end) [] unavailable_line)) (sym is.0)
line_is report.Unavailable (unspelled m why) is = ap (λ b. cond b [] unavailable_line) (sym is.1) ∙ ap (λ b. cond b (failure_line m.door) (cond (is_read why) [] unavailable_line)) (sym is.0)
line_is report.Unavailable (failed m) is = absurd is
line_is report.Unavailable (missed at) is = absurd is
line_is report.Shut (answered m x) is = ap (λ a. cond (is_available a) [] unavailable_line) (sym is)
line_is report.Shut (cut m x) is = absurd is
line_is report.Shut (shown m asked end) is = ap (λ b. cond b [] unavailable_line) (sym is.1) ∙ ap (λ b. cond b (failure_line m.door) (cond (is_reading_available end) [] unavailable_line)) (sym is.0)
line_is report.Shut (unspelled m why) is = ap (λ b. cond b [] unavailable_line) (sym is.1) ∙ ap (λ b. cond b (failure_line m.door) (cond (is_read why) [] unavailable_line)) (sym is.0)
line_is report.Shut (failed m) is = absurd is
line_is report.Shut (missed at) is = absurd is
line_is report.Failed (answered m x) is = absurd is
line_is report.Failed (cut m x) is = refl
line_is report.Failed (shown m asked end) is = ap (λ b. cond b (failure_line m.door) (cond (is_reading_available end) [] unavailable_line)) (sym is)
line_is report.Failed (unspelled m why) is = ap (λ b. cond b (failure_line m.door) (cond (is_read why) [] unavailable_line)) (sym is)
line_is report.Failed (failed m) is = refl
line_is report.Failed (missed at) is = refl

pub report_is : (at : Door) (r : Report) (outcome : ConnectionEnd) → door_of outcome ≡ at → Reports r outcome → report_line at r ≡ line_of outcome
report_is at r outcome door reports = ap (λ d. report_line d r) (sym door) ∙ line_is r outcome reports

-- ---- the replies that are counted

pub counted_more : (outcomes : List ConnectionEnd) (outcome : ConnectionEnd) (first mid last : Replies) → mid ≡ counted_all outcomes first → last ≡ counted_if (status_in outcome) mid
    → last ≡ counted_all (outcomes ++ outcome ∷ []) first
counted_more [] outcome first mid last so_far one = one ∙ ap (counted_if (status_in outcome)) so_far
counted_more (x ∷ outcomes) outcome first mid last so_far one = counted_more outcomes outcome (counted_if (status_in x) first) mid last so_far one

-- ---- all of them

abbrev pub asked : List ConnectionEnd → List event.Event
asked outcomes = map asked_event (exchanges outcomes)

abbrev pub given_to : List ConnectionEnd → List given.Answer
given_to outcomes = map given_answer (exchanges outcomes)

pub moved_more : {S : Type 0} (g : Ghosts S) (old mid new : Held S) (outcomes : List ConnectionEnd) (outcome : ConnectionEnd) → HaveMoved g old mid outcomes → Moves g mid new outcome → HaveMoved g old new (outcomes ++ outcome ∷ [])
moved_more {S} g old mid new [] outcome same moves = (new, subst (λ (conn : Held S). Moves g conn new outcome) same moves, refl)
moved_more g old mid new (first ∷ outcomes) outcome (next, moved, later) moves = (next, moved, moved_more g next mid new outcomes outcome later moves)

-- so many of the connections that were served so far were requests'
pub record AreServedSoFar {S : Type 0} (g : Ghosts S) (old new : Held S) (now : Option ℕ) (count : ℕ) (outcomes : List ConnectionEnd) : Type 0 where
  pub each : requests_in outcomes ≡ count
  pub served : All (IsConnectionServed now) outcomes
  pub moved : HaveMoved g old new outcomes
  pub calls : (start : Held S) × Keeps g old start × AreCalls g start new (asked outcomes) (given_to outcomes)

-- one more
counted : (outcomes : List ConnectionEnd) (outcome : ConnectionEnd) → requests_in (outcomes ++ outcome ∷ []) ≡ requests_in outcomes + weight (door_of outcome)
counted outcomes outcome =
    let is_request : ConnectionEnd → Bool = λ (o : ConnectionEnd). is_request_at (door_of o) in
    ap length (filter-append is_request outcomes (outcome ∷ [])) ∙ length-append (filter is_request outcomes) (filter is_request (outcome ∷ [])) ∙ ap (λ n. requests_in outcomes + n) (by (door_of outcome) refl)
  where
    by : (at : Door) → door_of outcome ≡ at → requests_in (outcome ∷ []) ≡ weight (door_of outcome)
    by door.Requests is = rw is refl
    by door.Orders is = rw is refl

module _ {S : Type 0} (g : Ghosts S) (old : Held S) (now : Option ℕ) where
  pub none_served : AreServedSoFar g old old now 0 []
  none_served = record {
    each = refl;
    served = search rules;
    moved = refl;
    calls = (old, keeps_same g old, refl);
  }

  module _ (mid new : Held S) (count : ℕ) (outcomes : List ConnectionEnd) (so_far : AreServedSoFar g old mid now count outcomes) where
    one_more : (outcome : ConnectionEnd) → requests_in (outcomes ++ outcome ∷ []) ≡ count + weight (door_of outcome)
    one_more outcome = counted outcomes outcome ∙ ap (λ n. n + weight (door_of outcome)) so_far.each

    with_one : (outcome : ConnectionEnd) (x : Exchange) → exchange_of outcome ≡ Some x → IsConnectionServed now outcome → Moves g mid new outcome → IsCall g mid new (asked_event x) (given_answer x) → AreServedSoFar g old new now (count + weight (door_of outcome)) (outcomes ++ outcome ∷ [])
    with_one outcome x is served moves one =
        let xs = exchanges outcomes in
        let start = so_far.calls.0 in
        let more : exchanges (outcomes ++ outcome ∷ []) ≡ xs ++ x ∷ [] = filter_map-append exchange_of outcomes (outcome ∷ []) ∙ ap (λ o. xs ++ cons_option o []) is in
        record {
          each = one_more outcome;
          served = All-append (IsConnectionServed now) outcomes (outcome ∷ []) so_far.served (search rules);
          moved = moved_more g old mid new outcomes outcome so_far.moved moves;
          calls = (
            start,
            so_far.calls.1,
            subst (λ ys. AreCalls g start new (map asked_event ys) (map given_answer ys)) (sym more)
                (subst (λ es. AreCalls g start new es (map given_answer (xs ++ x ∷ []))) (sym (map-append asked_event xs (x ∷ [])))
                (subst (AreCalls g start new (asked outcomes ++ asked_event x ∷ [])) (sym (map-append given_answer xs (x ∷ [])))
                (calls_more g start mid new (asked outcomes) (given_to outcomes) (asked_event x) (given_answer x) so_far.calls.2 one))),
          );
        }

    with_none : (outcome : ConnectionEnd) → exchange_of outcome ≡ None → IsConnectionServed now outcome → Moves g mid new outcome → Keeps g mid new → AreServedSoFar g old new now (count + weight (door_of outcome)) (outcomes ++ outcome ∷ [])
    with_none outcome is served moves keeps =
        let (start, kept, calls) = so_far.calls in
        let (front, more_kept, later) = calls_kept g start mid new (asked outcomes) (given_to outcomes) calls keeps in
        let more : exchanges (outcomes ++ outcome ∷ []) ≡ exchanges outcomes = filter_map-append exchange_of outcomes (outcome ∷ []) ∙ ap (λ o. exchanges outcomes ++ cons_option o []) is ∙ append-nil (exchanges outcomes) in
        record {
          each = one_more outcome;
          served = All-append (IsConnectionServed now) outcomes (outcome ∷ []) so_far.served (search rules);
          moved = moved_more g old mid new outcomes outcome so_far.moved moves;
          calls = (front, keeps_both g old start front kept more_kept, subst (λ ys. AreCalls g front new (map asked_event ys) (map given_answer ys)) (sym more) later);
        }

    -- nothing was done
    same_kept : new ≡ mid → Keeps g mid new
    same_kept same = subst (λ conn. Keeps g mid conn) (sym same) (keeps_same g mid)

    pub served_more : (outcome : ConnectionEnd) → HasOutcome g mid new now outcome → AreServedSoFar g old new now (count + weight (door_of outcome)) (outcomes ++ outcome ∷ [])
    served_more (answered m x) one = with_one (answered m x) x refl one.0 one.1 one.1.0
    served_more (cut m x) one = with_one (cut m x) x refl one.0 one.1 one.1.0
    served_more (shown m asked end) one = with_none (shown m asked end) refl one.0 one.1 one.1.0
    served_more (unspelled m why) one = with_none (unspelled m why) refl one.0 one.1 (same_kept one.1)
    served_more (failed m) one = with_none (failed m) refl one.0 one.1 (same_kept one.1)
    served_more (missed at) one = with_none (missed at) refl one.0 one.1 (same_kept one.1)

  pub all_served : (new : Held S) (asked_for count : ℕ) (ended : Ending) (outcomes : List ConnectionEnd) → RowsAreIsolated → AreServedSoFar g old new now count outcomes → HasCounted ended asked_for outcomes → AreConnectionsServed g old new now asked_for ended outcomes
  all_served new asked_for count ended outcomes law so_far counted =
      let (start, kept, calls) = so_far.calls in
      record {
        each = counted;
        served = so_far.served;
        moved = so_far.moved;
        run = λ db late at clean. (passed g start new db late (asked outcomes) (given_to outcomes) law calls (kept.stands db late at) clean).run;
        start = start;
        kept = kept;
        between = λ db late at clean. passed g start new db late (asked outcomes) (given_to outcomes) law calls at clean;
      }
