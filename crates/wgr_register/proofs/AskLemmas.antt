-- What an ask comes to, on the rows.
use Rattle.std.proofs.Common.{◌≡◌, ℕ, Bool, true, false, ◌&&◌, List, [], ◌∷◌, Option, Some, None, Result, Ok, Err, is_some, map, nat_eq, not, refl, sym, ap, subst, ◌∙◌, true≢false, option_map, inl, inr}
use Rattle.std.specs.Prelude.{if◌then◌else◌}
use Rattle.wgr_core.specs.Change.{Meets, applied, applied_if}
use Rattle.wgr_core.specs.declared.change.Change.{Change}
use Rattle.wgr_core.specs.declared.command.Command.{Command}
use Rattle.wgr_core.specs.declared.fault.ActFault.{ActFault}
use Rattle.wgr_core.specs.declared.fault.ActFault.TheVariants as act_fault
use Rattle.wgr_core.specs.declared.refusal.CommandRefusal.{CommandRefusal}
use Rattle.wgr_core.specs.declared.reply.Reply.{Reply}
use Rattle.wgr_core.specs.Network.{NetworkValue}
use Rattle.wgr_core.specs.Outcome.{Outcome, is_reading, outcome_of}
use Rattle.std.specs.List.{AllByRecursion, IsDistinct}
use Rattle.sqlite.specs.Effect.{Database}
use Rattle.sqlite.specs.Store.{Ghosts}
use Rattle.sqlite.specs.Held.{Held}
use Rattle.wgr_peers.specs.Name.{is_name}
use Rattle.wgr_model.specs.Consistent.{IsNetworkEntry, IsName, same_slot}
use Rattle.wgr_model.specs.Laws.{Has}
use Rattle.wgr_model.specs.Register.{Bytes, NetworkEntry, is_same, right_of}
use Rattle.wgr_model.specs.RowLaws.{AreConsistent, IsRowStep}
use Rattle.wgr_model.specs.Rows.{NetworkRow, Replaces, Tables, network_entry_of, register_of}
use Rattle.wgr_model.specs.Steps.{Answer, Ask, Declined, Event, IsStep, NoSuchNetwork, ReadOnly, Replied, UnknownToken, IsProperCommand, act, allows, network_at, tenant_of_token}
use Rattle.wgr_model.proofs.AskRowLemmas.{changes_replace_rows, networks_are_found, readers_leave_rows, readings_leave_rows}
use Rattle.wgr_model.proofs.CallLemmas.{declined, nothing_asked, stranger_asks}
use Rattle.wgr_model.proofs.CollectLemmas.{has_map}
use Rattle.wgr_model.proofs.GatherLemmas.{eqb_self, map_map}
use Rattle.wgr_model.proofs.HolderLemmas.{one_or_apart}
use Rattle.wgr_model.proofs.RowRunLemmas.{row_step}
use Rattle.wgr_model.proofs.SameLemmas.{at_has, eqb_sym}
use Rattle.wgr_tables.proofs.SameBytes.{same_is}
use Rattle.wgr_columns.specs.Decode.{tables_of}
use Rattle.wgr_tables.specs.Writes.{Replaced, Written}
use Rattle.wgr_register.specs.Ends.{CommitsIf, EndsWith, FailsIf, IsFound}
use Rattle.wgr_register.specs.Given.{GivenValue, ShowsAnswer, reply_given}
use Rattle.wgr_register.specs.Standing.{AreSteps, StandsAt}
use Rattle.wgr_register.proofs.GivenLemmas.{reply_gives}
use Rattle.wgr_register.proofs.StandLemmas.{changed_at, ends_still, steps_late}

-- a step that leaves the register leaves its rows
pub still : (t : Tables) (event : Event) (answer : Answer) → AreConsistent t → IsStep (register_of t) event answer (register_of t) → IsRowStep t event answer t
still t event answer is step = record { after = register_of t; step = step; rows = is.rows }

refused_as : (n : NetworkValue) (why : CommandRefusal) (o : Outcome) → Meets n (Err (act_fault.Refused why)) o → o ≡ Err why
refused_as n why (Err is) e = ap Err (sym e)
refused_as n why (Ok done) e = absurd e

done_as : (n : NetworkValue) (reply : Reply) (change : Option Change) (o : Outcome) → Meets n (Ok (reply, change)) o → o ≡ Ok (reply, applied_if change n)
done_as n reply change (Err is) e = absurd e
done_as n reply change (Ok done) e = λ k. Ok (sym e.0 k, sym e.1 k)

act_refused : (n : NetworkValue) (now : ℕ) (command : Command) (why : CommandRefusal) → Meets n (Err (act_fault.Refused why)) (outcome_of n now command) → act n now command ≡ Err why
unfolding act
act_refused n now command why e = refused_as n why (outcome_of n now command) e

pub act_done : (n : NetworkValue) (now : ℕ) (command : Command) (reply : Reply) (change : Option Change) → Meets n (Ok (reply, change)) (outcome_of n now command) → act n now command ≡ Ok (reply, applied_if change n)
unfolding act
act_done n now command reply change e = done_as n reply change (outcome_of n now command) e

module _ (t : Tables) (is : AreConsistent t) (digest name : Bytes) (now : ℕ) (command : Command) where
  pub stranger : tenant_of_token t.tokens digest ≡ None → IsRowStep t (Ask digest name now command) UnknownToken t
  stranger none = still t (Ask digest name now command) UnknownToken is (stranger_asks (register_of t) digest name now command none)

  pub refused_to_readers : (tenant : ℕ) → tenant_of_token t.tokens digest ≡ Some tenant → allows (right_of t.readers digest) command ≡ false → IsRowStep t (Ask digest name now command) ReadOnly t
  refused_to_readers tenant known may_not = readers_leave_rows t tenant digest name now command is known may_not

  pub nowhere : (tenant : ℕ) → tenant_of_token t.tokens digest ≡ Some tenant → allows (right_of t.readers digest) command ≡ true → network_at (register_of t).networks tenant name ≡ None → IsRowStep t (Ask digest name now command) NoSuchNetwork t
  nowhere tenant known may none = still t (Ask digest name now command) NoSuchNetwork is (nothing_asked (register_of t) digest name now command tenant known may none)

  module _ (id : ℕ) (n : NetworkValue) (found : IsFound t digest name command id n) where
    -- with the row's own name and network
    abbrev w : NetworkRow
    w = found.row

    at_name : (answer : Answer) (u : Tables) → IsRowStep t (Ask digest w.name now command) answer u → IsRowStep t (Ask digest name now command) answer u
    at_name answer u step = subst (λ x. IsRowStep t (Ask digest x now command) answer u) found.named step

    pub refused_rows : (why : CommandRefusal) → Meets n (Err (act_fault.Refused why)) (outcome_of n now command) → IsRowStep t (Ask digest name now command) (Declined why) t
    refused_rows why e =
        at_name (Declined why) t (still t (Ask digest w.name now command) (Declined why) is
        (declined (register_of t) digest w.name now command w.tenant found.tenant n why found.allowed (networks_are_found t w is found.there ∙ ap Some (sym found.value)) (act_refused n now command why e)))

    pub read_rows : (reply : Reply) → Meets n (Ok (reply, None)) (outcome_of n now command) → IsRowStep t (Ask digest name now command) (Replied reply n) t
    read_rows reply e =
        let held = (network_entry_of t w).network in
        let step = readings_leave_rows t w digest now command reply is found.there found.tenant found.allowed (subst (λ m. act m now command ≡ Ok (reply, m)) found.value (act_done n now command reply None e)) in
        at_name (Replied reply n) t (subst (λ m. IsRowStep t (Ask digest w.name now command) (Replied reply m) t) (sym found.value) step)

    pub changed_rows : (u : Tables) (reply : Reply) (change : Change) → Meets n (Ok (reply, Some change)) (outcome_of n now command) → Replaces id (applied change (network_entry_of t w).network) t u
        → IsRowStep t (Ask digest name now command) (Replied reply (applied change n)) u
    changed_rows u reply change e replaces =
        let held = (network_entry_of t w).network in
        let after = applied change held in
        let acts : act held now command ≡ Ok (reply, after) = subst (λ m. act m now command ≡ Ok (reply, applied change m)) found.value (act_done n now command reply (Some change) e) in
        let at_id = subst (λ i. Replaces i after t u) (sym found.at) replaces in
        let step = changes_replace_rows t u w digest now command (reply, after) is found.there found.tenant found.allowed acts at_id in
        at_name (Replied reply (applied change n)) u (subst (λ m. IsRowStep t (Ask digest w.name now command) (Replied reply (applied change m)) u) (sym found.value) step)

-- an outcome on the network that a row forms is one on the network that is found
pub at_found : (t : Tables) (digest name : Bytes) (id : ℕ) (n : NetworkValue) {command : Command} (found : IsFound t digest name command id n) (now : ℕ) (r : Result (Reply × Option Change) ActFault)
    → Meets (network_entry_of t found.row).network r (outcome_of (network_entry_of t found.row).network now command) → Meets n r (outcome_of n now command)
at_found t digest name id n {command = command} found now r met = subst (λ m. Meets m r (outcome_of m now command)) (sym found.value) met

-- ---- what the right decides

pub may_told : (may allowed : Bool) → may ≡ allowed → not may ≡ false → allowed ≡ true
may_told true allowed told is = sym told
may_told false allowed told is = absurd (true≢false is)

pub may_not_told : (may allowed : Bool) → may ≡ allowed → not may ≡ true → allowed ≡ false
may_not_told true allowed told is = absurd (true≢false (sym is))
may_not_told false allowed told is = sym told

-- ---- no network of the name

is_named : (hs : List NetworkEntry) → AllByRecursion IsNetworkEntry hs → (h : NetworkEntry) → Has hs h → IsName h.name
is_named hs all h here = (at_has IsNetworkEntry hs h all here).name

absent : (t : Tables) (ws : List NetworkRow) (tenant : ℕ) (name : Bytes) → ((w : NetworkRow) → Has ws w → same_slot (tenant, name) (w.tenant, w.name) ≡ false) → network_at (map (network_entry_of t) ws) tenant name ≡ None
absent t [] tenant name none = refl
absent t (w ∷ ws) tenant name none =
    by_test (nat_eq w.tenant tenant && is_same name w.name) (ap (λ b. b && is_same name w.name) (eqb_sym w.tenant tenant) ∙ none w (inl refl)) (absent t ws tenant name (λ x here. none x (inr here))) where
      by_test : (b : Bool) → b ≡ false → network_at (map (network_entry_of t) ws) tenant name ≡ None → (if b then Some (network_entry_of t w).network else network_at (map (network_entry_of t) ws) tenant name) ≡ None
      by_test true bad rest = let wrong : true ≡ false = bad in cc
      by_test false is rest = rest

pub no_network : (t : Tables) (tenant : ℕ) (name : Bytes) → ((w : NetworkRow) → Has t.networks w → same_slot (tenant, name) (w.tenant, w.name) ≡ false) → network_at (register_of t).networks tenant name ≡ None
no_network t tenant name none = absent t t.networks tenant name none

-- a text that is no name is none of theirs
pub no_name : (t : Tables) (tenant : ℕ) (name : Bytes) → AreConsistent t → is_name name ≡ false → network_at (register_of t).networks tenant name ≡ None
no_name t tenant name is none = no_network t tenant name (λ w here. by_test w here (nat_eq tenant w.tenant) (is_same name w.name) refl) where
  by_test : (w : NetworkRow) → Has t.networks w → (a b : Bool) → is_same name w.name ≡ b → (a && b) ≡ false
  by_test w here false b e = refl
  by_test w here true false e = refl
  by_test w here true true e =
      let named : is_name name ≡ true = subst (λ x. is_name x ≡ true) (sym (same_is name w.name e)) (is_named (register_of t).networks is.consistent.networks (network_entry_of t w) (has_map (network_entry_of t) t.networks w here)) in
      absurd (true≢false (sym named ∙ none))

-- ---- one row for an id

pub one_row : (t : Tables) → AreConsistent t → (v w : NetworkRow) → Has t.networks v → Has t.networks w → v.id ≡ w.id → v ≡ w
one_row t is v w a b same =
    let ids : IsDistinct nat_eq (map (λ (x : NetworkRow). x.id) t.networks) = subst (IsDistinct nat_eq) (map_map (network_entry_of t) (λ h. h.id) t.networks) is.consistent.network_ids in
    elim (one_or_apart (λ (x : NetworkRow). x.id) nat_eq eqb_sym t.networks v w ids a b) [ inl e ↦ e | inr apart ↦ absurd (true≢false (sym (ap (nat_eq v.id) (sym same) ∙ eqb_self v.id) ∙ apart)) ]

-- ---- a command that is done

pub changing : (b : Bool) → not b ≡ true → b ≡ false
changing true is = absurd (true≢false (sym is))
changing false is = refl

module _ {S : Type 0} (g : Ghosts S) (shown : GivenValue → Bytes) (conn : Held S) (db : Database) (pending : List Written) (late : List Event) (consistent : AreConsistent (tables_of db)) (steps : AreSteps (tables_of db) pending late)
    (digest name : Bytes) (now : ℕ) (command : Command) (proper : IsProperCommand command) (id : ℕ) (n : NetworkValue) (found : IsFound (tables_of db) digest name command id n) (reply : Reply) where
  abbrev event : Event
  event = Ask digest name now command

  pub acts_done : (change : Option Change) (text : Bytes) → is_some change ≡ not (is_reading command) → Meets n (Ok (reply, change)) (outcome_of n now command) → option_map shown (reply_given now n reply) ≡ Some text
      → CommitsIf g conn db pending id (network_entry_of (tables_of db) found.row).network change → EndsWith g conn db late event (ShowsAnswer shown now text)
  acts_done None text reads meets told stands clean =
      ends_still g conn db late event (ShowsAnswer shown now text) (Replied reply n) (sym reads) (record { pending = pending; stands = stands; consistent = consistent; steps = steps }) told (read_rows (tables_of db) consistent digest name now command id n found reply meets) clean
  acts_done (Some change) text reads meets told done clean =
      let next = done.0 in
      let step = changed_rows (tables_of db) consistent digest name now command id n found (tables_of next) reply change meets done.1.made in (
        Replied reply (applied change n),
        ap (option_map shown) (reply_gives n now command reply (Some change) meets).1 ∙ told,
        next,
        step,
        changed_at g conn db next late (not (is_reading command)) (sym reads) (record { pending = []; stands = done.2; consistent = (row_step (tables_of db) (tables_of next) event (Replied reply (applied change n)) consistent proper step).0; steps = λ one here. absurd here }),
      )

  pub acts_late : (change : Option Change) → Meets n (Ok (reply, change)) (outcome_of n now command) → FailsIf g conn db pending id (network_entry_of (tables_of db) found.row).network change → StandsAt g conn db (event ∷ late)
  acts_late None meets fails = absurd fails
  acts_late (Some change) meets stands = record {
    pending = Replaced id (applied change (network_entry_of (tables_of db) found.row).network) ∷ pending;
    stands = stands;
    consistent = consistent;
    steps = steps_late (tables_of db) pending late event (Replaced id (applied change (network_entry_of (tables_of db) found.row).network)) proper
        (λ u made. (Replied reply (applied change n), changed_rows (tables_of db) consistent digest name now command id n found u reply change meets made)) steps;
  }
