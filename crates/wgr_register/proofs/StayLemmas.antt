-- Networks that stay in memory across an order.
use Rattle.std.proofs.Common.{◌≡◌, ℕ, Bool, false, not, List, [], ◌∷◌, Option, Some, None, Result, Ok, Err, IsTrue, IsErrAnd, map, nat_eq, sym, ap, subst, ◌∙◌, inl, inr, true≢false}
use Rattle.sqlite.specs.Effect.{Database}
use Rattle.sqlite.specs.Held.{Held, state}
use Rattle.sqlite.specs.State.{HasCleanDisk}
use Rattle.sqlite.specs.Store.{Ghosts}
use Rattle.wgr_core.specs.Network.{NetworkValue}
use Rattle.wgr_model.specs.Consistent.{has_digest, same_slot, slot}
use Rattle.wgr_model.specs.Laws.{Has}
use Rattle.wgr_model.specs.Register.{Bytes, NetworkEntry, Register, id_of}
use Rattle.wgr_model.specs.RowLaws.{AreConsistent, IsRowStep}
use Rattle.wgr_model.specs.Rows.{IsFormed, NetworkRow, Tables, network_entry_of, register_of}
use Rattle.wgr_model.specs.Steps.{AddNetwork, AddTenant, Answer, EndNetwork, EndToken, Event, Grant, IsProper, NoNetwork, NoSuchToken, OrderRefusal}
use Rattle.wgr_model.specs.Steps.{first_refusal, given, grant_checks, granted, has_slot, network_added, network_checks, network_ended, new_network, outcome, refuse, tenant_checks, with_new_network, with_tenant, with_token, without_network, without_token}
use Rattle.wgr_model.proofs.CollectLemmas.{has_map}
use Rattle.wgr_model.proofs.GatherLemmas.{eqb_self, in_filter}
use Rattle.wgr_model.proofs.HolderLemmas.{one_or_apart}
use Rattle.wgr_model.proofs.RowRunLemmas.{row_step}
use Rattle.wgr_model.proofs.SameLemmas.{slot_sym}
use Rattle.wgr_columns.specs.Decode.{tables_of}
use Rattle.wgr_entries.specs.Lookups.{IsSlotOf}
use Rattle.wgr_register.specs.Ends.{StandsAfter, OrderEnds, is_change}
use Rattle.wgr_register.specs.Loaded.{Shows, UnlessUndone}
use Rattle.wgr_register.specs.declared.fault.Done.{Done}
use Rattle.wgr_register.specs.declared.fault.OrderFault.{OrderFault}
use Rattle.wgr_register.specs.declared.fault.OrderFault.TheVariants as order_fault
use Rattle.wgr_sql.specs.declared.fault.Fault.{Fault}
use Rattle.wgr_register.specs.Memory.{EndsNone, IsMemoryOf}
use Rattle.wgr_register.specs.declared.memory.Memory.{Memory}
use Rattle.wgr_register.proofs.MemoryLemmas.{memory_after}
use Rattle.wgr_register.proofs.LoadedLemmas.{formed_in, known_so, shown_so}
use Rattle.wgr_tables.specs.Standing.{Stands}
use Rattle.wgr_tables.specs.Writes.{Written}
use Rattle.wgr_register.proofs.StandLemmas.{either_way}

-- ---- an order that isn't done, or is

pub unless_undone : (r : Result Done OrderFault) (P : Type 0) → P → UnlessUndone r P
unless_undone (Ok done) P holds = holds
unless_undone (Err (order_fault.Refused why)) P holds = holds
unless_undone (Err (order_fault.Fault why)) P holds = tt

pub undone : (r : Result Done OrderFault) (why : Fault) (P : Type 0) → IsErrAnd r (λ e. e ≡ order_fault.Fault why) → UnlessUndone r P
undone (Ok done) why P is = absurd is
undone (Err (order_fault.Refused other)) why P is = cc
undone (Err (order_fault.Fault other)) why P is = tt

pub undone_then : (r : Result Done OrderFault) (P Q : Type 0) → (P → UnlessUndone r Q) → UnlessUndone r P → UnlessUndone r Q
undone_then (Ok done) P Q next holds = next holds
undone_then (Err (order_fault.Refused why)) P Q next holds = next holds
undone_then (Err (order_fault.Fault why)) P Q next holds = tt

-- ---- which networks an order leaves

either : (o : Option OrderRefusal) (r s : Register) (h : NetworkEntry) → Has r.networks h → Has s.networks h → Has (given o r s).1.networks h
either (Some why) r s h before after = before
either None r s h before after = after

left_by : (r : Register) (event : Event) (new : ℕ) → EndsNone event → (h : NetworkEntry) → Has r.networks h → Has (outcome r event new).1.networks h
left_by r (AddTenant name) new none h there = either (first_refusal (tenant_checks r name)) r (with_tenant r name new) h there there
left_by r (Grant tenant digest right) new none h there = on (id_of r.tenants tenant) where
  on : (o : Option ℕ) → Has (granted r digest right o).1.networks h
  on None = there
  on (Some id) = either (first_refusal (grant_checks r digest)) r (with_token r digest id right) h there there
left_by r (EndToken digest) new none h there = either (first_refusal (refuse (not (has_digest r.tokens digest)) NoSuchToken ∷ [])) r (without_token r digest) h there there
left_by r (AddNetwork tenant name s) new none h there = on (id_of r.tenants tenant) where
  on : (o : Option ℕ) → Has (network_added r name s new o).1.networks h
  on None = there
  on (Some id) = either (first_refusal (network_checks r id name s)) r (with_new_network r new id name (new_network s)) h there (inr there)
left_by r event new none h there = absurd none

others_left_by : (r : Register) (tenant name : Bytes) (new id : ℕ) → id_of r.tenants tenant ≡ Some id → (h : NetworkEntry) → Has r.networks h → same_slot (id, name) (slot h) ≡ false → Has (outcome r (EndNetwork tenant name) new).1.networks h
others_left_by r tenant name new id known h there apart =
    subst (λ o. Has (network_ended r name o).1.networks h) (sym known)
    (either (first_refusal (refuse (not (has_slot r.networks id name)) NoNetwork ∷ [])) r (without_network r id name) h there (in_filter (λ k. not (same_slot (id, name) (slot k))) r.networks h there (ap not apart)))

-- ---- they are formed by the rows after it

module _ (t u : Tables) (is : AreConsistent t) (event : Event) (proper : IsProper event) (answer : Answer) (step : IsRowStep t event answer u) where
  -- a network that the order leaves
  formed_still : (v : NetworkRow) → ((new : ℕ) → Has (outcome (register_of t) event new).1.networks (network_entry_of t v)) → (n : NetworkValue) → n ≡ (network_entry_of t v).network → IsFormed u v.id n
  formed_still v left n value =
      let after = (row_step t u event answer is proper step).1 in
      subst (IsFormed u v.id) (sym value) (formed_in u (outcome (register_of t) event after.new).1.networks after.rows.networks (network_entry_of t v) (left after.new))

  pub one_stays : EndsNone event → (other : ℕ) (n : NetworkValue) → IsFormed t other n → IsFormed u other n
  one_stays none other n it = subst (λ i. IsFormed u i n) it.2 (formed_still it.0 (λ new. left_by (register_of t) event new none (network_entry_of t it.0) (has_map (network_entry_of t) t.networks it.0 it.1)) n it.3)

module _ (t u : Tables) (is : AreConsistent t) (tenant name : Bytes) (answer : Answer) (step : IsRowStep t (EndNetwork tenant name) answer u) (id : ℕ) (known : id_of t.tenants tenant ≡ Some id)
    (w : NetworkRow) (there : Has t.networks w) (its : IsSlotOf w id name) where
  -- and each but the one that ends
  pub other_stays : (other : ℕ) (n : NetworkValue) → nat_eq w.id other ≡ false → IsFormed t other n → IsFormed u other n
  other_stays other n off it =
      let held : List NetworkEntry = map (network_entry_of t) t.networks in
      let apart : same_slot (slot (network_entry_of t w)) (slot (network_entry_of t it.0)) ≡ false = elim (one_or_apart slot same_slot slot_sym held (network_entry_of t w) (network_entry_of t it.0) is.consistent.slots (has_map (network_entry_of t) t.networks w there) (has_map (network_entry_of t) t.networks it.0 it.1)) [
        | inl same ↦ let ids : w.id ≡ other = ap (λ h. h.id) same ∙ it.2 in absurd (true≢false (sym (eqb_self w.id) ∙ ap (nat_eq w.id) ids ∙ off))
        | inr is_apart ↦ is_apart
      ] in
      let named : same_slot (id, name) (slot (network_entry_of t it.0)) ≡ false = subst (λ s. same_slot s (slot (network_entry_of t it.0)) ≡ false) (its_slot) apart in
      subst (λ i. IsFormed u i n) it.2 (formed_still t u is (EndNetwork tenant name) tt answer step it.0 (λ new. others_left_by (register_of t) tenant name new id known (network_entry_of t it.0) (has_map (network_entry_of t) t.networks it.0 it.1) named) n it.3)
    where
      its_slot : slot (network_entry_of t w) ≡ (id, name)
      its_slot = λ k. (its.0 k, its.1 k)

-- ---- what the connection shows

module _ {S : Type 0} (g : Ghosts S) where
  -- what is shown after an order, if the store was open before it
  pub shown_then : (old new : Held S) (r : Result Done OrderFault) (db : Database) (pending : List Written) (P Q : Tables → Type 0) → Stands g old db pending → Shows g old P → HasCleanDisk (state g old)
      → UnlessUndone r (IsTrue (state g old).is_open) → (P (tables_of db) → UnlessUndone r (Shows g new Q)) → HasCleanDisk (state g new) → IsTrue (state g new).is_open → UnlessUndone r (Q (tables_of (state g new).now))
  shown_then old new r db pending P Q stands shows before open_ next clean live =
      let now = Q (tables_of (state g new).now) in
      undone_then r (Shows g new Q) now (λ shown. unless_undone r now (shown clean live))
      (undone_then r (IsTrue (state g old).is_open) (Shows g new Q) (λ was_live. next (known_so g old db pending P stands shows before was_live)) open_)

module _ {S : Type 0} (g : Ghosts S) (conn : Held S) (db : Database) (late : List Event) where
  pub at_next : (next : Database) (b : Bool) → StandsAfter g conn b db late next → HasCleanDisk (state g conn) → IsTrue (state g conn).is_open → (state g conn).now ≡ next
  at_next next b at clean live = elim (either_way g conn db next late b at) [
    | inl there ↦ there.stands.shows clean live
    | inr same ↦ same.1.stands.shows clean live ∙ sym same.0
  ]

  module _ (P : Tables → Type 0) where
    -- what holds of the rows after the order, and of those before it
    pub shown_after : (event : Event) (r : Result Done OrderFault) → OrderEnds g conn db late event r → ((answer : Answer) (u : Tables) → IsRowStep (tables_of db) event answer u → P u) → P (tables_of db) → UnlessUndone r (Shows g conn P)
    shown_after event (Ok done) ends after before = λ clean live.
        let end = ends clean in
        subst (λ d. P (tables_of d)) (sym (at_next end.2 (is_change end.0 event) end.4 clean live)) (after end.0 (tables_of end.2) end.3)
    shown_after event (Err (order_fault.Refused why)) ends after before = shown_so g conn db ends.0.pending P ends.0.stands before
    shown_after event (Err (order_fault.Fault why)) ends after before = tt

  module _ (consistent : AreConsistent (tables_of db)) (event : Event) (proper : IsProper event) (none : EndsNone event) (r : Result Done OrderFault) (ends : OrderEnds g conn db late event r) where
    pub memory_shown : (m : Memory) → IsMemoryOf m (tables_of db) → UnlessUndone r (Shows g conn (IsMemoryOf m))
    memory_shown m is = shown_after (IsMemoryOf m) event r ends (λ answer u step. memory_after m (tables_of db) u (one_stays (tables_of db) u consistent event proper answer step none) is) is
