-- The networks that a register keeps in memory, after what a call does to them and to the rows.
use Rattle.std.proofs.Common.{◌≡◌, ℕ, true, false, List, [], Some, Result, Ok, Err, IsErrAnd, IsTrue, IsPermutation, map, nat_eq, sym, ap, subst, ◌∙◌, true≢false, inl, inr}
use Rattle.std.specs.List.{IsDistinct}
use Rattle.std.specs.Map.{keys_of, remove_entry}
use Rattle.std.specs.declared.vec.Vec.{Vec}
use Rattle.std.specs.declared.alloc.Global.{Global}
use Rattle.lru.specs.LruCache.{LruCache, put_entries}
use Rattle.sqlite.specs.Effect.{Database}
use Rattle.sqlite.specs.State.{HasCleanDisk}
use Rattle.sqlite.specs.Store.{Ghosts}
use Rattle.sqlite.specs.Held.{Held, state}
use Rattle.wgr_core.specs.Network.{NetworkValue}
use Rattle.wgr_core.specs.Change.{Meets, applied}
use Rattle.wgr_core.specs.Outcome.{outcome_of}
use Rattle.wgr_core.specs.declared.change.Change.{Change}
use Rattle.wgr_core.specs.declared.command.Command.{Command}
use Rattle.wgr_core.specs.declared.reply.Reply.{Reply}
use Rattle.wgr_model.specs.Consistent.{same_slot, slot}
use Rattle.wgr_model.specs.Laws.{Has}
use Rattle.wgr_model.specs.Register.{Bytes, NetworkEntry, right_of}
use Rattle.wgr_model.specs.RowLaws.{AreConsistent}
use Rattle.wgr_model.specs.Rows.{IsFormed, NetworkRow, Replaces, Tables, network_entry_of, register_of}
use Rattle.wgr_model.specs.Steps.{Ask, IsProperCommand, EventOutcome, Replied, act, allows, outcome, put_network, tenant_of_token, with_network}
use Rattle.wgr_model.proofs.AskRowLemmas.{asked_at}
use Rattle.wgr_model.proofs.CollectLemmas.{from_map, has_map}
use Rattle.wgr_model.proofs.CommitLemmas.{put_has, put_other}
use Rattle.wgr_model.proofs.GatherLemmas.{eqb_self}
use Rattle.wgr_model.proofs.HolderLemmas.{one_or_apart}
use Rattle.wgr_model.proofs.RowRunLemmas.{row_step}
use Rattle.wgr_model.proofs.SameLemmas.{has_permutation, slot_sym}
use Rattle.wgr_sql.specs.declared.fault.Fault.{Fault}
use Rattle.wgr_columns.specs.Decode.{tables_of}
use Rattle.wgr_entries.specs.Lookups.{IsSlotOf}
use Rattle.wgr_tables.specs.Standing.{Stands}
use Rattle.wgr_tables.specs.Writes.{Written}
use Rattle.wgr_register.specs.Ends.{IsFound}
use Rattle.wgr_register.specs.Loaded.{AreFormed, AreOthersFormed, Loaded, Shows, UnlessFault}
use Rattle.wgr_register.specs.declared.fault.AskFault.{AskFault}
use Rattle.wgr_register.specs.declared.fault.AskFault.TheVariants as fault
use Rattle.wgr_register.proofs.CacheLemmas.{found_put, found_rest}
use Rattle.wgr_register.proofs.AskLemmas.{act_done, changed_rows, one_row}

-- ---- one is taken, and one is kept

pub formed_others : (id : ℕ) (loaded : Loaded) (t : Tables) → AreFormed loaded t → AreOthersFormed id loaded t
formed_others id loaded t formed other n off found = formed other n found

pub put_formed : (c : LruCache ℕ NetworkValue) (id : ℕ) (n : NetworkValue) (t : Tables) → AreOthersFormed id c.entries t → IsFormed t id n → AreFormed (put_entries nat_eq c id n) t
put_formed c id n t others own other m found = elim (found_put c id n other m found) [
  | inl same ↦ subst (λ i. IsFormed t i m) same.0 (subst (IsFormed t id) same.1 own)
  | inr was ↦ others other m was.0 was.1
]

pub rest_formed : (id : ℕ) (loaded : Loaded) (t : Tables) → IsDistinct nat_eq (keys_of loaded) → AreOthersFormed id loaded t → AreFormed (remove_entry (nat_eq id) loaded) t
rest_formed id loaded t distinct others other n found = let was = found_rest id other loaded distinct n found in others other n was.0 was.1

pub none_formed : (t : Tables) → AreFormed [] t
none_formed t id n found = cc

-- ---- the rows change

-- a network among those of a register that rows are of is formed by them
pub formed_in : (u : Tables) (hs : List NetworkEntry) → IsPermutation hs (register_of u).networks → (h : NetworkEntry) → Has hs h → IsFormed u h.id h.network
formed_in u hs same h there =
    let row = from_map (network_entry_of u) u.networks h (has_permutation hs (map (network_entry_of u) u.networks) h same there) in
    (row.0, row.1, ap (λ k. k.id) row.2, sym (ap (λ k. k.network) row.2))

module _ (t u : Tables) (is : AreConsistent t) (digest name : Bytes) (now : ℕ) (command : Command) (proper : IsProperCommand command) (id : ℕ) (n : NetworkValue) (found : IsFound t digest name command id n)
    (reply : Reply) (change : Change) (meets : Meets n (Ok (reply, Some change)) (outcome_of n now command)) (replaces : Replaces id (applied change (network_entry_of t found.row).network) t u) where
  abbrev w : NetworkRow
  w = found.row

  abbrev held : List NetworkEntry
  held = map (network_entry_of t) t.networks

  abbrev after : NetworkValue
  after = applied change (network_entry_of t w).network

  is_held : (v : NetworkRow) → Has t.networks v → Has held (network_entry_of t v)
  is_held v there = has_map (network_entry_of t) t.networks v there

  acts : act (network_entry_of t w).network now command ≡ Ok (reply, after)
  acts = subst (λ m. act m now command ≡ Ok (reply, applied change m)) found.value (act_done n now command reply (Some change) meets)

  same_networks : IsPermutation (with_network held w.tenant w.name after) (map (network_entry_of u) u.networks)
  same_networks =
      let step = changed_rows t is digest name now command id n found u reply change meets replaces in
      let law = row_step t u (Ask digest name now command) (Replied reply (applied change n)) is proper step in
      let put = subst (λ x. outcome (register_of t) (Ask digest x now command) 0 ≡ (Replied reply after, put_network (register_of t) w.tenant w.name after)) found.named (asked_at t is w found.there digest now command (reply, after) found.tenant found.allowed acts) in
      subst (λ (o : EventOutcome). IsPermutation o.1.networks (register_of u).networks) put law.1.rows.networks

  formed_after : (h : NetworkEntry) → Has (with_network held w.tenant w.name after) h → IsFormed u h.id h.network
  formed_after = formed_in u (with_network held w.tenant w.name after) same_networks

  -- the network of this id is as the change leaves it
  pub changed_own : IsFormed u id (applied change n)
  changed_own =
      let own = formed_after (record (network_entry_of t w) { network = after }) (put_has (network_entry_of t w) after held is.consistent.slots (is_held w found.there)) in
      subst (λ i. IsFormed u i (applied change n)) found.at (subst (IsFormed u w.id) (ap (applied change) (sym found.value)) own)

  -- each other is as it was
  pub changed_other : (other : ℕ) (m : NetworkValue) → nat_eq id other ≡ false → IsFormed t other m → IsFormed u other m
  changed_other other m off v =
      let apart : same_slot (slot (network_entry_of t w)) (slot (network_entry_of t v.0)) ≡ false = elim (one_or_apart slot same_slot slot_sym held (network_entry_of t w) (network_entry_of t v.0) is.consistent.slots (is_held w found.there) (is_held v.0 v.1)) [
        | inl same ↦ let ids : id ≡ other = sym found.at ∙ ap (λ h. h.id) same ∙ v.2 in absurd (true≢false (sym (eqb_self id) ∙ ap (nat_eq id) ids ∙ off))
        | inr is ↦ is
      ] in
      let formed = formed_after (network_entry_of t v.0) (put_other (network_entry_of t w) after held (network_entry_of t v.0) (is_held v.0 v.1) apart) in
      subst (λ i. IsFormed u i m) v.2 (subst (IsFormed u v.0.id) (sym v.3) formed)

pub found_formed : (t : Tables) (digest name : Bytes) {command : Command} (id : ℕ) (n : NetworkValue) → IsFound t digest name command id n → IsFormed t id n
found_formed t digest name id n found = (found.row, found.there, found.at, found.value)

pub found_so : (t : Tables) (digest name : Bytes) (command : Command) (tenant id : ℕ) (n : NetworkValue) → AreConsistent t → tenant_of_token t.tokens digest ≡ Some tenant → allows (right_of t.readers digest) command ≡ true
    → ((w : NetworkRow) × Has t.networks w × IsSlotOf w tenant name × (w.id ≡ id)) → IsFormed t id n → IsFound t digest name command id n
found_so t digest name command tenant id n is known allowed named formed =
    let same = one_row t is formed.0 named.0 formed.1 named.1 (formed.2 ∙ sym named.3) in
    record { row = named.0; there = named.1; tenant = known ∙ ap Some (sym named.2.0); allowed = allowed; named = named.2.1; at = named.3; value = formed.3 ∙ ap (λ w. (network_entry_of t w).network) same }

-- ---- unless a fault ended the ask

pub unless : (r : Result (Vec ℕ Global) AskFault) (P : Type 0) → P → UnlessFault r P
unless (Ok text) P holds = holds
unless (Err (fault.Refused why)) P holds = holds
unless (Err fault.UnknownToken) P holds = holds
unless (Err fault.ReadOnly) P holds = holds
unless (Err fault.NoSuchNetwork) P holds = holds
unless (Err (fault.Fault why)) P holds = tt

pub unless_map : (r : Result (Vec ℕ Global) AskFault) (P Q : Type 0) → (P → Q) → UnlessFault r P → UnlessFault r Q
unless_map (Ok text) P Q tells holds = tells holds
unless_map (Err (fault.Refused why)) P Q tells holds = tells holds
unless_map (Err fault.UnknownToken) P Q tells holds = tells holds
unless_map (Err fault.ReadOnly) P Q tells holds = tells holds
unless_map (Err fault.NoSuchNetwork) P Q tells holds = tells holds
unless_map (Err (fault.Fault why)) P Q tells holds = tt

pub unless_late : (r : Result (Vec ℕ Global) AskFault) (why : Fault) (P : Type 0) → IsErrAnd r (λ e. e ≡ fault.Fault why) → UnlessFault r P
unless_late (Ok text) why P is = absurd is
unless_late (Err (fault.Refused other)) why P is = cc
unless_late (Err fault.UnknownToken) why P is = cc
unless_late (Err fault.ReadOnly) why P is = cc
unless_late (Err fault.NoSuchNetwork) why P is = cc
unless_late (Err (fault.Fault other)) why P is = tt

-- ---- what the connection shows

module _ {S : Type 0} (g : Ghosts S) where
  pub shown_so : (conn : Held S) (db : Database) (pending : List Written) (P : Tables → Type 0) → Stands g conn db pending → P (tables_of db) → Shows g conn P
  shown_so conn db pending P stands holds = λ clean live. subst (λ d. P (tables_of d)) (sym (stands.shows clean live)) holds

  pub known_so : (conn : Held S) (db : Database) (pending : List Written) (P : Tables → Type 0) → Stands g conn db pending → Shows g conn P → HasCleanDisk (state g conn) → IsTrue (state g conn).is_open → P (tables_of db)
  known_so conn db pending P stands shows clean live = subst (λ d. P (tables_of d)) (stands.shows clean live) (shows clean live)

  -- what was shown before a reading is of the rows that are shown after it
  pub shown_read : (old new : Held S) (db : Database) (pending : List Written) (P : Tables → Type 0) → Stands g old db pending → Stands g new db pending → Shows g old P → HasCleanDisk (state g old)
      → IsTrue (state g old).is_open → Shows g new P
  shown_read old new db pending P stood stands shows before was_live = shown_so new db pending P stands (known_so old db pending P stood shows before was_live)

  pub shows_if : (r : Result (Vec ℕ Global) AskFault) (conn : Held S) (P : Tables → Type 0) → (HasCleanDisk (state g conn) → UnlessFault r (Shows g conn P)) → UnlessFault r (Shows g conn P)
  shows_if (Ok text) conn P shows = λ clean live. shows clean clean live
  shows_if (Err (fault.Refused why)) conn P shows = λ clean live. shows clean clean live
  shows_if (Err fault.UnknownToken) conn P shows = λ clean live. shows clean clean live
  shows_if (Err fault.ReadOnly) conn P shows = λ clean live. shows clean clean live
  shows_if (Err fault.NoSuchNetwork) conn P shows = λ clean live. shows clean clean live
  shows_if (Err (fault.Fault why)) conn P shows = tt
