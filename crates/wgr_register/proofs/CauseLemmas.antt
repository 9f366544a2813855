-- Causes of the faults of asks.
use Rattle.std.proofs.Common.{◌≡◌, ◌<◌, ◌||◌, ℕ, Bool, true, false, not, List, [], ◌∷◌, map, nat_eq, Option, Some, None, Ok, Err, Result, IfErr, IsErrAnd, is_some, inl, inr, refl, sym, ap, subst, ◌∙◌, arith, true≢false, eqb-true}
use Rattle.std.specs.List.{AllByRecursion, IsDistinct}
use Rattle.std.specs.declared.vec.Vec.{Vec}
use Rattle.std.specs.declared.alloc.Global.{Global}
use Rattle.sqlite.specs.Order.{Row}
use Rattle.sqlite.specs.State.{State, HasCleanDisk, Survives}
use Rattle.sqlite.specs.Store.{Ghosts}
use Rattle.sqlite.specs.Held.{Held, state}
use Rattle.wgr_core.specs.Network.{NetworkValue}
use Rattle.wgr_core.specs.declared.fault.ActFault.{ActFault}
use Rattle.wgr_core.specs.declared.fault.ActFault.TheVariants as act_fault
use Rattle.wgr_model.specs.Consistent.{IsDigest, IsTenant, has_tenant}
use Rattle.wgr_model.specs.Laws.{Has}
use Rattle.wgr_model.specs.Register.{Bytes, Tenant, Token}
use Rattle.wgr_model.specs.RowLaws.{AreConsistent}
use Rattle.wgr_model.specs.Rows.{NetworkRow, Tables, network_entry_of}
use Rattle.wgr_model.proofs.CollectLemmas.{has_map}
use Rattle.wgr_model.proofs.GatherLemmas.{eqb_self}
use Rattle.wgr_model.proofs.HolderLemmas.{one_or_apart}
use Rattle.wgr_model.proofs.OrderLemmas.{from_filter}
use Rattle.wgr_model.proofs.SameLemmas.{at_has, eqb_sym}
use Rattle.wgr_sql.specs.Causes.{HasCause, HasCauseOr}
use Rattle.wgr_sql.proofs.CauseLemmas.{cause_after, cause_weaker}
use Rattle.wgr_sql.proofs.SurvivesLemmas.{survives_still}
use Rattle.sqlite.proofs.StateLemmas.{survives_then, survives_weaker}
use Rattle.std.specs.Bool.{⊤}
use Rattle.wgr_core.specs.Change.{Meets}
use Rattle.wgr_core.specs.Outcome.{is_reading, outcome_of}
use Rattle.wgr_core.specs.declared.change.Change.{Change}
use Rattle.wgr_core.specs.declared.command.Command.{Command}
use Rattle.wgr_core.specs.declared.reply.Reply.{Reply}
use Rattle.wgr_sql.specs.declared.fault.Fault.{Fault}
use Rattle.wgr_sql.specs.declared.fault.Fault.TheVariants.{NoMemory, Store}
use Rattle.wgr_columns.specs.Decode.{network_in}
use Rattle.wgr_columns.specs.Stored.{AreSettings, AreStored, IsKeptNetwork, stored_network}
use Rattle.wgr_tables.specs.Standing.{MayWrite, OnlyReads}
use Rattle.wgr_tables.specs.Stored.{IsStored}
use Rattle.wgr_entries.specs.Kept.{AreOf, IsKeptToken}
use Rattle.wgr_entries.proofs.KeptLemmas as kept
use Rattle.wgr_tables.proofs.ToldLemmas.{told_settings}
use Rattle.wgr_opening.proofs.ConsistentLemmas.{consistent_is_whole, network_entry}
use Rattle.wgr_register.specs.Causes.{AskStops, IfFault, StopsIf}
use Rattle.wgr_rows.specs.Act.{IfFails}
use Rattle.wgr_rows.specs.declared.fault.RowFault.{RowFault}
use Rattle.wgr_rows.specs.declared.fault.RowFault.TheVariants as on_rows
use Rattle.wgr_core.specs.Refusals.{of_command}
use Rattle.wgr_register.specs.Ends.{IsFound, ask_fault, row_fault}
use Rattle.wgr_entries.specs.Lookups.{ShowNetworksOf}
use Rattle.wgr_register.specs.declared.fault.AskFault.{AskFault}
use Rattle.wgr_register.specs.declared.fault.AskFault.TheVariants as fault
use Rattle.wgr_register.proofs.AskLemmas.{changing}

-- ---- results

-- a fault of the store may be taken to come while the disk is clean
pub if_clean : {X : Type 0} (old new : State) (r : Result X Fault) → (HasCleanDisk new → IfErr r (HasCause old new)) → IfErr r (HasCause old new)
if_clean old new (Ok x) h = tt
if_clean old new (Err NoMemory) h = tt
if_clean old new (Err (Store w)) h = λ clean. h clean clean

pub asked_clean : (old new : State) (r : Result (Vec ℕ Global) AskFault) → (HasCleanDisk new → IfFault (HasCause old new) r) → IfFault (HasCause old new) r
asked_clean old new (Ok text) h = tt
asked_clean old new (Err (fault.Refused why)) h = tt
asked_clean old new (Err fault.UnknownToken) h = tt
asked_clean old new (Err fault.ReadOnly) h = tt
asked_clean old new (Err fault.NoSuchNetwork) h = tt
asked_clean old new (Err (fault.Fault NoMemory)) h = tt
asked_clean old new (Err (fault.Fault (Store w))) h = λ clean. h clean clean

-- a fault that is handed on
pub fault_handed : (P : Fault → Type 0) (r : Result (Vec ℕ Global) AskFault) (why : Fault) → IsErrAnd r (λ e. e ≡ fault.Fault why) → P why → IfFault P r
fault_handed P (Ok text) why is h = tt
fault_handed P (Err (fault.Refused other)) why is h = tt
fault_handed P (Err fault.UnknownToken) why is h = tt
fault_handed P (Err fault.ReadOnly) why is h = tt
fault_handed P (Err fault.NoSuchNetwork) why is h = tt
fault_handed P (Err (fault.Fault other)) why is h = let same : other ≡ why = cc in subst P (sym same) h

-- and so is one of a command on rows
pub row_handed : (P : Fault → Type 0) (r : Result (Vec ℕ Global) AskFault) (why : RowFault) → IsErrAnd r (λ e. e ≡ row_fault why) → IfFails P why → IfFault P r
row_handed P r (on_rows.Fault why) is h = fault_handed P r why is h
row_handed P (Ok text) (on_rows.Refused why) is h = tt
row_handed P (Err (fault.Refused other)) (on_rows.Refused why) is h = tt
row_handed P (Err fault.UnknownToken) (on_rows.Refused why) is h = tt
row_handed P (Err fault.ReadOnly) (on_rows.Refused why) is h = tt
row_handed P (Err fault.NoSuchNetwork) (on_rows.Refused why) is h = tt
row_handed P (Err (fault.Fault other)) (on_rows.Refused why) is h = absurd (let e : fault.Fault other ≡ fault.Refused (of_command why) = is in cc)

pub row_weaker : (P : Type 0) (old new : State) (why : RowFault) → IfFails (HasCause old new) why → IfFails (HasCauseOr P old new) why
row_weaker P old new (on_rows.Refused why) h = tt
row_weaker P old new (on_rows.Fault why) h = cause_weaker ⊥ P old new (λ none. absurd none) why h

-- want of memory is no fault of the store
pub memory_alone : (old new : State) (r : Result (Vec ℕ Global) AskFault) → IfFault (λ why. why ≡ NoMemory) r → IfFault (HasCause old new) r
memory_alone old new (Ok text) h = tt
memory_alone old new (Err (fault.Refused why)) h = tt
memory_alone old new (Err fault.UnknownToken) h = tt
memory_alone old new (Err fault.ReadOnly) h = tt
memory_alone old new (Err fault.NoSuchNetwork) h = tt
memory_alone old new (Err (fault.Fault NoMemory)) h = tt
memory_alone old new (Err (fault.Fault (Store w))) h = absurd (let e = h in cc)

pub undone_memory : (e : AskFault) (why : ActFault) → e ≡ ask_fault why → IfFault (λ w. w ≡ NoMemory) (Err e)
undone_memory (fault.Refused other) why is = tt
undone_memory fault.UnknownToken why is = tt
undone_memory fault.ReadOnly why is = tt
undone_memory fault.NoSuchNetwork why is = tt
undone_memory (fault.Fault other) act_fault.NoMemory is = cc
undone_memory (fault.Fault other) (act_fault.Refused why) is = absurd (let e = is in cc)

-- the same where something else may stop it
pub stopped_clean : (P : Type 0) (old new : State) (r : Result (Vec ℕ Global) AskFault) → (HasCleanDisk new → IfFault (HasCauseOr P old new) r) → IfFault (HasCauseOr P old new) r
stopped_clean P old new (Ok text) h = tt
stopped_clean P old new (Err (fault.Refused why)) h = tt
stopped_clean P old new (Err fault.UnknownToken) h = tt
stopped_clean P old new (Err fault.ReadOnly) h = tt
stopped_clean P old new (Err fault.NoSuchNetwork) h = tt
stopped_clean P old new (Err (fault.Fault NoMemory)) h = tt
stopped_clean P old new (Err (fault.Fault (Store w))) h = λ clean. h clean clean

pub stopped_after : (P : Type 0) (old mid new : State) (r : Result (Vec ℕ Global) AskFault) → Survives old mid (λ _. ⊥) → Survives mid new (λ _. ⊤) → IfFault (HasCauseOr P mid new) r → IfFault (HasCauseOr P old new) r
stopped_after P old mid new (Ok text) s t h = tt
stopped_after P old mid new (Err (fault.Refused why)) s t h = tt
stopped_after P old mid new (Err fault.UnknownToken) s t h = tt
stopped_after P old mid new (Err fault.ReadOnly) s t h = tt
stopped_after P old mid new (Err fault.NoSuchNetwork) s t h = tt
stopped_after P old mid new (Err (fault.Fault why)) s t h = cause_after old mid new P P (λ _. ⊥) (λ _. ⊤) s t (λ p. p) why h

-- a reading failed, after others
pub asked_unread : (P : Type 0) (old mid new : State) (r : Result (Vec ℕ Global) AskFault) (why : Fault) → IsErrAnd r (λ e. e ≡ fault.Fault why) → Survives old mid (λ _. ⊥) → Survives mid new (λ _. ⊥)
    → HasCause mid new why → IfFault (HasCauseOr P old new) r
asked_unread P old mid new r why is before then_ cause = fault_handed (HasCauseOr P old new) r why is (cause_after old mid new ⊥ P (λ _. ⊥) (λ _. ⊥) before then_ (λ none. absurd none) why cause)

pub memory_stops : (P : Type 0) (old new : State) (r : Result (Vec ℕ Global) AskFault) → IfFault (λ why. why ≡ NoMemory) r → IfFault (HasCauseOr P old new) r
memory_stops P old new (Ok text) h = tt
memory_stops P old new (Err (fault.Refused why)) h = tt
memory_stops P old new (Err fault.UnknownToken) h = tt
memory_stops P old new (Err fault.ReadOnly) h = tt
memory_stops P old new (Err fault.NoSuchNetwork) h = tt
memory_stops P old new (Err (fault.Fault NoMemory)) h = tt
memory_stops P old new (Err (fault.Fault (Store w))) h = absurd (let e = h in cc)

-- a call that writes nothing
pub writes_nothing : {S : Type 0} (g : Ghosts S) (conn : Held S) → conn.in_transaction ≡ false → MayWrite g conn conn
writes_nothing g conn idle = record { idle = idle; clean = λ clean. clean; survives = survives_weaker (state g conn) (state g conn) (λ _. ⊥) (λ _. ⊤) (λ _ trees none. tt) (survives_still (state g conn)) }

-- a call that only reads, and one that may write
pub reads_and_writes : {S : Type 0} {g : Ghosts S} {old mid new : Held S} → OnlyReads g old mid → MayWrite g mid new → MayWrite g old new
reads_and_writes {g = g} {old = old} {mid = mid} {new = new} reads writes = record {
  idle = writes.idle;
  clean = λ clean. reads.clean (writes.clean clean);
  survives = survives_then (state g old) (state g mid) (state g new) (λ _. ⊥) (λ _. ⊤) (λ _. ⊤) (λ _ trees none. tt) (λ _ trees any. tt) reads.survives writes.survives;
}

pub ask_stops : (t : Tables) (digest name : Bytes) (now : ℕ) (command : Command) (id : ℕ) (network : NetworkValue) (found : IsFound t digest name command id network) (reply : Reply) (change : Option Change)
    → Meets network (Ok (reply, change)) (outcome_of network now command) → is_some change ≡ not (is_reading command) → StopsIf id change t → AskStops t digest name now command
ask_stops t digest name now command id network found reply None made changes stops = absurd stops
ask_stops t digest name now command id network found reply (Some change) made changes stops = record {
  changes = changing (is_reading command) (sym changes);
  id = id;
  network = network;
  found = found;
  reply = reply;
  change = change;
  made = made;
  stops = stops;
}

-- ---- rows of a consistent register

module _ (t : Tables) (good : AreConsistent t) where
  pub ids_apart : IsDistinct nat_eq (map (λ w. w.id) t.networks)
  ids_apart = (consistent_is_whole t good).networks.ids

  pub one_network : (w x : NetworkRow) → Has t.networks w → Has t.networks x → w.id ≡ x.id → w ≡ x
  one_network w x here there same = elim (one_or_apart (λ (y : NetworkRow). y.id) nat_eq eqb_sym t.networks w x ids_apart here there) [
    | inl equal ↦ equal
    | inr other ↦ absurd (true≢false (sym (eqb_self x.id) ∙ sym (ap (λ i. nat_eq i x.id) same) ∙ other))
  ]

  settings_at : (w : NetworkRow) → Has t.networks w → AreSettings w
  settings_at w here =
      let told = (consistent_is_whole t good).stored w here in
      subst AreSettings (one_network told.1.row w told.1.there here told.1.id_is) (told_settings t w.id told.0 told.1)

  holder_low : (ts : List Tenant) (id : ℕ) → AllByRecursion IsTenant ts → has_tenant ts id ≡ true → id < 4294967296
  holder_low [] id all h = absurd cc
  holder_low (x ∷ ts) id all h = go (nat_eq id x.id) refl h (holder_low ts id all.1)
    where
      go : (b : Bool) → nat_eq id x.id ≡ b → (b || has_tenant ts id) ≡ true → (has_tenant ts id ≡ true → id < 4294967296) → id < 4294967296
      go true is h later = subst (λ n. n < 4294967296) (sym (eqb-true id x.id is)) (omega (arith, all.0.id.1))
      go false is h later = later h

  pub network_kept : (w : NetworkRow) → Has t.networks w → IsKeptNetwork w
  network_kept w here =
      let it = network_entry t good w here in
      record {
        settings = settings_at w here;
        id = omega (arith, it.id.1);
        tenant = holder_low t.tenants w.tenant good.consistent.tenants (at_has (λ x. has_tenant t.tenants x.tenant ≡ true) (map (network_entry_of t) t.networks) (network_entry_of t w) good.consistent.network_tenants (has_map (network_entry_of t) t.networks w here));
        name = it.name;
      }

  pub tenant_kept : (x : Tenant) → Has t.tenants x → IsTenant x
  tenant_kept x here = at_has IsTenant t.tenants x good.consistent.tenants here

  pub token_kept : (x : Token) → Has t.tokens x → IsKeptToken x
  token_kept x here = record {
    digest = at_has (λ (y : Token). IsDigest y.digest) t.tokens x good.consistent.tokens here;
    tenant = holder_low t.tenants x.tenant good.consistent.tenants (at_has (λ (y : Token). has_tenant t.tenants y.tenant ≡ true) t.tokens x good.consistent.token_tenants here);
  }

  -- each row of a tenant's networks is stored as the register writes it
  pub rows_kept : (tenant : ℕ) (rows : List Row) → ShowNetworksOf tenant t rows → AreStored stored_network network_in rows → AreOf IsKeptNetwork stored_network rows
  rows_kept tenant rows shows stored = kept.rows_kept network_in stored_network IsKeptNetwork _ rows shows stored (λ w here. network_kept w (from_filter (λ w. nat_eq w.tenant tenant) t.networks w here).0)

  -- the rows of a network that is there tell it
  pub told_at : (w : NetworkRow) → Has t.networks w → (id : ℕ) → w.id ≡ id → (n : NetworkValue) × IsStored t id n
  told_at w here id is = subst (λ i. (n : NetworkValue) × IsStored t i n) is ((consistent_is_whole t good).stored w here)
