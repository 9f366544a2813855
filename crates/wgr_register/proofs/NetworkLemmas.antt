-- A network that is added, on the rows.
use Rattle.std.proofs.Common.{◌≡◌, ℕ, Bool, true, false, not, List, [], ◌∷◌, Option, Some, None, Result, Ok, Err, map, length, nat_eq, nat_lt, refl, sym, ap, subst, ◌∙◌, arith, suc}
use Rattle.std.specs.List.{list_any}
use Rattle.std.specs.List.Sorted.{IsPermutation}
use Rattle.std.proofs.lemmas.List.Sorted.{IsPermutation-map, IsPermutation-refl, list_any-IsPermutation}
use Rattle.wgr_text.specs.Prefix.{PrefixValue}
use Rattle.wgr_orders.specs.Orders.{IsAdmitted, refusal_of}
use Rattle.wgr_model.specs.Consistent.{endpoint, is_pool, overlaps, same_endpoint, same_slot, slot}
use Rattle.wgr_model.specs.Register.{Bytes, NetworkEntry, IsSame, Register, Tenant, id_of}
use Rattle.wgr_model.specs.RowLaws.{AreConsistent, IsRowStep}
use Rattle.wgr_model.specs.Rows.{AreRowsOf, NetworkRow, Tables, network_entry_of, register_of}
use Rattle.wgr_model.specs.Steps.{AddNetwork, BadPool, Done, Event, NameHeld, NoSuchTenant, OrderRefusal, EventOutcome, PortHeld, Refused, RegisterFull, Settings, first_refusal, given, has_network, network_added, network_checks, new_network, outcome, overlapping, pool_refusal, refuse, with_new_network}
use Rattle.wgr_orders.specs.declared.refusal.OrderRefusal as declared
use Rattle.wgr_model.proofs.GatherLemmas.{map_map}
use Rattle.wgr_model.proofs.OrderLemmas.{outcome_alike}
use Rattle.wgr_model.proofs.OrderRowLemmas.{networks_gain}
use Rattle.wgr_model.proofs.OrderSteps.{nobody_adds}
use Rattle.wgr_model.proofs.RowRunLemmas.{same_rows}
use Rattle.wgr_model.proofs.SameLemmas.{same_id}
use Rattle.wgr_entries.specs.OrderSteps.{new_row}
use Rattle.wgr_entries.specs.Lookups.{settled}
use Rattle.wgr_tables.specs.Writes.{Changes, NetworkGained}
use Rattle.wgr_register.proofs.AskLemmas.{still}
use Rattle.wgr_register.specs.Ends.{AdmitsNetwork}
use Rattle.wgr_register.specs.declared.fault.OrderFault.{OrderFault}

module _ (t : Tables) where
  -- the networks whole, and as they were added, are the same to the checks of another
  overlap_settled : (ts : List Tenant) (pool : PrefixValue) (ws : List NetworkRow) → overlapping ts (map (network_entry_of t) ws) pool ≡ overlapping ts (map settled ws) pool
  overlap_settled ts pool [] = refl
  overlap_settled ts pool (w ∷ ws) = by_test (overlaps pool w.pool) refl (overlap_settled ts pool ws) where
    by_test : (b : Bool) → overlaps pool w.pool ≡ b → overlapping ts (map (network_entry_of t) ws) pool ≡ overlapping ts (map settled ws) pool → overlapping ts (map (network_entry_of t) (w ∷ ws)) pool ≡ overlapping ts (map settled (w ∷ ws)) pool
    by_test true e rest = grind (arith, e, rest)
    by_test false e rest = grind (arith, e, rest)

  slots_settled : (ws : List NetworkRow) → map slot (map (network_entry_of t) ws) ≡ map slot (map settled ws)
  slots_settled ws = map_map (network_entry_of t) slot ws ∙ sym (map_map settled slot ws)

  endpoints_settled : (ws : List NetworkRow) → map endpoint (map (network_entry_of t) ws) ≡ map endpoint (map settled ws)
  endpoints_settled ws = map_map (network_entry_of t) endpoint ws ∙ sym (map_map settled endpoint ws)

  full_settled : (ws : List NetworkRow) → length (map (network_entry_of t) ws) ≡ length (map settled ws)
  full_settled [] = refl
  full_settled (w ∷ ws) = ap (λ n. suc n) (full_settled ws)

  pub checks_settled : (ts : List Tenant) (ws : List NetworkRow) (id : ℕ) (name : Bytes) (s : Settings)
      → first_refusal (network_checks (record { tenants = ts; tokens = t.tokens; readers = t.readers; networks = map (network_entry_of t) ws }) id name s) ≡ first_refusal (network_checks (record { tenants = ts; tokens = []; readers = []; networks = map settled ws }) id name s)
  checks_settled ts ws id name s =
      λ i. first_refusal (refuse (list_any (same_slot (id, name)) (slots_settled ws i)) NameHeld ∷ refuse (not (is_pool s.pool)) BadPool ∷ pool_refusal (overlap_settled ts s.pool ws i)
      ∷ refuse (list_any (same_endpoint (s.host, s.port)) (endpoints_settled ws i)) PortHeld ∷ refuse (not (nat_lt (full_settled ws i) 65536)) RegisterFull ∷ [])

module _ (t : Tables) (is : AreConsistent t) (tenant name : Bytes) (s : Settings) where
  abbrev event : Event
  event = AddNetwork tenant name s

  pub nobody_has_it : id_of t.tenants tenant ≡ None → IsRowStep t event (Refused NoSuchTenant) t
  nobody_has_it none = still t event (Refused NoSuchTenant) is (nobody_adds (register_of t) tenant name s none)

  -- read in whatever order
  module _ (ts : List Tenant) (ws : List NetworkRow) (tenants : IsPermutation t.tenants ts) (networks : IsPermutation t.networks ws) (id : ℕ) (known : id_of t.tenants tenant ≡ Some id) where
    abbrev read : Register
    read = record { tenants = ts; tokens = t.tokens; readers = t.readers; networks = map (network_entry_of t) ws }

    abbrev heads : Register
    heads = record { tenants = ts; tokens = []; readers = []; networks = map settled ws }

    same : IsSame (register_of t) read
    same = record { tenants = tenants; tokens = IsPermutation-refl t.tokens; readers = IsPermutation-refl t.readers; networks = IsPermutation-map (network_entry_of t) t.networks ws networks }

    known_read : id_of ts tenant ≡ Some id
    known_read = sym (same_id (register_of t) read same is.consistent tenant) ∙ known

    -- what the order gives on the read register
    gives : (why : Option OrderRefusal) (new : ℕ) → first_refusal (network_checks heads id name s) ≡ why → outcome read event new ≡ given why read (with_new_network read new id name (new_network s))
    gives why new e =
        ap (network_added read name s new) known_read ∙ ap (λ o. given o read (with_new_network read new id name (new_network s))) (checks_settled t ts ws id name s ∙ e)

    rows_read : AreRowsOf read t
    rows_read = same_rows (register_of t) read t same is.rows

    pub network_refused : (why : declared.OrderRefusal) → IsAdmitted heads id name s (Err why) → IsRowStep t event (Refused (refusal_of why)) t
    network_refused why e =
        let alike = outcome_alike (register_of t) read same is.consistent event 0 in
        let o = gives (Some (refusal_of why)) 0 e in
        record {
          after = read;
          step = record {
            new = 0;
            unused = λ done. cc;
            answered = sym (alike.answer ∙ ap {A = EventOutcome} (λ x. x.0) o);
            rows = subst (λ (x : EventOutcome). IsSame (outcome (register_of t) event 0).1 x.1) o alike.entries;
          };
          rows = rows_read;
        }

    pub network_comes : (new : ℕ) → IsAdmitted heads id name s (Ok new) → (u : Tables) → Changes (NetworkGained (new_row new id name s)) t u → IsRowStep t event Done u
    network_comes new admitted u made =
        let alike = outcome_alike (register_of t) read same is.consistent event new in
        let o = gives None new admitted.0 in
        let unused : has_network (register_of t).networks new ≡ false =
        list_any-IsPermutation (nat_eq new) (map (λ h. h.id) (map (network_entry_of t) t.networks)) (map (λ h. h.id) (map (network_entry_of t) ws)) (IsPermutation-map (λ h. h.id) _ _ same.networks)
        ∙ ap (list_any (nat_eq new)) (map_map (network_entry_of t) (λ h. h.id) ws ∙ sym (map_map settled (λ h. h.id) ws)) ∙ admitted.2 in
        record {
          after = with_new_network read new id name (new_network s);
          step = record {
            new = new;
            unused = λ done. (admitted.1, unused);
            answered = sym (alike.answer ∙ ap {A = EventOutcome} (λ x. x.0) o);
            rows = subst (λ (x : EventOutcome). IsSame (outcome (register_of t) event new).1 x.1) o alike.entries;
          };
          rows = subst (AreRowsOf (with_new_network read new id name (new_network s))) (sym made.2) (networks_gain read t new id name s made.0 rows_read made.1);
        }

-- of other lists that are equal
pub admits_by : (ts us : List Tenant) (hs ks : List NetworkEntry) (id : ℕ) (name : Bytes) (s : Settings) (r : Result ℕ OrderFault) → ts ≡ us → hs ≡ ks
    → AdmitsNetwork (record { tenants = ts; tokens = []; readers = []; networks = hs }) id name s r → AdmitsNetwork (record { tenants = us; tokens = []; readers = []; networks = ks }) id name s r
admits_by ts us hs ks id name s r same alike is =
    subst (λ (x : List Tenant). AdmitsNetwork (record { tenants = x; tokens = []; readers = []; networks = ks }) id name s r) same (subst (λ (x : List NetworkEntry). AdmitsNetwork (record { tenants = ts; tokens = []; readers = []; networks = x }) id name s r) alike is)
