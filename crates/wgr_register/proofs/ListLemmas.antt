-- A tenant's networks, as their rows show them.
use Rattle.std.proofs.Common.{◌≡◌, ℕ, suc, ◌-◌, ◌<◌, ◌≤◌, Bool, true, false, cond, ◌&&◌, List, [], ◌∷◌, length, slice_index_or, drop, drop-cons, find, filter, map, nat_eq, Option, Some, None, option_map, ◌⊎◌, inl, inr, IsPermutation}
use Rattle.std.proofs.Common.{refl, sym, ap, subst, ◌∙◌, arith, true≢false, Ordering, Less, Equal, Greater}
use Rattle.std.specs.Cmp.Lexicographic.{slice_cmp, nat_list_cmp_total}
use Rattle.std.specs.FinMap as map_
use Rattle.std.specs.FinMap.Entries.{by_order}
use Rattle.std.specs.Ordering.{nat_cmp}
use Rattle.std.proofs.lemmas.List.Sorted.{IsPermutation-sym}
use Rattle.wgr_core.specs.Network.{NetworkValue}
use Rattle.wgr_model.specs.Consistent.{same_slot, slot}
use Rattle.wgr_model.specs.Laws.{Has}
use Rattle.wgr_model.specs.Listing.{put_entry}
use Rattle.wgr_model.specs.Register.{Bytes, NetworkEntry, Register, is_same, view_at}
use Rattle.wgr_model.specs.RowLaws.{AreConsistent, IsRowStep}
use Rattle.wgr_model.specs.Rows.{NetworkRow, Tables, network_entry_of, register_of}
use Rattle.wgr_model.specs.Steps.{Listed, Networks, UnknownToken, new_network, tenant_of_token}
use Rattle.wgr_model.proofs.CallLemmas.{stranger_lists, tenant_lists}
use Rattle.wgr_model.proofs.CollectLemmas.{from_map, has_map}
use Rattle.wgr_model.proofs.ListingLemmas.{none_listed}
use Rattle.wgr_model.proofs.SameLemmas.{find_has, has_find, has_permutation, network_found, slot_tells}
use Rattle.wgr_model.proofs.ViewLemmas.{get_view, same_networks}
use Rattle.wgr_entries.specs.Lookups.{settings_of, settled}
use Rattle.wgr_register.specs.Given.{as_added, settings_in}
use Rattle.wgr_register.specs.Listing.{by_name, seen_by}

-- ---- their order

-- one place before
pub step_back : {A : Type 0} (xs : List A) (rest : ℕ) (x : A) → 0 < rest → rest ≤ length xs → x ≡ slice_index_or xs (rest - 1) x → drop (rest - 1) xs ≡ x ∷ drop rest xs
step_back xs rest x some within at =
    let next : suc (rest - 1) ≡ rest = omega (arith, some) in
    let lt : rest - 1 < length xs = omega (arith, some, within) in
    drop-cons xs (rest - 1) x lt ∙ ap (λ k. slice_index_or xs (rest - 1) x ∷ drop k xs) next ∙ ap (λ y. y ∷ drop rest xs) (sym at)

pub none_by_name : [] ≡ by_name []
none_by_name = none_listed [] 0 [] refl refl

pub one_by_name : (h : NetworkEntry) (hs : List NetworkEntry) → put_entry h.name h.network (by_name hs) ≡ by_name (h ∷ hs)
one_by_name h hs = sym (map_.entries-insert nat_list_cmp_total (map_.from_entries {R = slice_cmp nat_cmp} (map (λ (x : NetworkEntry). (x.name, x.network)) hs)) h.name h.network)

-- ---- as they were added

put_added : (name : Bytes) (n : NetworkValue) (es : List (Bytes × NetworkValue)) → map as_added (put_entry name n es) ≡ put_entry name (new_network (settings_in n)) (map as_added es)
put_added name n [] = refl
put_added name n (e ∷ es) = by_case (slice_cmp nat_cmp name e.0) (put_added name n es) where
  by_case : (o : Ordering) → map as_added (put_entry name n es) ≡ put_entry name (new_network (settings_in n)) (map as_added es)
      → map as_added (by_order o ((name, n) ∷ e ∷ es) ((e.0, n) ∷ es) (e ∷ put_entry name n es))
      ≡ by_order o ((name, new_network (settings_in n)) ∷ as_added e ∷ map as_added es) ((e.0, new_network (settings_in n)) ∷ map as_added es) (as_added e ∷ put_entry name (new_network (settings_in n)) (map as_added es))
  by_case Less rest = refl
  by_case Equal rest = refl
  by_case Greater rest = ap (λ xs. as_added e ∷ xs) rest

all_added : (t : Tables) (ws : List NetworkRow) → map as_added (by_name (map (network_entry_of t) ws)) ≡ by_name (map settled ws)
all_added t [] = ap (map as_added) (sym none_by_name) ∙ none_by_name
all_added t (w ∷ ws) =
    ap (map as_added) (sym (one_by_name (network_entry_of t w) (map (network_entry_of t) ws)))
    ∙ put_added w.name (network_entry_of t w).network (by_name (map (network_entry_of t) ws))
    ∙ ap (put_entry w.name (new_network (settings_of w))) (all_added t ws)
    ∙ one_by_name (settled w) (map settled ws)

-- ---- what passes a test

has_filter : {A : Type 0} (p : A → Bool) (xs : List A) (a : A) → Has xs a → p a ≡ true → Has (filter p xs) a
has_filter p [] a h is = absurd h
has_filter p (x ∷ xs) a h is = by_test (p x) refl h (has_filter p xs a) where
  by_test : (b : Bool) → p x ≡ b → (x ≡ a) ⊎ Has xs a → (Has xs a → p a ≡ true → Has (filter p xs) a) → Has (cond b (x ∷ filter p xs) (filter p xs)) a
  by_test true e (inl same) rest = inl same
  by_test true e (inr there) rest = inr (rest there is)
  by_test false e (inl same) rest = absurd (true≢false (sym is ∙ ap p (sym same) ∙ e))
  by_test false e (inr there) rest = rest there is

filter_has : {A : Type 0} (p : A → Bool) (xs : List A) (a : A) → Has (filter p xs) a → Has xs a × (p a ≡ true)
filter_has p [] a h = absurd h
filter_has p (x ∷ xs) a h = by_test (p x) refl h (filter_has p xs a) where
  by_test : (b : Bool) → p x ≡ b → Has (cond b (x ∷ filter p xs) (filter p xs)) a → (Has (filter p xs) a → Has xs a × (p a ≡ true)) → ((x ≡ a) ⊎ Has xs a) × (p a ≡ true)
  by_test true e (inl same) rest = (inl same, ap p (sym same) ∙ e)
  by_test true e (inr there) rest = (inr (rest there).0, (rest there).1)
  by_test false e there rest = (inr (rest there).0, (rest there).1)

is_found : {A : Type 0} (p : A → Bool) (xs : List A) (a : A) → Has xs a → p a ≡ true → find p xs ≡ None → ⊥
is_found p [] a h is none = absurd h
is_found p (x ∷ xs) a h is none = by_test (p x) refl h none (is_found p xs a) where
  by_test : (b : Bool) → p x ≡ b → (x ≡ a) ⊎ Has xs a → cond b (Some x) (find p xs) ≡ None → (Has xs a → p a ≡ true → find p xs ≡ None → ⊥) → ⊥
  by_test true e h none rest = cc
  by_test false e (inl same) none rest = true≢false (sym is ∙ ap p (sym same) ∙ e)
  by_test false e (inr there) none rest = rest there is none

first_true : (a b : Bool) → (a && b) ≡ true → a ≡ true
first_true true b e = refl
first_true false b e = e

-- ---- one tenant's networks, in whatever order

module _ (t : Tables) (is : AreConsistent t) (id : ℕ) (ws : List NetworkRow) (read : IsPermutation (filter (λ w. nat_eq w.tenant id) t.networks) ws) where
  abbrev whole : List NetworkEntry
  whole = map (network_entry_of t) t.networks

  abbrev own : List NetworkEntry
  own = map (network_entry_of t) ws

  inside : (w : NetworkRow) → Has ws w → Has t.networks w × (nat_eq w.tenant id ≡ true)
  inside w h = filter_has (λ (x : NetworkRow). nat_eq x.tenant id) t.networks w (has_permutation ws (filter (λ x. nat_eq x.tenant id) t.networks) w (IsPermutation-sym (filter (λ x. nat_eq x.tenant id) t.networks) ws read) h)

  into : (h : NetworkEntry) → Has own h → Has whole h
  into h here = let row = from_map (network_entry_of t) ws h here in subst (Has whole) row.2 (has_map (network_entry_of t) t.networks row.0 (inside row.0 row.1).0)

  back : (h : NetworkEntry) → Has whole h → nat_eq h.tenant id ≡ true → Has own h
  back h here mine =
      let row = from_map (network_entry_of t) t.networks h here in
      let passes : nat_eq row.0.tenant id ≡ true = ap (λ (x : NetworkEntry). nat_eq x.tenant id) row.2 ∙ mine in
      subst (Has own) row.2 (has_map (network_entry_of t) ws row.0 (has_permutation (filter (λ x. nat_eq x.tenant id) t.networks) ws row.0 read (has_filter (λ (x : NetworkRow). nat_eq x.tenant id) t.networks row.0 row.1 passes)))

  abbrev fits : Bytes → NetworkEntry → Bool
  fits q h = nat_eq h.tenant id && is_same q h.name

  alike : (q : Bytes) → find (fits q) whole ≡ find (fits q) own
  alike q = by_found (find (fits q) whole) (find (fits q) own) refl refl where
    by_found : (a b : Option NetworkEntry) → find (fits q) whole ≡ a → find (fits q) own ≡ b → a ≡ b
    by_found None None g h = refl
    by_found a (Some y) g h =
        let there = find_has (fits q) slot same_slot (slot_tells id q) own y h in
        sym g ∙ has_find (fits q) slot same_slot (slot_tells id q) whole y is.consistent.slots (into y there.0) there.1
    by_found (Some x) None g h =
        let there = find_has (fits q) slot same_slot (slot_tells id q) whole x g in
        absurd (is_found (fits q) own x (back x there.0 (first_true (nat_eq x.tenant id) (is_same q x.name) there.1)) there.1 h)

  abbrev alone : Register
  alone = record { tenants = []; tokens = []; readers = []; networks = own }

  same_map : (view_at (register_of t) id).networks ≡ (view_at alone id).networks
  same_map = same_networks (view_at (register_of t) id).networks (view_at alone id).networks
      (λ q. get_view (register_of t) id q ∙ network_found whole id q ∙ ap (option_map (λ (h : NetworkEntry). h.network)) (alike q) ∙ sym (network_found own id q) ∙ sym (get_view alone id q))

  all_pass : (xs : List NetworkRow) → ((w : NetworkRow) → Has xs w → nat_eq w.tenant id ≡ true) → filter (λ (h : NetworkEntry). nat_eq h.tenant id) (map (network_entry_of t) xs) ≡ map (network_entry_of t) xs
  all_pass [] passes = refl
  all_pass (w ∷ xs) passes =
      let rest = filter (λ (h : NetworkEntry). nat_eq h.tenant id) (map (network_entry_of t) xs) in
      ap (λ b. cond b (network_entry_of t w ∷ rest) rest) (passes w (inl refl)) ∙ ap (λ hs. network_entry_of t w ∷ hs) (all_pass xs (λ x here. passes x (inr here)))

  pub networks_added : by_name (map settled ws) ≡ map as_added (seen_by t id)
  networks_added = sym (all_added t ws) ∙ ap (map as_added) (ap by_name (sym (all_pass ws (λ w here. (inside w here).1))) ∙ ap map_.entries (sym same_map))

-- ---- the steps

module _ (t : Tables) (is : AreConsistent t) (digest : Bytes) where
  pub nobody_lists : tenant_of_token t.tokens digest ≡ None → IsRowStep t (Networks digest) UnknownToken t
  nobody_lists none = record { after = register_of t; step = stranger_lists (register_of t) digest none; rows = is.rows }

  pub holder_lists : (id : ℕ) → tenant_of_token t.tokens digest ≡ Some id → IsRowStep t (Networks digest) (Listed (seen_by t id)) t
  holder_lists id known = record { after = register_of t; step = tenant_lists (register_of t) digest id (seen_by t id) known refl; rows = is.rows }
