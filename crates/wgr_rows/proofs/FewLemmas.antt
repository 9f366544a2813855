-- Consistent rows hold no more prefixes of a network than it may have.
use Rattle.std.proofs.Common.{◌≡◌, ◌≤◌, ◌+◌, ℕ, Bool, true, false, nat_eq, List, [], ◌∷◌, ◌++◌, map, filter, length, IsPermutation, inl, inr, refl, sym, ap, subst, ◌∙◌, arith, true≢false, eqb-true, length-append}
use Rattle.std.specs.List.{AllByRecursion, IsDistinct}
use Rattle.std.proofs.lemmas.List.Sorted.{length_permutation}
use Rattle.std.proofs.lemmas.Map.Keys.{IsDistinct-head, IsDistinct-tail}
use Rattle.std.proofs.Math.ListN.{length-map}
use Rattle.wgr_text.specs.Prefix.{PrefixValue}
use Rattle.wgr_pool.proofs.Bools.{and_true}
use Rattle.wgr_model.specs.Laws.{Has}
use Rattle.wgr_model.specs.Rows.{AllowedRow, Tables, address_row, allowed_key, network_entry_of, route_row, same_allowed}
use Rattle.wgr_model.proofs.CollectLemmas.{has_left, has_map, has_right}
use Rattle.wgr_model.proofs.KeptLemmas.{distinct_filter}
use Rattle.wgr_model.proofs.OrderLemmas.{from_filter}
use Rattle.wgr_model.proofs.RuleLemmas.{rules}
use Rattle.wgr_tables.proofs.RouteRests.{allowed_self}
use Rattle.wgr_rows.specs.HeldRows.{is_hold, max_holds}
use Rattle.wgr_rows.specs.Stopping.{HavePool}
use Rattle.wgr_rows.proofs.NetworkRows.{row_from}

-- ---- distinct elements of a list are no more than it is long

module _ {A : Type 0} where
  without : (ys : List A) (x : A) → Has ys x → List A
  without [] x h = absurd h
  without (y ∷ ys) x (inl is) = ys
  without (y ∷ ys) x (inr h) = y ∷ without ys x h

  one_less : (ys : List A) (x : A) (h : Has ys x) → length (without ys x h) + 1 ≡ length ys
  unfolding without
  one_less [] x h = absurd h
  one_less (y ∷ ys) x (inl is) = omega arith
  one_less (y ∷ ys) x (inr h) = let e = one_less ys x h in omega (arith, e)

  still_there : (ys : List A) (x a : A) (h : Has ys x) → Has ys a → (x ≡ a → ⊥) → Has (without ys x h) a
  unfolding without
  still_there [] x a h k other = absurd h
  still_there (y ∷ ys) x a (inl is) (inl same) other = absurd (other (sym is ∙ same))
  still_there (y ∷ ys) x a (inl is) (inr k) other = k
  still_there (y ∷ ys) x a (inr h) (inl same) other = inl same
  still_there (y ∷ ys) x a (inr h) (inr k) other = inr (still_there ys x a h k other)

  module _ {K : Type 0} (key : A → K) (same : K → K → Bool) (itself : (k : K) → same k k ≡ true) where
    apart_at : (x a : A) (xs : List A) → AllByRecursion (λ k. same (key x) k ≡ false) (map key xs) → Has xs a → x ≡ a → ⊥
    apart_at x a [] all h is = h
    apart_at x a (y ∷ xs) all (inl e) is = true≢false (sym (itself (key x)) ∙ ap (λ z. same (key x) (key z)) (is ∙ sym e) ∙ all.0)
    apart_at x a (y ∷ xs) all (inr h) is = apart_at x a xs all.1 h is

    no_longer : (xs ys : List A) → IsDistinct same (map key xs) → ((a : A) → Has xs a → Has ys a) → length xs ≤ length ys
    no_longer [] ys distinct all = omega arith
    no_longer (x ∷ xs) ys distinct all =
        let here = all x (inl refl) in
        let head = IsDistinct-head same (key x) (map key xs) distinct in
        let rest = no_longer xs (without ys x here) (IsDistinct-tail same (key x) (map key xs) distinct) (λ a h. still_there ys x a here (all a (inr h)) (apart_at x a xs head h)) in
        let one = one_less ys x here in
        omega (arith, rest, one)

-- ---- a network's rows

pub few_holds : (t : Tables) (network : ℕ) (pool : PrefixValue) (start : ℕ) → HavePool t network pool → (rows : List AllowedRow) → IsPermutation (filter (is_hold network pool start) t.allowed) rows → length rows ≤ max_holds
few_holds t network pool start have rows same =
    let w = have.row in
    let n = (network_entry_of t w).network in
    let is = rules t have.consistent w have.there in
    let held = filter (is_hold network pool start) t.allowed in
    let own = map (address_row w.id) n.peers in
    let routed = map (route_row w.id) n.routes in
    let each : (a : AllowedRow) → Has held a → Has (own ++ routed) a = (λ a h.
    let it = from_filter (is_hold network pool start) t.allowed a h in
    elim (row_from t have.consistent w have.there a it.0 (network_is a it.1 ∙ sym have.id_is)) [
      | inl x ↦ has_left own routed a (put (address_row w.id) n.peers x.0 a x.1 x.2)
      | inr x ↦ has_right own routed a (put (route_row w.id) n.routes x.0 a x.1 x.2)
    ]) in
    let few = no_longer allowed_key same_allowed allowed_self held (own ++ routed) (distinct_filter same_allowed allowed_key (is_hold network pool start) t.allowed have.consistent.rows.keyed.allowed_keys) each in
    let long = length_permutation held rows same in
    let both = length-append own routed in
    let peers = length-map n.peers (address_row w.id) in
    let routes = length-map n.routes (route_row w.id) in
    let room = is.room in
    let most = is.capacity.1 in
    let few_routes = is.few_routes in
    omega (arith, few, long, both, peers, routes, room, most, few_routes)
  where
    put : {A B : Type 0} (f : A → B) (xs : List A) (x : A) (b : B) → Has xs x → f x ≡ b → Has (map f xs) b
    put f xs x b h is = subst (Has (map f xs)) is (has_map f xs x h)

    network_is : (a : AllowedRow) → is_hold network pool start a ≡ true → a.network ≡ network
    network_is a h = eqb-true a.network network (and_true (nat_eq a.network network) _ h).0
