-- Routes that come to a network without any: each is put there by adding it.
use Rattle.std.proofs.Common.{◌≡◌, ℕ, List, [], ◌∷◌, nat_eq, Bool, true, false, not, ◌&&◌, cond, IsPermutation, refl, sym, ap, subst, ◌∙◌, inl, inr}
use Rattle.std.specs.List.{filter, AllByRecursion}
use Rattle.std.proofs.lemmas.List.Elements.{recursion_from_All}
use Rattle.std.proofs.lemmas.List.Sorted.{IsPermutation-sym}
use Rattle.wgr_text.specs.Prefix.{PrefixValue}
use Rattle.wgr_pool.proofs.Lists.{AllPairs-head, AllPairs-tail}
use Rattle.wgr_peers.specs.Routes.{Routes, AreOrdered, ComesBefore}
use Rattle.wgr_peers.proofs.RouteLemmas.{not_same}
use Rattle.wgr_model.specs.Laws.{Has}
use Rattle.wgr_model.specs.Rows.{AllowedRow, Tables, family_number, route_row}
use Rattle.wgr_model.proofs.GatherLemmas.{in_filter}
use Rattle.wgr_model.proofs.SameLemmas.{has_permutation}
use Rattle.wgr_sql.specs.Steps.{Each}
use Rattle.wgr_tables.specs.TableSteps.{HasNoRoute, RouteComes, RoutePuts, is_route_at}
use Rattle.wgr_tables.proofs.RouteRests.{false_from, route_test}

all_stay : (q : AllowedRow → Bool) (rows : List AllowedRow) → ((a : AllowedRow) → Has rows a → q a ≡ false) → rows ≡ filter (λ a. not (q a)) rows
all_stay q [] none = refl
all_stay q (a ∷ rows) none = ap (λ l. a ∷ l) (all_stay q rows (λ b here. none b (inr here))) ∙ ap (λ b. cond (not b) (a ∷ filter (λ a. not (q a)) rows) (filter (λ a. not (q a)) rows)) (sym (none a (inl refl)))

module _ (network : ℕ) where
  -- no row leads this prefix anywhere
  abbrev IsFree : List AllowedRow → PrefixValue × ℕ → Type 0
  IsFree rows r = (a : AllowedRow) → Has rows a → is_route_at network r.0 a ≡ false

  still_free : (r : PrefixValue × ℕ) (before after : List AllowedRow) (rs : Routes) → IsPermutation (route_row network r ∷ before) after → AllByRecursion (ComesBefore r) rs → AllByRecursion (IsFree before) rs → AllByRecursion (IsFree after) rs
  still_free r before after [] perm ahead free = tt
  still_free r before after (s ∷ rs) perm ahead free = (
    (λ a here. elim (has_permutation after (route_row network r ∷ before) a (IsPermutation-sym (route_row network r ∷ before) after perm) here) [
      | inl is ↦ subst (λ x. is_route_at network s.0 x ≡ false) is (route_test network s.0 r ∙ not_same s.0 r ahead.0)
      | inr old ↦ free.0 a old
    ]),
    still_free r before after rs perm ahead.1 free.1,
  )

  puts : (rs : Routes) (t u : Tables) → AreOrdered rs → AllByRecursion (IsFree t.allowed) rs → Each (RouteComes network) rs t u → Each (RoutePuts network) rs t u
  puts [] t u ordered free done = done
  puts (r ∷ rs) t u ordered free (m, (real, (rows, perm, is, apart)), later) =
      let none : t ≡ record t { allowed = filter (λ a. not (is_route_at network r.0 a)) t.allowed } = ap (λ l. record t { allowed = l }) (all_stay (is_route_at network r.0) t.allowed free.0) in
      let next : AllByRecursion (IsFree rows) rs = still_free r t.allowed rows rs perm (recursion_from_All (ComesBefore r) rs (AllPairs-head ComesBefore r rs ordered)) free.1 in
      (m, (t, none, (real, (rows, perm, is, apart))), puts rs m u (AllPairs-tail ComesBefore r rs ordered) (subst (λ (x : Tables). AllByRecursion (IsFree x.allowed) rs) (sym is) next) later)

  free_at : (t : Tables) → HasNoRoute network t → (r : PrefixValue × ℕ) → IsFree t.allowed r
  free_at t none r a here = false_from _ (λ led.
      let kept = in_filter (λ b. b.is_route && nat_eq b.network network) t.allowed a here (both (nat_eq a.network network) (nat_eq (family_number a.prefix.address.family) (family_number r.0.address.family)) (nat_eq a.prefix.address.number r.0.address.number) (nat_eq a.prefix.length r.0.length) a.is_route led) in
      elim (subst (λ l. Has l a) none kept) [ ])
    where
      both : (n f l p r : Bool) → (n && (f && (l && (p && r)))) ≡ true → (r && n) ≡ true
      both true true true true true is = refl
      both true true true true false is = absurd cc
      both true true true false r is = absurd cc
      both true true false p r is = absurd cc
      both true false l p r is = absurd cc
      both false f l p r is = absurd cc

  all_free : (t : Tables) → HasNoRoute network t → (rs : Routes) → AllByRecursion (IsFree t.allowed) rs
  all_free t none [] = tt
  all_free t none (r ∷ rs) = (free_at t none r, all_free t none rs)

  pub routes_are_put : (rs : Routes) (t u : Tables) → AreOrdered rs → HasNoRoute network t → Each (RouteComes network) rs t u → Each (RoutePuts network) rs t u
  routes_are_put rs t u ordered none come = puts rs t u ordered (all_free t none rs) come
