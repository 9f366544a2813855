-- What is found in a cache after a value was put or taken.
use Rattle.std.proofs.Common.{◌≡◌, ℕ, zero, suc, ◌-◌, Bool, true, false, ◌⊎◌, cond, List, [], ◌∷◌, take, Option, Some, None, nat_eq, refl, sym, ap, subst, ◌∙◌, inl, inr, eqb-true}
use Rattle.std.specs.Cmp.{nat_eq_equiv}
use Rattle.std.specs.List.{IsDistinct}
use Rattle.std.specs.Map.{AreApart, keys_of, lookup, lookup_entry, remove_entry}
use Rattle.std.specs.Option.{option_map_or}
use Rattle.std.proofs.lemmas.Map.{lookup-remove_entry}
use Rattle.lru.specs.LruCache.{LruCache, put_entries}
use Rattle.lru.proofs.CallerLemmas.{Contains-lookup_entry, lookup-put_entries}
use Rattle.wgr_model.proofs.SameLemmas.{eqb_sym}

pub apart : (id other : ℕ) → nat_eq id other ≡ false → AreApart (nat_eq id) (nat_eq other)
apart id other off key is = ap (nat_eq other) (sym (eqb-true id key is)) ∙ eqb_sym other id ∙ off

cond_true : {A : Type 0} {b : Bool} (x y : A) → b ≡ true → cond b x y ≡ x
cond_true x y is = ap (λ b. cond b x y) is

cond_false : {A : Type 0} {b : Bool} (x y : A) → b ≡ false → cond b x y ≡ y
cond_false x y is = ap (λ b. cond b x y) is

module _ {V : Type 0} where
  -- what stands under another key stays
  pub lookup_rest : (test other : ℕ → Bool) → AreApart test other → (kept : List (ℕ × V)) → lookup other (remove_entry test kept) ≡ lookup other kept
  lookup_rest test other off [] = refl
  lookup_rest test other off (e ∷ kept) = (elim (test e.0) as (λ b. test e.0 ≡ b → lookup other (remove_entry test (e ∷ kept)) ≡ lookup other (e ∷ kept)) [
    | true ↦ λ is. ap (lookup other) (cond_true kept _ is) ∙ sym (cond_false _ _ (off e.0 is))
    | false ↦ λ is. ap (lookup other) (cond_false kept _ is) ∙ ap (cond (other e.0) (Some e.1)) (lookup_rest test other off kept)
  ]) refl

  in_first : (test : ℕ → Bool) (count : ℕ) (kept : List (ℕ × V)) (v : V) → lookup test (take count kept) ≡ Some v → lookup test kept ≡ Some v
  in_first test zero kept v found = cc
  in_first test (suc count) [] v found = found
  in_first test (suc count) (e ∷ kept) v found = (elim (test e.0) as (λ b. test e.0 ≡ b → lookup test (e ∷ kept) ≡ Some v) [
    | true ↦ λ is. cond_true _ _ is ∙ sym (cond_true _ _ is) ∙ found
    | false ↦ λ is. cond_false _ _ is ∙ in_first test count kept v (sym (cond_false _ _ is) ∙ found)
  ]) refl

  module _ (c : LruCache ℕ V) (key : ℕ) (v : V) where
    abbrev entries : Option (ℕ × V) → List (ℕ × V)
    entries o = option_map_or (λ e. (e.0, v) ∷ remove_entry (nat_eq key) c.entries) o ((key, v) ∷ take (c.cap - 1) c.entries)

    other_put : (other : ℕ) (w : V) (o : Option (ℕ × V)) → nat_eq key other ≡ false → lookup_entry (nat_eq key) c.entries ≡ o → lookup (nat_eq other) (entries o) ≡ Some w → lookup (nat_eq other) c.entries ≡ Some w
    other_put other w None off is found = in_first (nat_eq other) (c.cap - 1) c.entries w (sym (cond_false _ _ (eqb_sym other key ∙ off)) ∙ found)
    other_put other w (Some e) off is found =
        let test = apart key other off in
        sym (lookup_rest (nat_eq key) (nat_eq other) test c.entries)
        ∙ sym (cond_false _ _ (test e.0 (Contains-lookup_entry (nat_eq key) c.entries e is).1))
        ∙ found

    -- what is found was put, or was found before
    pub found_put : (other : ℕ) (w : V) → lookup (nat_eq other) (put_entries nat_eq c key v) ≡ Some w → ((key ≡ other) × (v ≡ w)) ⊎ ((nat_eq key other ≡ false) × (lookup (nat_eq other) c.entries ≡ Some w))
    found_put other w found = (elim (nat_eq key other) as (λ b. nat_eq key other ≡ b → ((key ≡ other) × (v ≡ w)) ⊎ ((nat_eq key other ≡ false) × (lookup (nat_eq other) c.entries ≡ Some w))) [
      | true ↦ λ is.
          let same = eqb-true key other is in
          let found_here = subst (λ i. lookup (nat_eq i) (put_entries nat_eq c key v) ≡ Some w) (sym same) found in
          let put : lookup (nat_eq key) (put_entries nat_eq c key v) ≡ Some v = lookup-put_entries nat_eq c key v nat_eq_equiv in
          let both : Some v ≡ Some w = sym put ∙ found_here in
          let value : v ≡ w = cc in
          inl (same, value)
      | false ↦ λ off. inr (off, other_put other w (lookup_entry (nat_eq key) c.entries) off refl found)
    ]) refl

  -- what is found once a value was taken stands under another key, and was found before
  pub found_rest : (key other : ℕ) (kept : List (ℕ × V)) → IsDistinct nat_eq (keys_of kept) → (w : V) → lookup (nat_eq other) (remove_entry (nat_eq key) kept) ≡ Some w → (nat_eq key other ≡ false) × (lookup (nat_eq other) kept ≡ Some w)
  found_rest key other kept distinct w found = (elim (nat_eq key other) as (λ b. nat_eq key other ≡ b → (nat_eq key other ≡ false) × (lookup (nat_eq other) kept ≡ Some w)) [
    | true ↦ λ is. let gone = sym (left ∙ ap (λ b. cond b None (lookup (nat_eq other) kept)) is) ∙ found in cc
    | false ↦ λ off. (off, sym (left ∙ ap (λ b. cond b None (lookup (nat_eq other) kept)) off) ∙ found)
  ]) refl where
    left : lookup (nat_eq other) (remove_entry (nat_eq key) kept) ≡ cond (nat_eq key other) None (lookup (nat_eq other) kept)
    left = lookup-remove_entry nat_eq_equiv (nat_eq key) (λ x y is. ap (λ k. nat_eq k y) (eqb-true key x is)) other kept distinct
