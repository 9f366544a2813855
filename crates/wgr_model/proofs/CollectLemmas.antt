-- Values read back from rows.
use Rattle.std.proofs.Common.{◌≡◌, Bool, true, false, cond, ◌&&◌, List, [], ◌∷◌, ◌++◌, map, filter, find, flat_map, Some, None, Option, T, refl, sym, ap, subst, ◌∙◌, true≢false, option_map, ◌⊎◌, inl, inr, Ordering, Less, Equal, is_eq}
use Rattle.std.specs.List.{IsDistinct, AllByRecursion}
use Rattle.std.specs.List.Sorted.{IsStrictlySortedBy}
use Rattle.std.specs.Ordering.{eq_by_cmp, is_lt}
use Rattle.std.specs.Cmp.{IsTotalOrder, eq_by_cmp_equiv, Equal-is}
use Rattle.std.proofs.lemmas.Map.Keys.{IsDistinct-from_sorted, sorted_head, sorted_tail}
use Rattle.std.specs.FinMap as map_
use Rattle.std.specs.FinMap.{IsAntisymmetric, is_sorted, from_entries, from_sorted, entries, get-from_entries, get-from_sorted, entries-from_sorted, same_map}
use Rattle.std.specs.FinMap.Entries.{below_all}
use Rattle.wgr_model.specs.Laws.{Has}
use Rattle.wgr_model.specs.Rows.{in_order}
use Rattle.wgr_model.proofs.LookLemmas.{none_some}
use Rattle.wgr_model.proofs.SameLemmas.{find_has, has_find}

-- an element of a map or of a joined list
pub has_map : {A B : Type 0} (f : A → B) (xs : List A) (a : A) → Has xs a → Has (map f xs) (f a)
has_map f [] a h = elim h [ ]
has_map f (x ∷ xs) a (inl e) = inl (ap f e)
has_map f (x ∷ xs) a (inr h) = inr (has_map f xs a h)

pub from_map : {A B : Type 0} (f : A → B) (xs : List A) (b : B) → Has (map f xs) b → (a : A) × Has xs a × (f a ≡ b)
from_map f [] b h = elim h [ ]
from_map f (x ∷ xs) b (inl e) = (x, inl refl, e)
from_map f (x ∷ xs) b (inr h) = let r = from_map f xs b h in (r.0, inr r.1, r.2)

pub has_left : {A : Type 0} (xs ys : List A) (a : A) → Has xs a → Has (xs ++ ys) a
has_left [] ys a h = elim h [ ]
has_left (x ∷ xs) ys a (inl e) = inl e
has_left (x ∷ xs) ys a (inr h) = inr (has_left xs ys a h)

pub has_right : {A : Type 0} (xs ys : List A) (a : A) → Has ys a → Has (xs ++ ys) a
has_right [] ys a h = h
has_right (x ∷ xs) ys a h = inr (has_right xs ys a h)

pub from_append : {A : Type 0} (xs ys : List A) (a : A) → Has (xs ++ ys) a → Has xs a ⊎ Has ys a
from_append [] ys a h = inr h
from_append (x ∷ xs) ys a (inl e) = inl (inl e)
from_append (x ∷ xs) ys a (inr h) = elim (from_append xs ys a h) [ inl k ↦ inl (inr k) | inr k ↦ inr k ]

pub has_flat : {A B : Type 0} (f : A → List B) (xs : List A) (a : A) (b : B) → Has xs a → Has (f a) b → Has (flat_map f xs) b
has_flat f [] a b h k = elim h [ ]
has_flat f (x ∷ xs) a b (inl e) k = has_left (f x) (flat_map f xs) b (subst (λ z. Has (f z) b) (sym e) k)
has_flat f (x ∷ xs) a b (inr h) k = has_right (f x) (flat_map f xs) b (has_flat f xs a b h k)

pub from_flat : {A B : Type 0} (f : A → List B) (xs : List A) (b : B) → Has (flat_map f xs) b → (a : A) × Has xs a × Has (f a) b
from_flat f [] b h = elim h [ ]
from_flat f (x ∷ xs) b h = elim (from_append (f x) (flat_map f xs) b h) [ inl k ↦ (x, inl refl, k) | inr k ↦ let r = from_flat f xs b k in (r.0, inr r.1, r.2) ]

is_equal : (r : Ordering) → is_eq r ≡ true → r ≡ Equal
is_equal r h = (Equal-is r).0 h

both_true : (a b : Bool) → (a && b) ≡ true → (a ≡ true) × (b ≡ true)
both_true true b h = (refl, h)
both_true false b h = absurd (true≢false (sym h))

-- a list in order is its own sorting
module _ {K V : Type 0} (R : K → K → Ordering) (o : IsTotalOrder R) (anti : IsAntisymmetric R) (k : V → K) where
  pairs : List V → List (K × V)
  pairs xs = map {B = K × V} (λ v. (k v, v)) xs

  all_below : (x : K) (xs : List V) → AllByRecursion (λ y. R x y ≡ Less) (map k xs) → below_all R x (map {B = K × V} (λ v. (k v, v)) xs) ≡ true
  all_below x [] all = refl
  all_below x (v ∷ xs) all = ap (λ r. is_lt r && below_all R x (map {B = K × V} (λ v. (k v, v)) xs)) all.0 ∙ all_below x xs all.1

  sorted_pairs : (xs : List V) → IsStrictlySortedBy R (map k xs) → is_sorted R (map {B = K × V} (λ v. (k v, v)) xs) ≡ true
  sorted_pairs [] s = refl
  sorted_pairs (v ∷ xs) s = ap (λ b. b && is_sorted R (map {B = K × V} (λ v. (k v, v)) xs)) (all_below (k v) xs (sorted_head R (k v) (map k xs) s)) ∙ sorted_pairs xs (sorted_tail R (k v) (map k xs) s)

  second : (xs : List V) → map (λ e. e.1) (map {B = K × V} (λ v. (k v, v)) xs) ≡ xs
  second [] = refl
  second (v ∷ xs) = ap (λ z. v ∷ z) (second xs)

  pub own_order : (es : List (K × V)) (xs : List V) → IsStrictlySortedBy R (map k xs) → ((q : K) → map_.find R q es ≡ map_.find R q (map {B = K × V} (λ v. (k v, v)) xs)) → in_order R es ≡ xs
  own_order es xs s h =
      let t : T (is_sorted R (map {B = K × V} (λ v. (k v, v)) xs)) = subst T (sym (sorted_pairs xs s)) tt in
      let same = same_map o anti (from_entries {R = R} es) (from_sorted {R = R} (map {B = K × V} (λ v. (k v, v)) xs)) (λ q. get-from_entries o es q ∙ h q ∙ sym (get-from_sorted R (map {B = K × V} (λ v. (k v, v)) xs) q t)) in
      ap (λ m. map (λ e. e.1) (entries m)) same ∙ ap (map (λ e. e.1)) (entries-from_sorted R (map {B = K × V} (λ v. (k v, v)) xs) t) ∙ second xs

  find_pairs : (xs : List V) (q : K) → map_.find R q (map {B = K × V} (λ v. (k v, v)) xs) ≡ find (λ v. eq_by_cmp R q (k v)) xs
  find_pairs [] q = refl
  find_pairs (v ∷ xs) q = ap (cond (eq_by_cmp R q (k v)) (Some v)) (find_pairs xs q)

  -- rows of which those that pass the test are the rows of `xs`
  module _ {A : Type 0} (test : A → Bool) (key : A → K) (value : A → V) (row : V → A) where
    find_rows : (ts : List A) (q : K) → map_.find R q (map {B = K × V} (λ a. (key a, value a)) (filter test ts)) ≡ option_map value (find (λ a. test a && eq_by_cmp R q (key a)) ts)
    find_rows [] q = refl
    find_rows (a ∷ ts) q = by_test (test a) (eq_by_cmp R q (key a)) refl (find_rows ts q) where
      by_test : (b c : Bool) → eq_by_cmp R q (key a) ≡ c → map_.find R q (map {B = K × V} (λ a. (key a, value a)) (filter test ts)) ≡ option_map value (find (λ a. test a && eq_by_cmp R q (key a)) ts) → map_.find R q (map {B = K × V} (λ a. (key a, value a)) (cond b (a ∷ filter test ts) (filter test ts))) ≡ option_map value (cond (b && c) (Some a) (find (λ a. test a && eq_by_cmp R q (key a)) ts))
      by_test false c e rest = rest
      by_test true true e rest = ap (λ b. cond b (Some (value a)) (map_.find R q (map {B = K × V} (λ a. (key a, value a)) (filter test ts)))) e
      by_test true false e rest = ap (λ b. cond b (Some (value a)) (map_.find R q (map {B = K × V} (λ a. (key a, value a)) (filter test ts)))) e ∙ rest

    pub collected : {F : Type 0} (f : A → F) (e : F → F → Bool) → (ts : List A) (xs : List V)
        → ((a b : A) → test a ≡ true → test b ≡ true → key a ≡ key b → e (f a) (f b) ≡ true)
        → IsDistinct e (map f ts) → IsStrictlySortedBy R (map k xs)
        → ((v : V) → Has xs v → Has ts (row v) × (test (row v) ≡ true) × (key (row v) ≡ k v) × (value (row v) ≡ v))
        → ((a : A) → Has ts a → test a ≡ true → (v : V) × Has xs v × (row v ≡ a))
        → in_order R (map {B = K × V} (λ a. (key a, value a)) (filter test ts)) ≡ xs
    collected f e ts xs tells u s to from = own_order (map {B = K × V} (λ a. (key a, value a)) (filter test ts)) xs s (λ q. find_rows ts q ∙ looked q (find (λ v. eq_by_cmp R q (k v)) xs) (find (λ a. test a && eq_by_cmp R q (key a)) ts) refl refl ∙ sym (find_pairs xs q)) where
      same_key : (q x y : K) → eq_by_cmp R q x ≡ true → eq_by_cmp R q y ≡ true → x ≡ y
      same_key q x y h g = sym (anti q x (is_equal (R q x) h)) ∙ anti q y (is_equal (R q y) g)

      in_rows : (q : K) (a b : A) → (test a && eq_by_cmp R q (key a)) ≡ true → (test b && eq_by_cmp R q (key b)) ≡ true → e (f a) (f b) ≡ true
      in_rows q a b h g = let x = both_true (test a) (eq_by_cmp R q (key a)) h in let y = both_true (test b) (eq_by_cmp R q (key b)) g in tells a b x.0 y.0 (same_key q (key a) (key b) x.1 y.1)

      in_values : (q : K) (v w : V) → eq_by_cmp R q (k v) ≡ true → eq_by_cmp R q (k w) ≡ true → eq_by_cmp R (k v) (k w) ≡ true
      in_values q v w h g = sym ((eq_by_cmp_equiv o).congr q (k v) (k w) h) ∙ g

      looked : (q : K) (b : Option V) (c : Option A) → find (λ v. eq_by_cmp R q (k v)) xs ≡ b → find (λ a. test a && eq_by_cmp R q (key a)) ts ≡ c → option_map value (find (λ a. test a && eq_by_cmp R q (key a)) ts) ≡ find (λ v. eq_by_cmp R q (k v)) xs
      looked q (Some v) c h g =
          let x = find_has (λ v. eq_by_cmp R q (k v)) k (eq_by_cmp R) (in_values q) xs v h in
          let y = to v x.0 in
          ap (option_map value) (has_find (λ a. test a && eq_by_cmp R q (key a)) f e (in_rows q) ts (row v) u y.0 (ap (λ b. b && eq_by_cmp R q (key (row v))) y.1 ∙ ap (eq_by_cmp R q) y.2 ∙ x.1)) ∙ ap (λ z. Some z) y.3 ∙ sym h
      looked q None None h g = ap (option_map value) g ∙ sym h
      looked q None (Some a) h g =
          let x = find_has (λ a. test a && eq_by_cmp R q (key a)) f e (in_rows q) ts a g in
          let t = both_true (test a) (eq_by_cmp R q (key a)) x.1 in
          let v = from a x.0 t.0 in
          let there = has_find (λ v. eq_by_cmp R q (k v)) k (eq_by_cmp R) (in_values q) xs v.0 (IsDistinct-from_sorted R (map k xs) s) v.1 (ap (eq_by_cmp R q) (sym ((to v.0 v.1).2) ∙ ap key v.2) ∙ t.1) in
          absurd (none_some (sym h ∙ there))
