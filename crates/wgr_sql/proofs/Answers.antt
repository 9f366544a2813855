-- What a plain SELECT answers.
use Rattle.std.proofs.Common.{◌≡◌, ℕ, ◌+◌, ◌-◌, ◌^◌, List, [], ◌∷◌, length, map, filter, get_or, set, swap, Bool, true, false, if◌then◌else◌, None, unwrap_or, flat_map, slice_get, nat_le, ◌++◌, IsSortedBy, is_lt, refl, sym, ap, subst, ◌∙◌, IsPermutation, IsSorted, arith}
use Rattle.std.proofs.lemmas.List.{map-set}
use Rattle.std.proofs.Math.ListN.{get_or-map, length-map}
use Rattle.std.proofs.lemmas.List.Sorted.{IsPermutation-refl, IsPermutation-swap, IsPermutation-trans, IsPermutation-keeps}
use Rattle.sqlite.specs.declared.types.Value.TheVariants.{Null}
use Rattle.sqlite.specs.Order.{Row}
use Rattle.sqlite.specs.Term.{Term}
use Rattle.sqlite.specs.Query.{IsAnswer, output, output_cmp, Output}
use Rattle.sqlite.specs.Program.{overlay}
use Rattle.sqlite.specs.Tree.{Trees}
use Rattle.sqlite_value.specs.declared.keys.Key.{Key}
use Rattle.sqlite_sql.specs.Program.{IsProgramAnswer}
use Rattle.wgr_sql.specs.Effects.{plain_query, passing, Lists}

abbrev nothing : List (List Row)
nothing = []

no_table : (b : Bool) (i : ℕ) (rows : List Row) → unwrap_or (if b then slice_get nothing i else None) rows ≡ rows
no_table true i rows = refl
no_table false i rows = refl

overlay_none : (db : Trees) (t : ℕ) → overlay db [] t ≡ db t
overlay_none db t = no_table (nat_le (2 ^ 31) t) (t - 2 ^ 31) (db t)

module _ {X Y : Type 0} (f : X → Y) where
  map-swap : (xs : List X) (i j : ℕ) → map f (swap xs i j) ≡ swap (map f xs) i j
  map-swap [] i j = refl
  map-swap (d ∷ ys) i j = map-set f (set (d ∷ ys) i (get_or (d ∷ ys) j d)) j (get_or (d ∷ ys) i d)
      ∙ (λ k. set ((map-set f (d ∷ ys) i (get_or (d ∷ ys) j d) ∙ ap (set (map f (d ∷ ys)) i) (sym (get_or-map f (d ∷ ys) j d))) k) j (sym (get_or-map f (d ∷ ys) i d) k))

  -- an order of what is shown comes from an order of what shows it
  pub from_map : (xs : List X) (ys : List Y) → IsPermutation (map f xs) ys → (zs : List X) × IsPermutation xs zs × (ys ≡ map f zs)
  from_map xs ys p = IsPermutation-keeps (map f xs) (λ l. (zs : List X) × IsPermutation xs zs × (l ≡ map f zs)) (xs, IsPermutation-refl xs, refl)
      (λ l i j low high h.
      let long : length l ≡ length h.0 = rw (h.2, length-map) in
      (swap h.0 i j, IsPermutation-trans xs h.0 (swap h.0 i j) h.1 (IsPermutation-swap h.0 (swap h.0 i j) i j (omega (arith, long)) (omega (arith, long)) refl), ap (λ m. swap m i j) h.2 ∙ sym (map-swap h.0 i j)))
      ys p

picked : {X Y : Type 0} (p : X → Bool) (f : X → Y) (xs : List X) → flat_map (λ x. if p x then f x ∷ [] else []) xs ≡ map f (filter p xs)
picked p f [] = refl
picked p f (x ∷ xs) = elim (p x) as (λ b. (if b then f x ∷ [] else []) ++ flat_map (λ x. if p x then f x ∷ [] else []) xs ≡ map f (if b then x ∷ filter p xs else filter p xs))
    [ true ↦ ap (λ l. f x ∷ l) (picked p f xs) | false ↦ picked p f xs ]

pub map-both : {X Y Z : Type 0} (f : X → Y) (g : Y → Z) (xs : List X) → map g (map f xs) ≡ map (λ x. g (f x)) xs
map-both f g [] = refl
map-both f g (x ∷ xs) = ap (λ l. g (f x) ∷ l) (map-both f g xs)

sorted_by : {X Y : Type 0} (f : X → Y) (lt : Y → Y → Bool) (xs : List X) → IsSortedBy lt (map f xs) → IsSortedBy (λ a b. lt (f a) (f b)) xs
sorted_by f lt xs up k d low high =
    let same = λ (i : ℕ). get_or-map f xs i d in
    rw (same (k + 1), same k) at (up k (f d) low (omega (arith, length-map xs f)))

pub answers : (tree : ℕ) (terms project : List Term) (order : List (Term × Key)) (db : Trees) (params : Row) (rows : List Row)
    → IsProgramAnswer [] (plain_query tree terms project order) db params rows → Lists terms project order params (db tree) rows
answers tree terms project order db params rows h =
    let q = plain_query tree terms project order in
    let a : IsAnswer q (overlay db []) params rows = h Null in
    let show = λ (r : Row). output q (params ∷ r ∷ []) in
    let found : a.kept ≡ map show (passing terms params (db tree)) =
    a.distinct ∙ ap (map (output q)) (a.grouped ∙ ap (flat_map _) (overlay_none db tree) ∙ picked _ (λ r. params ∷ r ∷ []) (db tree)) ∙ map-both _ (output q) _ in
    let back = from_map show _ a.ordered (subst (λ k. IsPermutation k a.ordered) found a.same) in
    record {
      chosen = back.0;
      same = back.1;
      sorted = sorted_by show (λ x y. is_lt (output_cmp q x y)) back.0 (subst (IsSorted (output_cmp q)) back.2 a.sorted);
      shown = a.shown ∙ ap (map (λ (o : Output). o.1)) back.2 ∙ map-both show _ back.0;
    }
