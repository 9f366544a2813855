-- A query by a key shows one row at most.
use Rattle.std.proofs.Common.{◌≡◌, ◌≤◌, ℕ, List, [], ◌∷◌, length, map, filter, nat_eq, Bool, true, IsPermutation, inl, inr, refl, sym, ap, ◌∙◌, arith, true≢false, eqb-true}
use Rattle.std.specs.List.{IsDistinct}
use Rattle.std.proofs.lemmas.Map.Keys.{IsDistinct-head}
use Rattle.std.proofs.lemmas.List.Sorted.{IsPermutation-sym, length_permutation}
use Rattle.std.proofs.Math.ListN.{length-map}
use Rattle.sqlite.specs.Order.{Row}
use Rattle.sqlite_rules.specs.Lists as rules
use Rattle.wgr_model.specs.Laws.{Has}
use Rattle.wgr_model.specs.Rows.{NetworkRow}
use Rattle.wgr_model.proofs.GatherLemmas.{eqb_self}
use Rattle.wgr_model.proofs.KeptLemmas.{distinct_filter}
use Rattle.wgr_model.proofs.OrderLemmas.{from_filter}
use Rattle.wgr_model.proofs.SameLemmas.{has_permutation}
use Rattle.wgr_sql.specs.Calls.{AreMany}
use Rattle.wgr_columns.specs.Decode.{network_in}

few : {A B : Type 0} (e : B → B → Bool) (f : A → B) (xs : List A) → IsDistinct e (map f xs) → ((a b : A) → Has xs a → Has xs b → e (f a) (f b) ≡ true) → length xs ≤ 1
few e f [] apart same = omega arith
few e f (x ∷ []) apart same = omega arith
few e f (x ∷ y ∷ more) apart same = absurd (true≢false (sym (same x y (inl refl) (inr (inl refl))) ∙ (IsDistinct-head e (f x) (map f (y ∷ more)) apart).0))

in_map : {A B : Type 0} (f : A → B) (xs : List A) (a : A) → rules.Has xs a → Has (map f xs) (f a)
in_map f [] a h = absurd h
in_map f (x ∷ xs) a (inl e) = inl (ap f (sym e))
in_map f (x ∷ xs) a (inr h) = inr (in_map f xs a h)

-- rows that are those of the elements that pass
module _ {T : Type 0} (in_ : Row → T) (q : T → Bool) (ts : List T) (rows : List Row) (same : IsPermutation (filter q ts) (map in_ rows)) where
  pub few_rows : {B : Type 0} (e : B → B → Bool) (f : T → B) → IsDistinct e (map f ts) → ((a b : T) → q a ≡ true → q b ≡ true → e (f a) (f b) ≡ true) → length rows ≤ 1
  few_rows e f apart tells =
      let short = few e f (filter q ts) (distinct_filter e f q ts apart) (λ a b h k. tells a b (from_filter q ts a h).1 (from_filter q ts b k).1) in
      let long : length (map in_ rows) ≡ length (filter q ts) = length_permutation _ _ same in
      omega (arith, short, long, length-map rows in_)

  pub row_there : (r : Row) → rules.Has rows r → Has ts (in_ r)
  row_there r here = (from_filter q ts (in_ r) (has_permutation (map in_ rows) (filter q ts) (in_ r) (IsPermutation-sym _ _ same) (in_map in_ rows r here))).0

-- no two rows are those of one network's id
pub never_many : (id : ℕ) (ws : List NetworkRow) (rows : List Row) → IsPermutation (filter (λ w. nat_eq w.id id) ws) (map network_in rows) → IsDistinct nat_eq (map (λ w. w.id) ws) → AreMany rows → ⊥
never_many id ws [] listed apart many = many
never_many id ws (r ∷ []) listed apart many = many
never_many id ws (r ∷ s ∷ more) listed apart many =
    let short = few_rows network_in (λ w. nat_eq w.id id) ws (r ∷ s ∷ more) listed nat_eq (λ w. w.id) apart (λ a b p q. ap (λ n. nat_eq n b.id) (eqb-true a.id id p ∙ sym (eqb-true b.id id q)) ∙ eqb_self b.id) in
    omega (arith, short)
