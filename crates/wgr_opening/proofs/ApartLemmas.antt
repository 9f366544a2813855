-- Lists whose elements are apart where those of each part are.
use Rattle.std.proofs.Common.{◌≡◌, Bool, true, false, cond, ◌&&◌, List, [], ◌∷◌, map, filter, refl, ap, subst, inl, inr}
use Rattle.std.specs.List.{IsDistinct}
use Rattle.std.proofs.lemmas.Map.Keys.{IsDistinct-cons, IsDistinct-head, IsDistinct-tail}
use Rattle.wgr_model.specs.Laws.{Has}
use Rattle.wgr_model.proofs.ExistLemmas.{none_distinct, apart_from}
use Rattle.wgr_model.proofs.GatherLemmas.{in_filter}
use Rattle.wgr_model.proofs.HolderLemmas.{head_apart}

module _ {A B : Type 0} (e : B → B → Bool) (f : A → B) where
  without_head : (c : Bool) (x : A) (ys : List A) → IsDistinct e (map f (cond c (x ∷ ys) ys)) → IsDistinct e (map f ys)
  without_head true x ys u = IsDistinct-tail e (f x) (map f ys) u
  without_head false x ys u = u

  -- each element is in its own part, and elements of two parts are apart
  pub by_parts : (part : A → A → Bool) → ((a : A) → part a a ≡ true) → (xs : List A) → ((a : A) → Has xs a → IsDistinct e (map f (filter (part a) xs)))
      → ((a b : A) → Has xs a → Has xs b → part a b ≡ false → e (f a) (f b) ≡ false) → IsDistinct e (map f xs)
  by_parts part own [] each cross = none_distinct e f
  by_parts part own (x ∷ xs) each cross = IsDistinct-cons e (f x) (map f xs) (apart_from e f (f x) xs (λ b h. head b h (part x b) refl))
      (by_parts part own xs (λ a h. without_head (part a x) x (filter (part a) xs) (each a (inr h))) (λ a b h k. cross a b (inr h) (inr k)))
    where
      mine : IsDistinct e (map f (x ∷ filter (part x) xs))
      mine = subst (λ c. IsDistinct e (map f (cond c (x ∷ filter (part x) xs) (filter (part x) xs)))) (own x) (each x (inl refl))

      head : (b : A) → Has xs b → (c : Bool) → part x b ≡ c → e (f x) (f b) ≡ false
      head b h true same = head_apart f e (f x) (filter (part x) xs) b (IsDistinct-head e (f x) (map f (filter (part x) xs)) mine) (in_filter (part x) xs b h same)
      head b h false other = cross x b (inl refl) (inr h) other

pub filter_both : {A : Type 0} (p q : A → Bool) (xs : List A) → filter p (filter q xs) ≡ filter (λ a. p a && q a) xs
filter_both {A = A} p q [] = refl
filter_both {A = A} p q (x ∷ xs) =
    let r : A → Bool = λ a. p a && q a in
    let rest = filter_both p q xs in
    elim (q x) as (λ c. filter p (cond c (x ∷ filter q xs) (filter q xs)) ≡ cond (p x && c) (x ∷ filter r xs) (filter r xs)) [
      | true ↦ elim (p x) as (λ d. cond d (x ∷ filter p (filter q xs)) (filter p (filter q xs)) ≡ cond (d && true) (x ∷ filter r xs) (filter r xs)) [ true ↦ ap (λ l. x ∷ l) rest | false ↦ rest ]
      | false ↦ elim (p x) as (λ d. filter p (filter q xs) ≡ cond (d && false) (x ∷ filter r xs) (filter r xs)) [ true ↦ rest | false ↦ rest ]
    ]
