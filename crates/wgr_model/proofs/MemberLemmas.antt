-- Lists with keys apart and the same elements are one list in some order.
use Rattle.std.proofs.Common.{◌≡◌, Bool, true, false, List, [], ◌∷◌, ◌++◌, map, refl, sym, ap, subst, ◌∙◌, true≢false, inl, inr, IsPermutation}
use Rattle.std.specs.List.{IsDistinct, AllByRecursion}
use Rattle.std.proofs.lemmas.Map.Keys.{IsDistinct-head, IsDistinct-tail, IsDistinct-cons}
use Rattle.std.proofs.lemmas.List.Sorted.{IsPermutation-refl, IsPermutation-sym, IsPermutation-trans, IsPermutation-cons, IsPermutation-middle}
use Rattle.wgr_model.specs.Laws.{Has}
use Rattle.wgr_model.specs.Rows.{HaveSame}
use Rattle.wgr_model.proofs.CollectLemmas.{from_append, has_left, has_right}
use Rattle.wgr_model.proofs.HolderLemmas.{head_apart}

split_at : {A : Type 0} (ys : List A) (x : A) → Has ys x → (before : List A) × (later : List A) × (ys ≡ before ++ x ∷ later)
split_at [] x h = elim h [ ]
split_at (y ∷ ys) x (inl e) = ([], ys, ap (λ z. z ∷ ys) e)
split_at (y ∷ ys) x (inr h) = let r = split_at ys x h in (y ∷ r.0, r.1, ap (λ zs. y ∷ zs) r.2)

module _ {A B : Type 0} (f : A → B) (e : B → B → Bool) (itself : (b : B) → e b b ≡ true) (flips : (a b : B) → e a b ≡ e b a) where
  all_without : (P : B → Type 0) (before : List A) (x : A) (later : List A) → AllByRecursion P (map f (before ++ x ∷ later)) → AllByRecursion P (map f (before ++ later))
  all_without P [] x later all = all.1
  all_without P (b ∷ before) x later all = (all.0, all_without P before x later all.1)

  all_at : (P : B → Type 0) (before : List A) (x : A) (later : List A) → AllByRecursion P (map f (before ++ x ∷ later)) → P (f x)
  all_at P [] x later all = all.0
  all_at P (b ∷ before) x later all = all_at P before x later all.1

  without : (before : List A) (x : A) (later : List A) → IsDistinct e (map f (before ++ x ∷ later)) → IsDistinct e (map f (before ++ later))
  without [] x later u = IsDistinct-tail e (f x) (map f later) u
  without (b ∷ before) x later u = IsDistinct-cons e (f b) (map f (before ++ later)) (all_without (λ y. e (f b) y ≡ false) before x later (IsDistinct-head e (f b) (map f (before ++ x ∷ later)) u)) (without before x later (IsDistinct-tail e (f b) (map f (before ++ x ∷ later)) u))

  -- what stands twice isn't apart
  gone : (before : List A) (x : A) (later : List A) → IsDistinct e (map f (before ++ x ∷ later)) → Has (before ++ later) x → ⊥
  gone [] x later u h = true≢false (sym (itself (f x)) ∙ head_apart f e (f x) later x (IsDistinct-head e (f x) (map f later) u) h)
  gone (b ∷ before) x later u (inl s) = true≢false (sym (itself (f x)) ∙ ap (λ z. e (f z) (f x)) (sym s) ∙ all_at (λ y. e (f b) y ≡ false) before x later (IsDistinct-head e (f b) (map f (before ++ x ∷ later)) u))
  gone (b ∷ before) x later u (inr h) = gone before x later (IsDistinct-tail e (f b) (map f (before ++ x ∷ later)) u) h

  pub permuted : (xs ys : List A) → IsDistinct e (map f xs) → IsDistinct e (map f ys) → HaveSame xs ys → IsPermutation xs ys
  permuted [] [] u v same = IsPermutation-refl []
  permuted [] (y ∷ ys) u v same = elim ((same y).1 (inl refl)) [ ]
  permuted (x ∷ xs) ys u v same =
      let s = split_at ys x ((same x).0 (inl refl)) in
      let w : IsDistinct e (map f (s.0 ++ x ∷ s.1)) = subst (λ zs. IsDistinct e (map f zs)) s.2 v in
      subst (λ zs. IsPermutation (x ∷ xs) zs) (sym s.2)
      (IsPermutation-trans (x ∷ xs) (x ∷ (s.0 ++ s.1)) (s.0 ++ x ∷ s.1)
      (IsPermutation-cons x xs (s.0 ++ s.1) (permuted xs (s.0 ++ s.1) (IsDistinct-tail e (f x) (map f xs) u) (without s.0 x s.1 w) (λ a. (
        (λ h. elim (from_append s.0 (x ∷ s.1) a (subst (λ zs. Has zs a) s.2 ((same a).0 (inr h)))) [
          | inl k ↦ has_left s.0 s.1 a k
          | inr k ↦ elim k [
            | inl is ↦ absurd (true≢false (sym (itself (f x)) ∙ ap (λ z. e (f x) (f z)) is ∙ head_apart f e (f x) xs a (IsDistinct-head e (f x) (map f xs) u) h))
            | inr more ↦ has_right s.0 s.1 a more
          ]
        ]),
        (λ h. elim ((same a).1 (subst (λ zs. Has zs a) (sym s.2) (wider s.0 s.1 x a h))) [
          | inl is ↦ absurd (gone s.0 x s.1 w (subst (Has (s.0 ++ s.1)) (sym is) h))
          | inr k ↦ k
        ]),
      ))))
      (IsPermutation-sym (s.0 ++ x ∷ s.1) (x ∷ (s.0 ++ s.1)) (IsPermutation-middle s.0 x s.1)))
    where
      wider : (before later : List A) (x a : A) → Has (before ++ later) a → Has (before ++ x ∷ later) a
      wider [] later x a h = inr h
      wider (b ∷ before) later x a (inl k) = inl k
      wider (b ∷ before) later x a (inr h) = inr (wider before later x a h)
