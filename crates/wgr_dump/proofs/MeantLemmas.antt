-- How what is meant goes from thing to thing.
use Rattle.std.proofs.Common.{◌≡◌, ℕ, List, [], ◌∷◌, length, drop, Option, Some, None, MatchOption, IfSome, IfNone, sym, ap, subst, ◌∙◌, arith}
use Rattle.std.specs.Borrow.{Bor}
use Rattle.std.specs.Coded.{Coded}
use Rattle.std.specs.Iterator.{MakesProgress, item_count, YieldsFirst}
use Rattle.std.proofs.Math.Logic.{∥∥₁_elim, ∥∥₁_map}
use mathlib.Core.HLevel.{⊥_prop}
use Rattle.wgr_dump.specs.Fields.{OneByOne}
use Rattle.wgr_dump.specs.Meant.{Meant, meant, SaysOne, meant_same}

module _ {A B : Type 0} (R : A → B → Type 0) where
  each_tail : (x : A) (xs : List A) (ys : List B) → OneByOne R (x ∷ xs) ys → OneByOne R xs (drop 1 ys)
  each_tail x xs [] e = absurd e
  each_tail x xs (y ∷ ys) e = e.1

  meant_tail : (x : A) (xs : List A) → Meant R (x ∷ xs) → Meant R xs
  meant_tail x xs t = (drop 1 t.0, ∥∥₁_map t.1 (each_tail x xs t.0))

  -- what is meant of the things after the first
  pub meant_after : (x : A) (old new : List A) → old ≡ x ∷ new → Meant R old → Meant R new
  meant_after x old new is t = meant_tail x new (subst (λ xs. Meant R xs) is t)

  says_some : (x : A) (xs : List A) → ((y : B) → ¬ (R x y)) → (ys : List B) → OneByOne R (x ∷ xs) ys → ⊥
  says_some x xs none [] e = e
  says_some x xs none (y ∷ ys) e = none y e.0

  -- a list that begins with a thing stands beside what the thing says, and so on
  pub each_first : (x : A) (old new : List A) → old ≡ x ∷ new → (ys : List B) → OneByOne R old ys → (y : B) × R x y
  each_first x old new is ys e = first ys (subst (λ v. OneByOne R v ys) is e)
    where
      first : (ys : List B) → OneByOne R (x ∷ new) ys → (y : B) × R x y
      first [] e = absurd e
      first (y ∷ ys) e = (y, e.0)

  pub each_rest : (x : A) (old new : List A) → old ≡ x ∷ new → (ys : List B) → OneByOne R old ys → (zs : List B) × OneByOne R new zs
  each_rest x old new is ys e = (drop 1 ys, each_tail x new ys (subst (λ v. OneByOne R v ys) is e))

  pub each_more : (x : A) (old new : List A) → old ≡ x ∷ new → (y : B) → R x y → (ys : List B) → OneByOne R new ys → OneByOne R old (y ∷ ys)
  each_more x old new is y say ys e = subst (λ v. OneByOne R v (y ∷ ys)) (sym is) (say, e)

module _ {B : Type 0} (R : List ℕ → B → Type 0) where
  -- what is meant of the parts after the next
  pub meant_left : (old new : List (List ℕ)) (r : Option (Bor (List ℕ))) → MatchOption r ((old ≡ []) × (new ≡ [])) (λ part. old ≡ part.now ∷ new) → Meant R old → Meant R new
  meant_left old new None h t = subst (λ xs. Meant R xs) (h.0 ∙ sym h.1) t
  meant_left old new (Some part) h t = meant_tail R part.now new (subst (λ xs. Meant R xs) h t)

module _ {A B : Type 0} (R : A → B → Type 0) (code : Coded B) (one : SaysOne R) where
  -- nothing is meant of no things
  pub meant_none : (xs : List A) → xs ≡ [] → (t : Meant R xs) → meant R xs t ≡ []
  meant_none xs is t = meant_same R code one xs t [] ∣ subst (λ v. OneByOne R v []) (sym is) tt ∣₁

  -- what is meant begins with what the first thing says
  pub meant_first : (x : A) (old new : List A) → old ≡ x ∷ new → (t : Meant R old) (g : Meant R new) (y : B) → R x y → meant R old t ≡ y ∷ meant R new g
  unfolding meant
  meant_first x old new is t g y say = meant_same R code one old t (y ∷ g.0) (subst (λ v. ∥ OneByOne R v (y ∷ g.0) ∥₁) (sym is) (∥∥₁_map g.1 (λ e. (say, e))))

  -- and it says something
  pub meant_some : (x : A) (old new : List A) → old ≡ x ∷ new → Meant R old → ((y : B) → ¬ (R x y)) → ⊥
  meant_some x old new is t none = ∥∥₁_elim t.1 ⊥_prop (λ e. says_some R x new none t.0 (subst (λ v. OneByOne R v t.0) is e))

  pub meant_step : (x : A) (old new : List A) → old ≡ x ∷ new → (t : Meant R old) (g : Meant R new) (r : Option B) → IfSome r (R x) → IfNone r ((y : B) → ¬ (R x y)) → MatchOption r ((meant R old t ≡ []) × (meant R new g ≡ [])) (λ y. meant R old t ≡ y ∷ meant R new g)
  meant_step x old new is t g None some none = absurd (meant_some x old new is t none)
  meant_step x old new is t g (Some y) some none = meant_first x old new is t g y some

-- a step along a list makes progress
pub steps_on : {B : Type 0} (can : List B → Type 0) → ((s : List B) → can s) → (s t : List B) (r : Option B) → YieldsFirst (λ ys. ys) s r t → MakesProgress can (item_count (λ ys. ys)) s r t
steps_on can may s t None h = record { on = λ _. tt; keeps = tt; rests = λ _. tt }
steps_on can may s t (Some y) h = record { on = λ _. (may t, tt, omega (arith, ap length h)); keeps = may t; rests = λ _. tt }
