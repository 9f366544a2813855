-- What some items say, where it is known only that a proof of it exists. It is unique, so a value
-- may hold it as a ghost.
use Rattle.std.specs.Prelude.{◌≡◌, List}
use Rattle.std.specs.Coded.{Coded, Coded-set, coded_list}
use Rattle.std.proofs.Common.{subst, sym, ap}
use Rattle.std.proofs.Math.Logic.{∥∥₁_elim, ∥∥₁_prop}
use mathlib.Core.HLevel.{Σ_prop_path}
use Rattle.wgr_dump.specs.Fields.{OneByOne}
use Rattle.wgr_dump.specs.Unique.{one_each}

abbrev pub Meant : {A B : Type 0} → (A → B → Type 0) → List A → Type 0
Meant {B = B} R xs = (ys : List B) × ∥ OneByOne R xs ys ∥₁

-- the list that the items say
unfoldable pub meant : {A B : Type 0} (R : A → B → Type 0) (xs : List A) → Meant R xs → List B
meant R xs t = t.0

-- an item says at most one value
abbrev pub SaysOne : {A B : Type 0} → (A → B → Type 0) → Type 0
SaysOne {A} {B} R = (x : A) (y z : B) → R x y → R x z → y ≡ z

module _ {A B : Type 0} (R : A → B → Type 0) (code : Coded B) (one : SaysOne R) where
  same_list : (xs : List A) (ys zs : List B) → ∥ OneByOne R xs ys ∥₁ → ∥ OneByOne R xs zs ∥₁ → ys ≡ zs
  same_list xs ys zs a b = ∥∥₁_elim a (Coded-set (coded_list code) _ _) (λ y. ∥∥₁_elim b (Coded-set (coded_list code) _ _) (λ z. one_each R one xs ys zs y z))

  pub Meant-prop : (xs : List A) → IsProp (Meant R xs)
  Meant-prop xs a b = Σ_prop_path (λ v. ∥∥₁_prop) (same_list xs a.0 b.0 a.1 b.1)

  -- the list of `meant` is the only one that the items say
  pub meant_same : (xs : List A) (t : Meant R xs) (ys : List B) → ∥ OneByOne R xs ys ∥₁ → meant R xs t ≡ ys
  unfolding meant
  meant_same xs t ys say = same_list xs t.0 ys t.1 say

  -- the items say the list of `meant`
  pub meant_said : (xs : List A) (t : Meant R xs) (ys : List B) → OneByOne R xs ys → OneByOne R xs (meant R xs t)
  meant_said xs t ys say = subst (λ v. OneByOne R xs v) (sym (meant_same xs t ys ∣ say ∣₁)) say

  -- and it doesn't depend on the proof
  pub meant_again : (xs : List A) (t u : Meant R xs) → meant R xs t ≡ meant R xs u
  meant_again xs t u = ap (meant R xs) (Meant-prop xs t u)
