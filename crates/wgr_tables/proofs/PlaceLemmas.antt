-- The item at a place of a list that is made of another.
use Rattle.std.proofs.Common.{◌≡◌, ◌+◌, ◌<◌, ℕ, suc, zero, List, [], ◌∷◌, ◌++◌, map, take, length, get_or, sym, ap, ap₂, ◌∙◌, arith}
use Rattle.std.proofs.lemmas.List.{map-append, take_more}
use Rattle.std.specs.List.{AllByRecursion}

pub made_at : {A B : Type 0} (P : A → Type 0) (f : A → B) (xs : List A) → AllByRecursion P xs → (k : ℕ) (r : B) → k < length xs → r ≡ get_or (map f xs) k r → (x : A) × P x × (r ≡ f x)
made_at P f [] all k r low is = absurd (omega (arith, low))
made_at P f (x ∷ xs) all zero r low is = (x, all.0, is)
made_at P f (x ∷ xs) all (suc k) r low is = made_at P f xs all.1 k r (omega (arith, low)) is

pub both_at : {A B C : Type 0} (P : A → Type 0) (f : A → B) (g : A → C) (xs : List A) → AllByRecursion P xs → (k : ℕ) (r : B) (s : C) → k < length xs → r ≡ get_or (map f xs) k r → s ≡ get_or (map g xs) k s → (x : A) × P x × (r ≡ f x) × (s ≡ g x)
both_at P f g [] all k r s low is same = absurd (omega (arith, low))
both_at P f g (x ∷ xs) all zero r s low is same = (x, all.0, is, same)
both_at P f g (x ∷ xs) all (suc k) r s low is same = both_at P f g xs all.1 k r s (omega (arith, low)) is same

-- one more item is made of the next
pub one_longer : {X Y Z : Type 0} (f : X → Z) (g : Y → Z) (xs : List X) (ys : List Y) (at : ℕ) (x : X) (y : Y) → at < length xs → x ≡ get_or xs at x → g y ≡ f x → map g ys ≡ map f (take at xs) → map g (ys ++ y ∷ []) ≡ map f (take (at + 1) xs)
one_longer f g xs ys at x y low is value so_far =
    map-append g ys (y ∷ []) ∙ ap₂ (λ l z. l ++ z ∷ []) so_far (value ∙ ap f is) ∙ sym (map-append f (take at xs) (get_or xs at x ∷ [])) ∙ sym (ap (map f) (take_more xs at x low))
