-- Walks over a list that keep the items which pass a test.
use Rattle.std.proofs.Common.{◌≡◌, ℕ, ◌+◌, ◌<◌, Bool, true, false, ◌||◌, cond, nat_eq, List, [], ◌∷◌, ◌++◌, length, get_or, map, take, sym, ap, ◌∙◌, arith}
use Rattle.std.specs.List.{filter, list_any}
use Rattle.std.proofs.lemmas.Bool.Decides.{nat_tests}
use Rattle.std.proofs.lemmas.List.{append-nil, map-append}
use Rattle.std.proofs.lemmas.List.Elements.{filter_more}
use Rattle.std.proofs.lemmas.List.Folds.{list_any_more}

pub same_number : (m n : ℕ) → m ≡ n → nat_eq m n ≡ true
same_number m n same = grind (arith, nat_tests)

pub other_number : (m n : ℕ) → (m ≡ n → ⊥) → nat_eq m n ≡ false
other_number m n other = grind (arith, nat_tests)

passed : {X : Type 0} (p : X → Bool) (xs : List X) (i : ℕ) (x : X) (b : Bool) → i < length xs → x ≡ get_or xs i x → p x ≡ b → filter p (take (i + 1) xs) ≡ filter p (take i xs) ++ cond b (x ∷ []) []
passed p xs i x b within at h =
    filter_more p xs i x within
    ∙ ap (λ y. filter p (take i xs) ++ cond (p y) (y ∷ []) []) (sym at)
    ∙ ap (λ b. filter p (take i xs) ++ cond b (x ∷ []) []) h

-- a set has the numbers up to here, and gets the next one
pub walk_inserts : (here there : Bool) (xs : List ℕ) (i n : ℕ) → i < length xs → here ≡ list_any (nat_eq n) (take i xs) → there ≡ cond (nat_eq (get_or xs i 0) n) true here → there ≡ list_any (nat_eq n) (take (i + 1) xs)
walk_inserts here there xs i n within so more =
    more ∙ last_or (get_or xs i 0) n here ∙ ap (λ b. b || nat_eq n (get_or xs i 0)) so ∙ sym (list_any_more (nat_eq n) xs i 0 within)
  where
    last_or : (x n : ℕ) (b : Bool) → cond (nat_eq x n) true b ≡ b || nat_eq n x
    last_or x n b = grind (arith, nat_tests)

-- the next item passes
pub walk_keeps : {X : Type 0} (p : X → Bool) (kept xs : List X) (i : ℕ) (x : X) → i < length xs → x ≡ get_or xs i x → p x ≡ true → kept ≡ filter p (take i xs) → kept ++ x ∷ [] ≡ filter p (take (i + 1) xs)
walk_keeps p kept xs i x within at h so = ap (λ ys. ys ++ x ∷ []) so ∙ sym (passed p xs i x true within at h)

-- it doesn't
pub walk_drops : {X : Type 0} (p : X → Bool) (kept xs : List X) (i : ℕ) (x : X) → i < length xs → x ≡ get_or xs i x → p x ≡ false → kept ≡ filter p (take i xs) → kept ≡ filter p (take (i + 1) xs)
walk_drops p kept xs i x within at h so = so ∙ sym (passed p xs i x false within at h ∙ append-nil (filter p (take i xs)))

-- the same of what is made of each
pub walk_shows : {X Y : Type 0} (p : X → Bool) (f : X → Y) (shown : List Y) (xs : List X) (i : ℕ) (x : X) → i < length xs → x ≡ get_or xs i x → p x ≡ true → shown ≡ map f (filter p (take i xs)) → shown ++ f x ∷ [] ≡ map f (filter p (take (i + 1) xs))
walk_shows p f shown xs i x within at h so = ap (λ ys. ys ++ f x ∷ []) so ∙ sym (ap (map f) (passed p xs i x true within at h) ∙ map-append f (filter p (take i xs)) (x ∷ []))

pub walk_hides : {X Y : Type 0} (p : X → Bool) (f : X → Y) (shown : List Y) (xs : List X) (i : ℕ) (x : X) → i < length xs → x ≡ get_or xs i x → p x ≡ false → shown ≡ map f (filter p (take i xs)) → shown ≡ map f (filter p (take (i + 1) xs))
walk_hides p f shown xs i x within at h so = so ∙ ap (map f) (sym (passed p xs i x false within at h ∙ append-nil (filter p (take i xs))))
