-- Lists in the order of their keys.
use Rattle.std.specs.Prelude.{◌≡◌, ℕ, ◌<◌, ◌≤◌, Bool, true, false, cond, List, [], ◌∷◌, length, slice_index_or, Result, Ok, Err}

-- the list with the item after those below it, replacing the one with its key if there is one
abbrev pub put_in_order : {X : Type 0} → (X → Bool) → (X → Bool) → List X → X → List X
put_in_order is_below is_same [] x = x ∷ []
put_in_order is_below is_same (y ∷ ys) x = cond (is_below y) (y ∷ put_in_order is_below is_same ys x) (cond (is_same y) (x ∷ ys) (x ∷ y ∷ ys))

-- the place to which a search leads: those before it are below, those from it on are not
pub record IsPlace {X : Type 0} (is_below : X → Bool) (xs : List X) (at : ℕ) : Type 0 where
  pub within : at ≤ length xs
  pub before : (k : ℕ) (d : X) → k < at → is_below (slice_index_or xs k d) ≡ true
  pub after : (k : ℕ) (d : X) → at ≤ k → k < length xs → is_below (slice_index_or xs k d) ≡ false

-- where a search ends: at the item that is the same, or at the place that it would have
abbrev pub EndsAt : {X : Type 0} → (X → Bool) → (X → Bool) → List X → Result ℕ ℕ → Type 0
EndsAt {X} is_below is_same xs (Ok at) = IsPlace is_below xs at × (at < length xs) × ((d : X) → is_same (slice_index_or xs at d) ≡ true)
EndsAt {X} is_below is_same xs (Err at) = IsPlace is_below xs at × ((d : X) → at < length xs → is_same (slice_index_or xs at d) ≡ false)
