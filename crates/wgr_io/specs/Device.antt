-- What a read and a write report: their count, their bytes and a failure.
use Rattle.std.specs.Prelude.{◌≡◌, Bool, true, ℕ, ◌+◌, ◌<◌, ◌≤◌, ◌++◌, List, [], length, take, slice_index_or, All, Option, Some, None, Result, Ok, Err}
use Rattle.std.specs.Io.KnownBytes.{Appends}

-- a call that fails is marked, and one that does not leaves the mark as it was
abbrev pub MarksError : {A E : Type 0} → Bool → Bool → Result A E → Type 0
MarksError was now (Ok a) = now ≡ was
MarksError was now (Err e) = now ≡ true

-- `Ok(n)` takes no more bytes than there are, and at least one if there are any
abbrev pub TakesSome : {E : Type 0} → Result ℕ E → ℕ → Type 0
TakesSome (Ok n) room = (n ≤ room) × (0 < room → 0 < n)
TakesSome (Err e) room = Unit {0}

-- the bytes that a call of `read` returned
abbrev pub piece_of : {E : Type 0} → Result ℕ E → List ℕ → List ℕ
piece_of (Ok n) buf = take n buf
piece_of (Err e) buf = []

-- known pieces stay, and these are appended to them
abbrev pub AddsPieces : Option (List (List ℕ)) → Option (List (List ℕ)) → List (List ℕ) → Type 0
AddsPieces None new added = Unit {0}
AddsPieces (Some xs) None added = ⊥
AddsPieces (Some xs) (Some ys) added = ys ≡ xs ++ added

-- each call returned some bytes
abbrev pub AllGave : List (List ℕ) → Type 0
AllGave pieces = All (λ (piece : List ℕ). 0 < length piece) pieces

-- each call but the last returned some bytes: no call was made after the end or a failure
abbrev pub EndAtNothing : List (List ℕ) → Type 0
EndAtNothing pieces = (k : ℕ) → k + 1 < length pieces → 0 < length (slice_index_or pieces k [])

-- a first part of the bytes was written, which may be none or all
abbrev pub IsCut : Option (List ℕ) → Option (List ℕ) → List ℕ → Type 0
IsCut before after bytes = (beginning : List ℕ) × (rest : List ℕ) × (bytes ≡ beginning ++ rest) × Appends before after beginning
