-- Spans of held addresses, and the lowest address that is free of them.
use Rattle.std.specs.Prelude.{◌≡◌, ℕ, ◌≤◌, ◌⊎◌, List, [], ◌∷◌, ◌++◌, length, Option, Some, None, nat_le}
use Rattle.std.specs.List.{All, filter}
use Rattle.wgr_text.specs.declared.prefix.Span.{Span}
use Rattle.wgr_text.specs.Prefix.{AddrValue, PrefixValue, IsAddr, rank}
use Rattle.wgr_pool.specs.Pool.{IsAssignable}

-- the address is one of the span's
abbrev pub IsWithin : Span → AddrValue → Type 0
IsWithin s a = (rank s.lo ≤ rank a) × (rank a ≤ rank s.hi)

-- some span has the address
abbrev pub IsHeld : List Span → AddrValue → Type 0
IsHeld [] a = ⊥
IsHeld (s ∷ spans) a = IsWithin s a ⊎ IsHeld spans a

-- the spans that end no lower than the address
abbrev pub spans_from : AddrValue → List Span → List Span
spans_from a spans = filter (λ s. nat_le (rank a) (rank s.hi)) spans

-- no span begins below this place or below the span before it
abbrev pub RisesFrom : ℕ → List Span → Type 0
RisesFrom floor [] = Unit {0}
RisesFrom floor (s ∷ spans) = (floor ≤ rank s.lo) × RisesFrom (rank s.lo) spans

-- where the span that was returned last begins, or 0 if none was
abbrev pub reached_after : Option AddrValue → ℕ
reached_after None = 0
reached_after (Some a) = rank a

-- a call that returned `given` took the first of the remaining spans
abbrev pub Takes : List Span → Option Span → List Span → Type 0
Takes old None new = (old ≡ []) × (new ≡ [])
Takes old (Some s) new = old ≡ s ∷ new

-- the address may be given and no span has it
abbrev pub IsFree : PrefixValue → List Span → AddrValue → Type 0
IsFree pool spans a = IsAddr a × IsAssignable pool a × (IsHeld spans a → ⊥)

-- the least of the free addresses
pub record IsLowestFree (pool : PrefixValue) (spans : List Span) (a : AddrValue) : Type 0 where
  pub is_free : IsFree pool spans a
  pub is_least : (b : AddrValue) → IsFree pool spans b → rank a ≤ rank b

-- each assignable address is held
abbrev pub IsFull : PrefixValue → List Span → Type 0
IsFull pool spans = (a : AddrValue) → IsAddr a → IsAssignable pool a → IsHeld spans a

-- what was taken of the spans `old` to leave `new`: spans that begin at or below `a`, and at most one more
pub record StopsAt (old new : List Span) (a : AddrValue) : Type 0 where
  pub early : List Span
  pub late : List Span
  pub parts : old ≡ early ++ (late ++ new)
  pub early_begin : All (λ s. rank s.lo ≤ rank a) early
  pub one_late : length late ≤ 1

-- what was taken of the spans `old` to leave `new`, where they fill the pool: the last of them
-- fills it, and an address is free of those before
pub record IsFilledBy (pool : PrefixValue) (old new : List Span) : Type 0 where
  pub early : List Span
  pub last : Span
  pub parts : old ≡ early ++ (last ∷ new)
  pub free_before : (a : AddrValue) × IsFree pool early a
