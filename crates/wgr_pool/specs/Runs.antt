-- A set of addresses as runs of consecutive addresses.
use Rattle.std.specs.Prelude.{ℕ, ◌≡◌, ◌⊎◌, true, false, ◌+◌, ◌<◌, ◌≤◌, ◌-◌, ◌↔◌, length, slice_index_or, List, [], ◌∷◌, Option, IfSome, option_to_list}
use Rattle.wgr_text.specs.declared.prefix.Span.{Span}
use Rattle.wgr_text.specs.Prefix.{AddrValue, IsAddr, rank}
use Rattle.wgr_pool.specs.PrefixTests.{same_address}
use Rattle.wgr_pool.specs.Spans.{IsWithin, IsHeld}

-- the runs are in order from this place on, none is empty and none overlaps the next
abbrev pub AreRunsFrom : ℕ → List Span → Type 0
AreRunsFrom floor [] = Unit {0}
AreRunsFrom floor (s ∷ runs) = (floor ≤ rank s.lo) × (rank s.lo ≤ rank s.hi) × AreRunsFrom (rank s.hi + 1) runs

-- `part` is what a run has below an address
pub record IsPartBelow (run : Span) (a : AddrValue) (part : Option Span) : Type 0 where
  pub held : (b : AddrValue) → IsAddr b → IsHeld (option_to_list part) b ↔ (IsWithin run b × (rank b < rank a))
  pub ends : IfSome part (λ s. (rank run.lo ≤ rank s.lo) × (rank s.lo ≤ rank s.hi) × (rank s.hi < rank a))

-- `part` is what a run has above an address
pub record IsPartAbove (run : Span) (a : AddrValue) (part : Option Span) : Type 0 where
  pub held : (b : AddrValue) → IsAddr b → IsHeld (option_to_list part) b ↔ (IsWithin run b × (rank a < rank b))
  pub ends : IfSome part (λ s. (rank a < rank s.lo) × (rank s.lo ≤ rank s.hi) × (rank s.hi ≤ rank run.hi))

-- how many places the runs have, one for each address that they could have
abbrev pub places : List Span → ℕ
places [] = 0
places (s ∷ runs) = rank s.hi + 1 - rank s.lo + places runs

-- the address is in no run: it is below those from `at` on, and above those before
pub record IsGapAt (runs : List Span) (at : ℕ) (a : AddrValue) : Type 0 where
  pub within : at ≤ length runs
  pub above : (k : ℕ) (d : Span) → at ≤ k → k < length runs → rank a < rank (slice_index_or runs k d).lo
  pub past : 0 < at → (d : Span) → rank (slice_index_or runs (at - 1) d).hi < rank a

-- `new` are the runs of `old` with the address, which they didn't have
pub record IsJoined (old new : List Span) (a : AddrValue) : Type 0 where
  pub runs : AreRunsFrom 0 new
  pub held : (b : AddrValue) → IsAddr b → IsHeld new b ↔ ((same_address a b ≡ true) ⊎ IsHeld old b)
  pub more : places new ≡ places old + 1

-- `new` are the runs of `old` without the address, which they had
pub record IsParted (old new : List Span) (a : AddrValue) : Type 0 where
  pub runs : AreRunsFrom 0 new
  pub held : (b : AddrValue) → IsAddr b → IsHeld new b ↔ ((same_address a b ≡ false) × IsHeld old b)
  pub fewer : places new < places old
