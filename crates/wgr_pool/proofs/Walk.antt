-- the walk over spans in the order in which they begin
use Rattle.std.proofs.Common.{◌≡◌, ℕ, ◌+◌, ◌^◌, ◌<◌, ◌≤◌, inl, inr, arith, refl, sym, ap, subst, ◌∙◌, List, [], ◌∷◌, ◌++◌, length, append_assoc}
use Rattle.std.proofs.lemmas.Bool.{cases_lt}
use Rattle.std.specs.List.{All}
use Rattle.std.proofs.lemmas.List.Elements.{All-push}
use Rattle.wgr_text.specs.declared.prefix.Span.{Span}
use Rattle.wgr_text.specs.Prefix.{AddrValue, PrefixValue, IsAddr, rank, first_rank, width}
use Rattle.wgr_pool.proofs.Ranges.{between_family}
use Rattle.wgr_pool.proofs.RunLists.{held_append}
use Rattle.wgr_pool.specs.Pool.{IsRangeOf}
use Rattle.wgr_pool.specs.Spans.{IsHeld, RisesFrom, IsLowestFree, IsFull, IsFilledBy, StopsAt}

-- `old` was to come and `new` still is; the addresses from `lo` to below `at` are held, and those from `at` on are free of what was taken
pub record Walk (old new : List Span) (lo at : AddrValue) : Type 0 where
  pub covered : (a : AddrValue) → rank lo ≤ rank a → rank a < rank at → IsHeld old a
  pub early : List Span
  pub parts : old ≡ early ++ new
  pub early_begin : All (λ s. rank s.lo ≤ rank at) early
  pub passed : (a : AddrValue) → rank at ≤ rank a → IsHeld early a → ⊥

pub walk_start : (old : List Span) (lo : AddrValue) → Walk old old lo lo
walk_start old lo = record { covered = λ a h l. absurd (omega (arith, h, l)); passed = λ a h i. i; early = []; parts = refl; early_begin = λ k d h. absurd (omega arith) }

pub held_later : (early new : List Span) (a : AddrValue) → IsHeld new a → IsHeld (early ++ new) a
held_later [] new a h = h
held_later (s ∷ early) new a h = inr (held_later early new a h)

pub walk_on : (old new : List Span) (s : Span) (lo at next : AddrValue) → Walk old (s ∷ new) lo at → rank s.lo ≤ rank at → rank at ≤ rank next → ((a : AddrValue) → rank at ≤ rank a → rank a < rank next → rank a ≤ rank s.hi) → rank s.hi < rank next → Walk old new lo next
walk_on old new s lo at next w begins on covers past = record {
  covered = λ a from below. elim (cases_lt (rank a) (rank at)) [
    | inl l ↦ w.covered a from l
    | inr g ↦ subst (λ xs. IsHeld xs a) (sym w.parts) (held_later w.early (s ∷ new) a (inl (omega (arith, begins, g), covers a g below)))
  ];
  passed = λ a g h. elim ((held_append w.early (s ∷ []) a).0 h) [ inl i ↦ w.passed a (omega (arith, on, g)) i | inr i ↦ elim i [ inl j ↦ omega (arith, j.1, g, past) | inr j ↦ j ] ];
  early = w.early ++ s ∷ [];
  parts = w.parts ∙ sym (append_assoc w.early (s ∷ []) new);
  early_begin = All-push (λ s. rank s.lo ≤ rank next) w.early s (λ k d l. omega (arith, w.early_begin k d l, on)) (omega (arith, begins, on));
}

-- what was taken has no address from `at` on
still_held : (old new : List Span) (lo at a : AddrValue) → Walk old new lo at → rank at ≤ rank a → IsHeld old a → IsHeld new a
still_held old new lo at a w from h = elim ((held_append w.early new a).0 (subst (λ xs. IsHeld xs a) w.parts h)) [ inl i ↦ absurd (w.passed a from i) | inr i ↦ i ]

-- no span of those that begin above a place has it
pub none_before : (floor : ℕ) (spans : List Span) (a : AddrValue) → RisesFrom floor spans → rank a < floor → IsHeld spans a → ⊥
none_before floor [] a r l h = h
none_before floor (s ∷ spans) a r l (inl h) = absurd (omega (arith, r.0, h.0, l))
none_before floor (s ∷ spans) a r l (inr h) = none_before (rank s.lo) spans a r.1 (omega (arith, r.0, l)) h

pub walk_free : (pool : PrefixValue) (old new : List Span) (lo last at : AddrValue) → IsRangeOf pool lo last → Walk old new lo at → IsAddr at → rank lo ≤ rank at → rank at ≤ rank last → (IsHeld new at → ⊥) → IsLowestFree pool old at
walk_free pool old new lo last at range w fits from to free = record {
  is_free = (fits, (range.between at fits).1 (from, to), λ h. free (still_held old new lo at at w (omega arith) h));
  is_least = λ b is. elim (cases_lt (rank b) (rank at)) [ inl l ↦ absurd (is.2 (w.covered b (((range.between b is.0).0 is.1).0) l)) | inr g ↦ g ];
}

pub walk_stops : (old new : List Span) (late : List Span) (lo at : AddrValue) → Walk old (late ++ new) lo at → length late ≤ 1 → StopsAt old new at
walk_stops old new late lo at w one = record { early = w.early; late = late; parts = w.parts; early_begin = w.early_begin; one_late = one }

pub walk_full : (pool : PrefixValue) (old new : List Span) (s : Span) (lo last at : AddrValue) → IsRangeOf pool lo last → Walk old (s ∷ new) lo at → rank s.lo ≤ rank at → rank last ≤ rank s.hi → IsFull pool old
walk_full pool old new s lo last at range w begins ends a fits is =
    let b = (range.between a fits).0 is in
    elim (cases_lt (rank a) (rank at)) [
      | inl l ↦ w.covered a b.0 l
      | inr g ↦ subst (λ xs. IsHeld xs a) (sym w.parts) (held_later w.early (s ∷ new) a (inl (omega (arith, begins, g), omega (arith, b.1, ends))))
    ]

-- the span that fills the pool is the last that was taken
pub walk_fills : (pool : PrefixValue) (old new : List Span) (s : Span) (lo last at : AddrValue) → IsRangeOf pool lo last → Walk old (s ∷ new) lo at → IsAddr at → rank lo ≤ rank at → rank at ≤ rank last → IsFilledBy pool old new
walk_fills pool old new s lo last at range w fits from to = record {
  early = w.early;
  last = s;
  parts = w.parts;
  free_before = (at, (fits, (range.between at fits).1 (from, to), w.passed at (omega arith)));
}

-- the address after a span's last, where that is below the pool's last
pub next_is : (pool : PrefixValue) (lo last at hi next : AddrValue) → IsRangeOf pool lo last → rank lo ≤ rank at → rank at ≤ rank hi → rank hi < rank last → IsAddr hi → next ≡ record { family = last.family; number = hi.number + 1 } → IsAddr next × (rank next ≡ rank hi + 1)
next_is pool lo last at hi next range a b c fits is =
    let r = ap first_rank range.same_family in
    let same = between_family hi.family last.family hi.number lo.number last.number fits (omega (arith, a, b, r)) (omega (arith, c)) range.fits.1 in
    let f = ap (λ a. a.family) is in
    let n = ap (λ a. a.number) is in
    let w = ap (λ f. 2 ^ width f) f in
    let r' = ap first_rank f in
    let r'' = ap first_rank same in
    (omega (arith, n, w, c, r'', range.fits.1), omega (arith, n, r', r''))

-- the first span begins above
pub none_first : (floor : ℕ) (s : Span) (spans : List Span) (a : AddrValue) → RisesFrom floor (s ∷ spans) → rank a < rank s.lo → IsHeld (s ∷ spans) a → ⊥
none_first floor s spans a r l (inl h) = omega (arith, h.0, l)
none_first floor s spans a r l (inr h) = none_before (rank s.lo) spans a r.1 l h
