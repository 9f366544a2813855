-- runs of addresses, split and put together
use Rattle.std.proofs.Common.{◌≡◌, ℕ, zero, suc, ◌+◌, ◌-◌, ◌<◌, ◌≤◌, ◌⊎◌, ◌↔◌, inl, inr, List, [], ◌∷◌, ◌++◌, length, take, drop, slice_index_or, true, subst, sym, ap, ◌∙◌, arith, refl}
use Rattle.wgr_text.specs.declared.prefix.Span.{Span}
use Rattle.wgr_text.specs.Prefix.{AddrValue, rank}
use Rattle.wgr_pool.specs.PrefixTests.{same_address}
use Rattle.wgr_pool.specs.Spans.{IsWithin, IsHeld, RisesFrom}
use Rattle.wgr_pool.specs.Runs.{AreRunsFrom, places}

-- the place after the last of the runs
abbrev pub end_of : ℕ → List Span → ℕ
end_of floor [] = floor
end_of floor (s ∷ runs) = end_of (rank s.hi + 1) runs

pub rises : (floor low : ℕ) (runs : List Span) → low ≤ floor → AreRunsFrom floor runs → RisesFrom low runs
rises floor low [] l r = tt
rises floor low (s ∷ runs) l r = (omega (arith, l, r.0), rises (rank s.hi + 1) (rank s.lo) runs (omega (arith, r.1)) r.2)

pub runs_split : (floor : ℕ) (xs ys : List Span) → AreRunsFrom floor (xs ++ ys) → AreRunsFrom floor xs × AreRunsFrom (end_of floor xs) ys
runs_split floor [] ys r = (tt, r)
runs_split floor (x ∷ xs) ys r = let more = runs_split (rank x.hi + 1) xs ys r.2 in ((r.0, r.1, more.0), more.1)

pub runs_append : (floor : ℕ) (xs ys : List Span) → AreRunsFrom floor xs → AreRunsFrom (end_of floor xs) ys → AreRunsFrom floor (xs ++ ys)
runs_append floor [] ys r s = s
runs_append floor (x ∷ xs) ys r s = (r.0, r.1, runs_append (rank x.hi + 1) xs ys r.2 s)

pub held_append : (xs ys : List Span) (b : AddrValue) → IsHeld (xs ++ ys) b ↔ (IsHeld xs b ⊎ IsHeld ys b)
held_append [] ys b = ((λ h. inr h), elim [ inl h ↦ absurd h | inr h ↦ h ])
held_append (x ∷ xs) ys b =
    let more = held_append xs ys b in (
      elim [ inl h ↦ inl (inl h) | inr h ↦ elim (more.0 h) [ inl i ↦ inl (inr i) | inr i ↦ inr i ] ],
      elim [ inl h ↦ elim h [ inl i ↦ inl i | inr i ↦ inr (more.1 (inl i)) ] | inr h ↦ inr (more.1 (inr h)) ],
    )

-- each run begins from `floor` on, and ends no lower than it begins
pub run_at : (floor : ℕ) (runs : List Span) (k : ℕ) (d : Span) → AreRunsFrom floor runs → k < length runs → (floor ≤ rank (slice_index_or runs k d).lo) × (rank (slice_index_or runs k d).lo ≤ rank (slice_index_or runs k d).hi)
run_at floor [] k d r l = absurd (omega arith)
run_at floor (x ∷ runs) zero d r l = (r.0, r.1)
run_at floor (x ∷ runs) (suc k) d r l = let more = run_at (rank x.hi + 1) runs k d r.2 (omega (arith, l)) in (omega (arith, more.0, r.0, r.1), more.1)

-- runs begin in the order in which they stand
pub runs_order : (floor : ℕ) (runs : List Span) (i j : ℕ) (d : Span) → AreRunsFrom floor runs → i ≤ j → j < length runs → rank (slice_index_or runs i d).lo ≤ rank (slice_index_or runs j d).lo
runs_order floor [] i j d r o l = absurd (omega arith)
runs_order floor (x ∷ runs) zero zero d r o l = omega arith
runs_order floor (x ∷ runs) zero (suc j) d r o l = let more = run_at (rank x.hi + 1) runs j d r.2 (omega (arith, l)) in omega (arith, more.0, r.1)
runs_order floor (x ∷ runs) (suc i) zero d r o l = absurd (omega (arith, o))
runs_order floor (x ∷ runs) (suc i) (suc j) d r o l = runs_order (rank x.hi + 1) runs i j d r.2 (omega (arith, o)) (omega (arith, l))

-- and so they end
pub ends_order : (floor : ℕ) (runs : List Span) (i j : ℕ) (d : Span) → AreRunsFrom floor runs → i ≤ j → j < length runs → rank (slice_index_or runs i d).hi ≤ rank (slice_index_or runs j d).hi
ends_order floor [] i j d r o l = absurd (omega arith)
ends_order floor (x ∷ runs) zero zero d r o l = omega arith
ends_order floor (x ∷ runs) zero (suc j) d r o l = let more = run_at (rank x.hi + 1) runs j d r.2 (omega (arith, l)) in omega (arith, more)
ends_order floor (x ∷ runs) (suc i) zero d r o l = absurd (omega (arith, o))
ends_order floor (x ∷ runs) (suc i) (suc j) d r o l = ends_order (rank x.hi + 1) runs i j d r.2 (omega (arith, o)) (omega (arith, l))

-- what runs have is from their start on
pub held_from : (floor : ℕ) (runs : List Span) (a : AddrValue) → AreRunsFrom floor runs → IsHeld runs a → floor ≤ rank a
held_from floor [] a r h = absurd h
held_from floor (x ∷ runs) a r (inl h) = omega (arith, r.0, h.0)
held_from floor (x ∷ runs) a r (inr h) = let more = held_from (rank x.hi + 1) runs a r.2 h in omega (arith, more, r.0, r.1)

pub held_at : (runs : List Span) (k : ℕ) (d : Span) (a : AddrValue) → k < length runs → IsWithin (slice_index_or runs k d) a → IsHeld runs a
held_at [] k d a l w = absurd (omega arith)
held_at (x ∷ runs) zero d a l w = inl w
held_at (x ∷ runs) (suc k) d a l w = inr (held_at runs k d a (omega (arith, l)) w)

-- an address below where all begin
pub held_none : (floor : ℕ) (runs : List Span) (a : AddrValue) → AreRunsFrom floor runs → ((k : ℕ) (d : Span) → k < length runs → rank a < rank (slice_index_or runs k d).lo) → IsHeld runs a → ⊥
held_none floor [] a r above h = h
held_none floor (x ∷ runs) a r above h = let b = above 0 x (omega arith) in let from = held_from (rank x.lo) (x ∷ runs) a (omega arith, r.1, r.2) h in omega (arith, b, from)

-- an address that runs have is in the last of those that begin no higher, or below its end
pub held_last : (floor : ℕ) (runs : List Span) (q : ℕ) (a : AddrValue) → AreRunsFrom floor runs → q < length runs → ((k : ℕ) (d : Span) → q < k → k < length runs → rank a < rank (slice_index_or runs k d).lo) → IsHeld runs a → (d : Span) → rank a ≤ rank (slice_index_or runs q d).hi
held_last floor [] q a r w above h d = absurd h
held_last floor (x ∷ runs) zero a r w above (inl h) d = h.1
held_last floor (x ∷ runs) zero a r w above (inr h) d = absurd (held_none (rank x.hi + 1) runs a r.2 (λ k d to. above (suc k) d (omega arith) (omega (arith, to))) h)
held_last floor (x ∷ runs) (suc q) a r w above (inl h) d = let more = run_at (rank x.hi + 1) runs q d r.2 (omega (arith, w)) in omega (arith, more.0, more.1, h.1)
held_last floor (x ∷ runs) (suc q) a r w above (inr h) d = held_last (rank x.hi + 1) runs q a r.2 (omega (arith, w)) (λ k d from to. above (suc k) d (omega (arith, from)) (omega (arith, to))) h d

-- the first runs end below an address where the last of them does
pub end_take : (floor : ℕ) (runs : List Span) (p n : ℕ) → p ≤ length runs → (p ≡ 0 → floor ≤ n) → ((q : ℕ) (d : Span) → p ≡ suc q → rank (slice_index_or runs q d).hi < n) → end_of floor (take p runs) ≤ n
end_take floor runs zero n w start last = start refl
end_take floor [] (suc p) n w start last = absurd (omega (arith, w))
end_take floor (x ∷ runs) (suc zero) n w start last = let l = last 0 x refl in omega (arith, l)
end_take floor (x ∷ runs) (suc (suc p)) n w start last = end_take (rank x.hi + 1) runs (suc p) n (omega (arith, w)) (λ e. absurd (omega (arith, e))) (λ q d e. last (suc q) d (omega (arith, e)))

-- the later runs begin where the first of them does
pub runs_drop : (floor : ℕ) (runs : List Span) (p n : ℕ) → AreRunsFrom floor runs → ((d : Span) → p < length runs → n ≤ rank (slice_index_or runs p d).lo) → AreRunsFrom n (drop p runs)
runs_drop floor [] zero n r first = tt
runs_drop floor [] (suc p) n r first = tt
runs_drop floor (x ∷ runs) zero n r first = (first x (omega arith), r.1, r.2)
runs_drop floor (x ∷ runs) (suc p) n r first = runs_drop (rank x.hi + 1) runs p n r.2 (λ d l. first d (omega (arith, l)))

-- one run put for some
pub put_runs : (old new early mid late : List Span) (s : Span) → old ≡ early ++ (mid ++ late) → new ≡ early ++ (s ∷ late) → AreRunsFrom 0 old → end_of 0 early ≤ rank s.lo → rank s.lo ≤ rank s.hi → AreRunsFrom (rank s.hi + 1) late → AreRunsFrom 0 new
put_runs old new early mid late s was is r from up rest =
    let first = (runs_split 0 early (mid ++ late) (subst (AreRunsFrom 0) was r)).0 in
    subst (AreRunsFrom 0) (sym is) (runs_append 0 early (s ∷ late) first (from, up, rest))

pub put_held : (old new early mid late : List Span) (s : Span) (a b : AddrValue) → old ≡ early ++ (mid ++ late) → new ≡ early ++ (s ∷ late) → IsWithin s b ↔ ((same_address a b ≡ true) ⊎ IsHeld mid b) → IsHeld new b ↔ ((same_address a b ≡ true) ⊎ IsHeld old b)
put_held old new early mid late s a b was is within =
    let outer = held_append early (mid ++ late) b in
    let inner = held_append mid late b in
    let after = held_append early (s ∷ late) b in
    let to_old : IsHeld (early ++ (mid ++ late)) b → IsHeld old b = subst (λ xs. IsHeld xs b) (sym was) in
    let to_new : IsHeld (early ++ (s ∷ late)) b → IsHeld new b = subst (λ xs. IsHeld xs b) (sym is) in (
      (λ h. elim (after.0 (subst (λ xs. IsHeld xs b) is h)) [
        | inl i ↦ inr (to_old (outer.1 (inl i)))
        | inr i ↦ elim i [
          | inl w ↦ elim (within.0 w) [ inl e ↦ inl e | inr m ↦ inr (to_old (outer.1 (inr (inner.1 (inl m))))) ]
          | inr l ↦ inr (to_old (outer.1 (inr (inner.1 (inr l)))))
        ]
      ]),
      (λ h. elim h [
        | inl e ↦ to_new (after.1 (inr (inl (within.1 (inl e)))))
        | inr i ↦ elim (outer.0 (subst (λ xs. IsHeld xs b) was i)) [
          | inl f ↦ to_new (after.1 (inl f))
          | inr l ↦ elim (inner.0 l) [ inl m ↦ to_new (after.1 (inr (inl (within.1 (inr m))))) | inr k ↦ to_new (after.1 (inr (inr k))) ]
        ]
      ]),
    )

-- ---- how many places runs have

pub places_append : (xs ys : List Span) → places (xs ++ ys) ≡ places xs + places ys
places_append [] ys = omega arith
places_append (x ∷ xs) ys = let more = places_append xs ys in omega (arith, more)

-- each run has a place
pub places_least : (floor : ℕ) (runs : List Span) → AreRunsFrom floor runs → length runs ≤ places runs
places_least floor [] r = omega arith
places_least floor (x ∷ runs) r = let more = places_least (rank x.hi + 1) runs r.2 in omega (arith, more, r.1)

pub put_places : (old new early mid late : List Span) (s : Span) → old ≡ early ++ (mid ++ late) → new ≡ early ++ (s ∷ late) → rank s.hi + 1 - rank s.lo ≡ places mid + 1 → places new ≡ places old + 1
put_places old new early mid late s was is one =
    let o = ap places was ∙ places_append early (mid ++ late) in
    let m = places_append mid late in
    let n = ap places is ∙ places_append early (s ∷ late) in
    omega (arith, o, m, n, one)
