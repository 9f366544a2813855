-- an address joined to the runs that it touches
use Rattle.std.proofs.Common.{◌≡◌, ℕ, zero, suc, ◌+◌, ◌-◌, ◌<◌, ◌≤◌, ◌⊎◌, ◌↔◌, inl, inr, List, [], ◌∷◌, ◌++◌, length, take, drop, slice_index_or, true, subst, sym, ap, ◌∙◌, arith, refl}
use Rattle.std.specs.Prelude.{set}
use Rattle.std.specs.List.{insert, remove}
use Rattle.std.proofs.lemmas.Bool.{cases_lt}
use Rattle.std.proofs.lemmas.List.{take-append-drop, set_split}
use Rattle.wgr_text.specs.declared.prefix.Span.{Span}
use Rattle.wgr_text.specs.Prefix.{AddrValue, IsAddr, rank}
use Rattle.wgr_pool.specs.PrefixTests.{same_address}
use Rattle.wgr_pool.specs.Spans.{IsWithin, IsHeld}
use Rattle.wgr_pool.specs.Runs.{AreRunsFrom, IsGapAt, IsJoined}
use Rattle.wgr_pool.proofs.WithinSpans.{same_within}
use Rattle.wgr_pool.proofs.RunLists.{runs_split, held_at, held_none, held_last, end_take, runs_drop, put_runs, put_held, put_places}

pub nth_split : (xs : List Span) (i : ℕ) (x : Span) → i < length xs → x ≡ slice_index_or xs i x → xs ≡ take i xs ++ (x ∷ drop (suc i) xs)
nth_split [] i x l e = absurd (omega arith)
nth_split (y ∷ xs) zero x l e = ap (λ z. z ∷ xs) (sym e)
nth_split (y ∷ xs) (suc i) x l e = ap (λ zs. y ∷ zs) (nth_split xs i x (omega (arith, l)) e)

pub two_split : (xs : List Span) (i : ℕ) (x y : Span) → suc i < length xs → x ≡ slice_index_or xs i x → y ≡ slice_index_or xs (suc i) y → xs ≡ take i xs ++ (x ∷ y ∷ drop (suc (suc i)) xs)
two_split [] i x y l e f = absurd (omega arith)
two_split (z ∷ []) i x y l e f = absurd (omega (arith, l))
two_split (z ∷ w ∷ xs) zero x y l e f = ap (λ v. v ∷ w ∷ xs) (sym e) ∙ ap (λ v. x ∷ v ∷ xs) (sym f)
two_split (z ∷ xs) (suc i) x y l e f = ap (λ zs. z ∷ zs) (two_split xs i x y (omega (arith, l)) e f)

pub set_remove : (xs : List Span) (i : ℕ) (s : Span) → suc i < length xs → remove (set xs i s) (suc i) ≡ take i xs ++ (s ∷ drop (suc (suc i)) xs)
set_remove [] i s l = absurd (omega arith)
set_remove (x ∷ xs) zero s l = refl
set_remove (x ∷ xs) (suc i) s l = ap (λ zs. x ∷ zs) (set_remove xs i s (omega (arith, l)))

pub join_new : (old : List Span) (p : ℕ) (a : AddrValue) → IsAddr a → AreRunsFrom 0 old → p ≤ length old → ((q : ℕ) (d : Span) → p ≡ suc q → rank (slice_index_or old q d).hi < rank a) → ((d : Span) → p < length old → rank a < rank (slice_index_or old p d).lo) → IsJoined old (insert old p (record { lo = a; hi = a })) a
join_new old p a fits r w before above =
    let s : Span = record { lo = a; hi = a } in
    let was : old ≡ take p old ++ ([] ++ drop p old) = sym (take-append-drop p old) in
    record {
      runs = put_runs old _ (take p old) [] (drop p old) s was refl r (end_take 0 old p (rank a) w (λ e. omega arith) before) (omega arith) (runs_drop 0 old p (rank a + 1) r (λ d l. let b = above d l in omega (arith, b)));
      held = λ b b_fits. put_held old _ (take p old) [] (drop p old) s a b was refl (let e = same_within a b fits b_fits in ((λ h. inl (e.1 h)), (λ h. elim h [ inl i ↦ e.0 i | inr i ↦ absurd i ])));
      more = put_places old _ (take p old) [] (drop p old) s was refl (omega arith);
    }

before_within : (x : Span) (a b : AddrValue) → IsAddr a → IsAddr b → rank x.lo ≤ rank x.hi → rank a ≡ rank x.hi + 1 → IsWithin (record { lo = x.lo; hi = a }) b ↔ ((same_address a b ≡ true) ⊎ IsHeld (x ∷ []) b)
before_within x a b fits b_fits up next =
    let e = same_within a b fits b_fits in (
      (λ h. elim (cases_lt (rank b) (rank a)) [ inl l ↦ inr (inl (h.0, omega (arith, l, next))) | inr g ↦ inl (e.1 (g, h.1)) ]),
      (λ h. elim h [
        | inl i ↦ let w = e.0 i in (omega (arith, w.0, up, next), w.1)
        | inr i ↦ elim i [ inl w ↦ (w.0, omega (arith, w.1, next)) | inr w ↦ absurd w ]
      ]),
    )

pub join_before : (old : List Span) (i : ℕ) (x : Span) (a : AddrValue) → IsAddr a → AreRunsFrom 0 old → i < length old → x ≡ slice_index_or old i x → rank a ≡ rank x.hi + 1 → ((d : Span) → suc i < length old → rank a < rank (slice_index_or old (suc i) d).lo) → IsJoined old (set old i (record { lo = x.lo; hi = a })) a
join_before old i x a fits r w at next above =
    let s : Span = record { lo = x.lo; hi = a } in
    let was : old ≡ take i old ++ ((x ∷ []) ++ drop (suc i) old) = nth_split old i x w at in
    let is : set old i s ≡ take i old ++ (s ∷ drop (suc i) old) = set_split old i s w in
    let parts = (runs_split 0 (take i old) (x ∷ drop (suc i) old) (subst (AreRunsFrom 0) was r)).1 in
    record {
      runs = put_runs old _ (take i old) (x ∷ []) (drop (suc i) old) s was is r parts.0 (omega (arith, parts.1, next)) (runs_drop 0 old (suc i) (rank a + 1) r (λ d l. let b = above d l in omega (arith, b)));
      held = λ b b_fits. put_held old _ (take i old) (x ∷ []) (drop (suc i) old) s a b was is (before_within x a b fits b_fits parts.1 next);
      more = put_places old _ (take i old) (x ∷ []) (drop (suc i) old) s was is (omega (arith, parts.1, next));
    }

after_within : (y : Span) (a b : AddrValue) → IsAddr a → IsAddr b → rank y.lo ≤ rank y.hi → rank y.lo ≡ rank a + 1 → IsWithin (record { lo = a; hi = y.hi }) b ↔ ((same_address a b ≡ true) ⊎ IsHeld (y ∷ []) b)
after_within y a b fits b_fits up next =
    let e = same_within a b fits b_fits in (
      (λ h. elim (cases_lt (rank a) (rank b)) [ inl l ↦ inr (inl (omega (arith, l, next), h.1)) | inr g ↦ inl (e.1 (h.0, g)) ]),
      (λ h. elim h [
        | inl i ↦ let w = e.0 i in (w.0, omega (arith, w.1, up, next))
        | inr i ↦ elim i [ inl w ↦ (omega (arith, w.0, next), w.1) | inr w ↦ absurd w ]
      ]),
    )

pub join_after : (old : List Span) (i : ℕ) (y : Span) (a : AddrValue) → IsAddr a → AreRunsFrom 0 old → i < length old → y ≡ slice_index_or old i y → rank y.lo ≡ rank a + 1 → ((q : ℕ) (d : Span) → i ≡ suc q → rank (slice_index_or old q d).hi < rank a) → IsJoined old (set old i (record { lo = a; hi = y.hi })) a
join_after old i y a fits r w at next before =
    let s : Span = record { lo = a; hi = y.hi } in
    let was : old ≡ take i old ++ ((y ∷ []) ++ drop (suc i) old) = nth_split old i y w at in
    let is : set old i s ≡ take i old ++ (s ∷ drop (suc i) old) = set_split old i s w in
    let parts = (runs_split 0 (take i old) (y ∷ drop (suc i) old) (subst (AreRunsFrom 0) was r)).1 in
    record {
      runs = put_runs old _ (take i old) (y ∷ []) (drop (suc i) old) s was is r (end_take 0 old i (rank a) (omega (arith, w)) (λ e. omega arith) before) (omega (arith, parts.1, next)) parts.2;
      held = λ b b_fits. put_held old _ (take i old) (y ∷ []) (drop (suc i) old) s a b was is (after_within y a b fits b_fits parts.1 next);
      more = put_places old _ (take i old) (y ∷ []) (drop (suc i) old) s was is (omega (arith, parts.1, next));
    }

both_within : (x y : Span) (a b : AddrValue) → IsAddr a → IsAddr b → rank x.lo ≤ rank x.hi → rank y.lo ≤ rank y.hi → rank a ≡ rank x.hi + 1 → rank y.lo ≡ rank a + 1 → IsWithin (record { lo = x.lo; hi = y.hi }) b ↔ ((same_address a b ≡ true) ⊎ IsHeld (x ∷ y ∷ []) b)
both_within x y a b fits b_fits x_up y_up before after =
    let e = same_within a b fits b_fits in (
      (λ h. elim (cases_lt (rank b) (rank a)) [
        | inl l ↦ inr (inl (h.0, omega (arith, l, before)))
        | inr g ↦ elim (cases_lt (rank a) (rank b)) [ inl m ↦ inr (inr (inl (omega (arith, m, after), h.1))) | inr n ↦ inl (e.1 (g, n)) ]
      ]),
      (λ h. elim h [
        | inl i ↦ let w = e.0 i in (omega (arith, w.0, x_up, before), omega (arith, w.1, y_up, after))
        | inr i ↦ elim i [
          | inl w ↦ (w.0, omega (arith, w.1, before, after, y_up))
          | inr j ↦ elim j [ inl w ↦ (omega (arith, w.0, before, after, x_up), w.1) | inr w ↦ absurd w ]
        ]
      ]),
    )

pub join_both : (old : List Span) (i : ℕ) (x y : Span) (a : AddrValue) → IsAddr a → AreRunsFrom 0 old → suc i < length old → x ≡ slice_index_or old i x → y ≡ slice_index_or old (suc i) y → rank a ≡ rank x.hi + 1 → rank y.lo ≡ rank a + 1 → IsJoined old (remove (set old i (record { lo = x.lo; hi = y.hi })) (suc i)) a
join_both old i x y a fits r w at_x at_y before after =
    let s : Span = record { lo = x.lo; hi = y.hi } in
    let late = drop (suc (suc i)) old in
    let was : old ≡ take i old ++ ((x ∷ y ∷ []) ++ late) = two_split old i x y w at_x at_y in
    let is : remove (set old i s) (suc i) ≡ take i old ++ (s ∷ late) = set_remove old i s w in
    let parts = (runs_split 0 (take i old) (x ∷ y ∷ late) (subst (AreRunsFrom 0) was r)).1 in
    record {
      runs = put_runs old _ (take i old) (x ∷ y ∷ []) late s was is r parts.0 (omega (arith, parts.1, parts.2.0, parts.2.1)) parts.2.2;
      held = λ b b_fits. put_held old _ (take i old) (x ∷ y ∷ []) late s a b was is (both_within x y a b fits b_fits parts.1 parts.2.1 before after);
      more = put_places old _ (take i old) (x ∷ y ∷ []) late s was is (omega (arith, parts.1, parts.2.1, before, after));
    }

past_by : (runs : List Span) (p : ℕ) (a : AddrValue) → IsGapAt runs p a → (q : ℕ) (d : Span) → p ≡ suc q → rank (slice_index_or runs q d).hi < rank a
past_by runs p a parts q d e = let i : p - 1 ≡ q = omega (arith, e) in subst (λ k. rank (slice_index_or runs k d).hi < rank a) i (parts.past (omega (arith, e)) d)

pub new_run : (runs : List Span) (p : ℕ) (a : AddrValue) → IsAddr a → AreRunsFrom 0 runs → IsGapAt runs p a → IsJoined runs (insert runs p (record { lo = a; hi = a })) a
new_run runs p a fits r parts = join_new runs p a fits r parts.within (past_by runs p a parts) (λ d l. parts.above p d (omega arith) l)

pub longer_run : (runs : List Span) (p : ℕ) (x : Span) (a : AddrValue) → IsAddr a → AreRunsFrom 0 runs → IsGapAt runs p a → (0 < p) × ((d : Span) → rank a ≡ rank (slice_index_or runs (p - 1) d).hi + 1) → x ≡ slice_index_or runs (p - 1) x → IsJoined runs (set runs (p - 1) (record { lo = x.lo; hi = a })) a
longer_run runs p x a fits r parts next at =
    let w = parts.within in
    join_before runs (p - 1) x a fits r (omega (arith, w, next.0)) at (let e = next.1 x in let f = ap (λ s. rank s.hi) at in omega (arith, e, f)) (λ d l. let i : suc (p - 1) ≡ p = omega (arith, next.0) in subst (λ k. rank a < rank (slice_index_or runs k d).lo) (sym i) (parts.above p d (omega arith) (omega (arith, l, i))))

pub earlier_run : (runs : List Span) (p : ℕ) (y : Span) (a : AddrValue) → IsAddr a → AreRunsFrom 0 runs → IsGapAt runs p a → (p < length runs) × ((d : Span) → rank (slice_index_or runs p d).lo ≡ rank a + 1) → y ≡ slice_index_or runs p y → IsJoined runs (set runs p (record { lo = a; hi = y.hi })) a
earlier_run runs p y a fits r parts next at = join_after runs p y a fits r next.0 at (let e = next.1 y in let f = ap (λ s. rank s.lo) at in omega (arith, e, f)) (past_by runs p a parts)

pub joined_run : (runs : List Span) (p : ℕ) (x y : Span) (a : AddrValue) → IsAddr a → AreRunsFrom 0 runs → (0 < p) × ((d : Span) → rank a ≡ rank (slice_index_or runs (p - 1) d).hi + 1) → (p < length runs) × ((d : Span) → rank (slice_index_or runs p d).lo ≡ rank a + 1) → x ≡ slice_index_or runs (p - 1) x → y ≡ slice_index_or runs p y → IsJoined runs (remove (set runs (p - 1) (record { lo = x.lo; hi = y.hi })) p) a
joined_run runs p x y a fits r before after at_x at_y =
    let i : suc (p - 1) ≡ p = omega (arith, before.0) in
    let e = before.1 x in
    let f = ap (λ s. rank s.hi) at_x in
    let g = after.1 y in
    let h = ap (λ s. rank s.lo) at_y in
    subst (λ k. IsJoined runs (remove (set runs (p - 1) (record { lo = x.lo; hi = y.hi })) k) a) i
    (join_both runs (p - 1) x y a fits r (omega (arith, i, after.0)) at_x (subst (λ k. y ≡ slice_index_or runs k y) (sym i) at_y) (omega (arith, e, f)) (omega (arith, g, h)))

-- the address is in the runs, and so is another of its rank
pub held_before : (runs : List Span) (p : ℕ) (a b : AddrValue) → p ≤ length runs → ((k : ℕ) (d : Span) → k < p → rank (slice_index_or runs k d).lo ≤ rank a) → (0 < p) × ((d : Span) → rank a ≤ rank (slice_index_or runs (p - 1) d).hi) → rank a ≡ rank b → IsHeld runs b
held_before runs p a b w below last same =
    let d : Span = record { lo = a; hi = a } in
    let from = below (p - 1) d (omega (arith, last.0)) in
    let to = last.1 d in
    held_at runs (p - 1) d b (omega (arith, w, last.0)) (omega (arith, from, same), omega (arith, to, same))

pub not_held : (runs : List Span) (p : ℕ) (a : AddrValue) → AreRunsFrom 0 runs → IsGapAt runs p a → IsHeld runs a → ⊥
not_held runs p a r parts h =
    elim (cases_lt 0 p) [
      | inl l ↦
          let d : Span = record { lo = a; hi = a } in
          let w = parts.within in
          let most = held_last 0 runs (p - 1) a r (omega (arith, l, w)) (λ k d from to. parts.above k d (omega (arith, from)) to) h d in
          let past = parts.past l d in
          omega (arith, most, past)
      | inr g ↦ held_none 0 runs a r (λ k d to. parts.above k d (omega (arith, g)) to) h
    ]

pub joins_held : (old new now : List Span) (a : AddrValue) → old ≡ now → IsJoined old new a → (b : AddrValue) → IsAddr b → IsHeld new b ↔ ((same_address a b ≡ true) ⊎ IsHeld now b)
joins_held old new now a e joins = subst (λ xs. (b : AddrValue) → IsAddr b → IsHeld new b ↔ ((same_address a b ≡ true) ⊎ IsHeld xs b)) e joins.held
