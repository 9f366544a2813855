-- an address taken out of the run that has it
use Rattle.std.proofs.Common.{◌≡◌, ℕ, zero, suc, ◌+◌, ◌-◌, ◌<◌, ◌≤◌, ◌⊎◌, ◌↔◌, inl, inr, List, [], ◌∷◌, ◌++◌, length, take, drop, slice_index_or, true, false, Option, Some, None, subst, sym, ap, ◌∙◌, arith, refl}
use Rattle.std.specs.Prelude.{set, option_to_list}
use Rattle.std.specs.List.{insert, remove}
use Rattle.std.proofs.lemmas.Bool.{cases_lt}
use Rattle.std.proofs.lemmas.List.{set_split, length-append}
use Rattle.wgr_text.specs.declared.prefix.Span.{Span}
use Rattle.wgr_text.specs.Prefix.{AddrValue, IsAddr, rank}
use Rattle.wgr_pool.specs.PrefixTests.{same_address}
use Rattle.wgr_pool.specs.Spans.{IsWithin, IsHeld}
use Rattle.wgr_pool.specs.Runs.{AreRunsFrom, IsGapAt, IsParted, IsPartBelow, IsPartAbove, places}
use Rattle.wgr_pool.proofs.Bools.{decide}
use Rattle.wgr_pool.proofs.PrefixLemmas.{same_address_is}
use Rattle.wgr_pool.proofs.WithinSpans.{same_within}
use Rattle.wgr_pool.proofs.RunLists.{end_of, runs_split, runs_append, held_append, held_from, places_append, places_least}
use Rattle.wgr_pool.proofs.Joining.{nth_split, not_held}

pub none_below : (x : Span) (a : AddrValue) → rank a ≤ rank x.lo → IsPartBelow x a None
none_below x a low = record {
  held = λ b fits. ((λ h. absurd h), (λ h. let from = h.0.0 in let to = h.1 in omega (arith, from, to, low)));
  ends = tt;
}

pub none_above : (x : Span) (a : AddrValue) → rank x.hi ≤ rank a → IsPartAbove x a None
none_above x a high = record {
  held = λ b fits. ((λ h. absurd h), (λ h. let to = h.0.1 in let from = h.1 in omega (arith, from, to, high)));
  ends = tt;
}

pub some_below : (x : Span) (a hi : AddrValue) → IsWithin x a → rank x.lo ≤ rank hi → rank hi < rank a → ((b : AddrValue) → IsAddr b → rank b < rank a → rank b ≤ rank hi) → IsPartBelow x a (Some (record { lo = x.lo; hi = hi }))
some_below x a hi within from below last = record {
  held = λ b fits. (
    (λ h. elim h [ inl w ↦ ((w.0, omega (arith, w.1, below, within.1)), omega (arith, w.1, below)) | inr none ↦ absurd none ]),
    (λ h. inl (h.0.0, last b fits h.1)),
  );
  ends = (omega arith, from, below);
}

pub some_above : (x : Span) (a lo : AddrValue) → IsWithin x a → rank a < rank lo → rank lo ≤ rank x.hi → ((b : AddrValue) → IsAddr b → rank a < rank b → rank lo ≤ rank b) → IsPartAbove x a (Some (record { lo = lo; hi = x.hi }))
some_above x a lo within above to first = record {
  held = λ b fits. (
    (λ h. elim h [ inl w ↦ ((omega (arith, w.0, above, within.0), w.1), omega (arith, w.0, above)) | inr none ↦ absurd none ]),
    (λ h. inl (first b fits h.1, h.0.1)),
  );
  ends = (above, to, omega arith);
}

runs_lower : (low floor : ℕ) (runs : List Span) → low ≤ floor → AreRunsFrom floor runs → AreRunsFrom low runs
runs_lower low floor [] l r = tt
runs_lower low floor (x ∷ runs) l r = (omega (arith, l, r.0), r.1, r.2)

end_from : (floor : ℕ) (runs : List Span) → AreRunsFrom floor runs → floor ≤ end_of floor runs
end_from floor [] r = omega arith
end_from floor (x ∷ runs) r = let more = end_from (rank x.hi + 1) runs r.2 in omega (arith, more, r.0, r.1)

-- what runs have is below their end
held_to : (floor : ℕ) (runs : List Span) (a : AddrValue) → AreRunsFrom floor runs → IsHeld runs a → rank a < end_of floor runs
held_to floor [] a r h = absurd h
held_to floor (x ∷ runs) a r (inl h) = let more = end_from (rank x.hi + 1) runs r.2 in omega (arith, more, h.1)
held_to floor (x ∷ runs) a r (inr h) = held_to (rank x.hi + 1) runs a r.2 h

apart_below : (a b : AddrValue) → rank b < rank a → same_address a b ≡ false
apart_below a b l = elim (decide (same_address a b)) [
  | inl same ↦ let is = ap rank (same_address_is a b same) in absurd (omega (arith, l, is))
  | inr apart ↦ apart
]

apart_above : (a b : AddrValue) → rank a < rank b → same_address a b ≡ false
apart_above a b l = elim (decide (same_address a b)) [
  | inl same ↦ let is = ap rank (same_address_is a b same) in absurd (omega (arith, l, is))
  | inr apart ↦ apart
]

-- of two addresses that differ one is below the other
apart_order : (a b : AddrValue) → IsAddr a → IsAddr b → same_address a b ≡ false → (rank b < rank a) ⊎ (rank a < rank b)
apart_order a b fits b_fits apart = elim (cases_lt (rank b) (rank a)) [
  | inl l ↦ inl l
  | inr g ↦ elim (cases_lt (rank a) (rank b)) [
    | inl m ↦ inr m
    | inr k ↦ let bad : false ≡ true = sym apart ∙ (same_within a b fits b_fits).1 (g, k) in cc
  ]
]

parts_runs : (floor : ℕ) (x : Span) (a : AddrValue) (below above : Option Span) (late : List Span) → AreRunsFrom floor (x ∷ late) → IsWithin x a → IsPartBelow x a below → IsPartAbove x a above
    → AreRunsFrom floor (option_to_list below ++ (option_to_list above ++ late))
parts_runs floor x a None None late r within low high = runs_lower floor (rank x.hi + 1) late (omega (arith, r.0, r.1)) r.2
parts_runs floor x a (Some s) None late r within low high = let e = low.ends in (omega (arith, r.0, e.0), e.1, runs_lower (rank s.hi + 1) (rank x.hi + 1) late (omega (arith, e.2, within.1)) r.2)
parts_runs floor x a None (Some t) late r within low high = let f = high.ends in (omega (arith, r.0, within.0, f.0), f.1, runs_lower (rank t.hi + 1) (rank x.hi + 1) late (omega (arith, f.2)) r.2)
parts_runs floor x a (Some s) (Some t) late r within low high =
    let e = low.ends in
    let f = high.ends in
    (omega (arith, r.0, e.0), e.1, (omega (arith, e.2, f.0), f.1, runs_lower (rank t.hi + 1) (rank x.hi + 1) late (omega (arith, f.2)) r.2))

parts_places : (x : Span) (a : AddrValue) (below above : Option Span) (late : List Span) → IsWithin x a → IsPartBelow x a below → IsPartAbove x a above
    → places (option_to_list below ++ (option_to_list above ++ late)) < places (x ∷ late)
parts_places x a None None late within low high = omega (arith, within.0, within.1)
parts_places x a (Some s) None late within low high = let e = low.ends in omega (arith, within.0, within.1, e.0, e.1, e.2)
parts_places x a None (Some t) late within low high = let f = high.ends in omega (arith, within.0, within.1, f.0, f.1, f.2)
parts_places x a (Some s) (Some t) late within low high =
    let e = low.ends in
    let f = high.ends in
    omega (arith, within.0, within.1, e.0, e.1, e.2, f.0, f.1, f.2)

pub leaves : (old new early late : List Span) (x : Span) (below above : Option Span) (a : AddrValue) → IsAddr a → AreRunsFrom 0 old → old ≡ early ++ (x ∷ late) → new ≡ early ++ (option_to_list below ++ (option_to_list above ++ late))
    → IsWithin x a → IsPartBelow x a below → IsPartAbove x a above → IsParted old new a
leaves old new early late x below above a fits r was is within low high =
    let parts = runs_split 0 early (x ∷ late) (subst (AreRunsFrom 0) was r) in
    record {
      runs = subst (AreRunsFrom 0) (sym is) (runs_append 0 early _ parts.0 (parts_runs (end_of 0 early) x a below above late parts.1 within low high));
      fewer =
          let o = ap places was ∙ places_append early (x ∷ late) in
          let n = ap places is ∙ places_append early (option_to_list below ++ (option_to_list above ++ late)) in
          let l = parts_places x a below above late within low high in
          omega (arith, o, n, l);
      held = λ b b_fits.
          let outer = held_append early (x ∷ late) b in
          let after = held_append early (option_to_list below ++ (option_to_list above ++ late)) b in
          let mid = held_append (option_to_list below) (option_to_list above ++ late) b in
          let end = held_append (option_to_list above) late b in
          let to_old : IsHeld (early ++ (x ∷ late)) b → IsHeld old b = subst (λ xs. IsHeld xs b) (sym was) in
          let to_new : IsHeld (early ++ (option_to_list below ++ (option_to_list above ++ late))) b → IsHeld new b = subst (λ xs. IsHeld xs b) (sym is) in (
            (λ h. elim (after.0 (subst (λ xs. IsHeld xs b) is h)) [
              | inl i ↦ (let e = held_to 0 early b parts.0 i in apart_below a b (omega (arith, e, parts.1.0, within.0)), to_old (outer.1 (inl i)))
              | inr i ↦ elim (mid.0 i) [
                | inl j ↦ let w = (low.held b b_fits).0 j in (apart_below a b w.1, to_old (outer.1 (inr (inl w.0))))
                | inr j ↦ elim (end.0 j) [
                  | inl k ↦ let w = (high.held b b_fits).0 k in (apart_above a b w.1, to_old (outer.1 (inr (inl w.0))))
                  | inr k ↦ (let e = held_from (rank x.hi + 1) late b parts.1.2 k in apart_above a b (omega (arith, e, within.1)), to_old (outer.1 (inr (inr k))))
                ]
              ]
            ]),
            (λ h. elim (outer.0 (subst (λ xs. IsHeld xs b) was h.1)) [
              | inl i ↦ to_new (after.1 (inl i))
              | inr i ↦ elim i [
                | inl w ↦ elim (apart_order a b fits b_fits h.0) [
                  | inl l ↦ to_new (after.1 (inr (mid.1 (inl ((low.held b b_fits).1 (w, l))))))
                  | inr l ↦ to_new (after.1 (inr (mid.1 (inr (end.1 (inl ((high.held b b_fits).1 (w, l))))))))
                ]
                | inr k ↦ to_new (after.1 (inr (mid.1 (inr (end.1 (inr k))))))
              ]
            ]),
          );
    }

remove_split : (xs : List Span) (i : ℕ) → i < length xs → remove xs i ≡ take i xs ++ drop (suc i) xs
remove_split [] i l = absurd (omega arith)
remove_split (x ∷ xs) zero l = refl
remove_split (x ∷ xs) (suc i) l = ap (λ zs. x ∷ zs) (remove_split xs i (omega (arith, l)))

insert_set : (xs : List Span) (i : ℕ) (s t : Span) → i < length xs → set (insert xs (suc i) t) i s ≡ take i xs ++ (s ∷ t ∷ drop (suc i) xs)
insert_set [] i s t l = absurd (omega arith)
insert_set (x ∷ xs) zero s t l = refl
insert_set (x ∷ xs) (suc i) s t l = ap (λ zs. x ∷ zs) (insert_set xs i s t (omega (arith, l)))

-- the run at the place has the address
pub record Holds (runs : List Span) (at : ℕ) (x : Span) (a : AddrValue) : Type 0 where
  pub fits : IsAddr a
  pub within : at < length runs
  pub is : x ≡ slice_index_or runs at x
  pub has : IsWithin x a

pub whole_run : (runs : List Span) (at : ℕ) (x : Span) (a : AddrValue) → AreRunsFrom 0 runs → Holds runs at x a → IsPartBelow x a None → IsPartAbove x a None → IsParted runs (remove runs at) a
whole_run runs at x a r holds low high =
    leaves runs (remove runs at) (take at runs) (drop (suc at) runs) x None None a holds.fits r (nth_split runs at x holds.within holds.is) (remove_split runs at holds.within) holds.has low high

pub run_below : (runs : List Span) (at : ℕ) (x s : Span) (a : AddrValue) → AreRunsFrom 0 runs → Holds runs at x a → IsPartBelow x a (Some s) → IsPartAbove x a None → IsParted runs (set runs at s) a
run_below runs at x s a r holds low high =
    leaves runs (set runs at s) (take at runs) (drop (suc at) runs) x (Some s) None a holds.fits r (nth_split runs at x holds.within holds.is) (set_split runs at s holds.within) holds.has low high

pub run_above : (runs : List Span) (at : ℕ) (x t : Span) (a : AddrValue) → AreRunsFrom 0 runs → Holds runs at x a → IsPartBelow x a None → IsPartAbove x a (Some t) → IsParted runs (set runs at t) a
run_above runs at x t a r holds low high =
    leaves runs (set runs at t) (take at runs) (drop (suc at) runs) x None (Some t) a holds.fits r (nth_split runs at x holds.within holds.is) (set_split runs at t holds.within) holds.has low high

pub run_in_two : (runs : List Span) (at : ℕ) (x s t : Span) (a : AddrValue) → AreRunsFrom 0 runs → Holds runs at x a → IsPartBelow x a (Some s) → IsPartAbove x a (Some t) → IsParted runs (set (insert runs (suc at) t) at s) a
run_in_two runs at x s t a r holds low high =
    leaves runs (set (insert runs (suc at) t) at s) (take at runs) (drop (suc at) runs) x (Some s) (Some t) a holds.fits r (nth_split runs at x holds.within holds.is) (insert_set runs at s t holds.within) holds.has low high

-- a run that is split has more than one place
pub room_for_two : (runs : List Span) (at : ℕ) (x s t : Span) (a : AddrValue) → AreRunsFrom 0 runs → Holds runs at x a → IsPartBelow x a (Some s) → IsPartAbove x a (Some t) → length runs < places runs
room_for_two runs at x s t a r holds low high =
    let early = take at runs in
    let late = drop (suc at) runs in
    let was = nth_split runs at x holds.within holds.is in
    let parts = runs_split 0 early (x ∷ late) (subst (AreRunsFrom 0) was r) in
    let o = ap places was ∙ places_append early (x ∷ late) in
    let l = ap length was ∙ length-append early (x ∷ late) in
    let first = places_least 0 early parts.0 in
    let rest = places_least (rank x.hi + 1) late parts.1.2 in
    let e = low.ends in
    let f = high.ends in
    let has = holds.has in
    omega (arith, o, l, first, rest, e.0, e.1, e.2, f.0, f.1, f.2, has.0, has.1)

-- an address that the runs don't have
pub leaves_none : (runs : List Span) (p : ℕ) (a b : AddrValue) → AreRunsFrom 0 runs → IsGapAt runs p a → IsHeld runs b ↔ ((same_address a b ≡ false) × IsHeld runs b)
leaves_none runs p a b r parts = (
  (λ h. elim (decide (same_address a b)) [
    | inl same ↦ absurd (not_held runs p a r parts (subst (λ c. IsHeld runs c) (sym (same_address_is a b same)) h))
    | inr apart ↦ (apart, h)
  ]),
  (λ h. h.1),
)

-- the last run before the place has the address, and it is found at the place before
pub record Found (runs : List Span) (p : ℕ) (x : Span) (a : AddrValue) : Type 0 where
  pub some : 0 < p
  pub holds : Holds runs (p - 1) x a

pub leaves_held : (old new now : List Span) (a : AddrValue) → old ≡ now → IsParted old new a → (b : AddrValue) → IsAddr b → IsHeld new b ↔ ((same_address a b ≡ false) × IsHeld now b)
leaves_held old new now a e left = subst (λ xs. (b : AddrValue) → IsAddr b → IsHeld new b ↔ ((same_address a b ≡ false) × IsHeld xs b)) e left.held

pub held_in : (items runs : List Span) (p : ℕ) (x : Span) (a : AddrValue) → IsAddr a → runs ≡ items → p ≤ length runs → ((k : ℕ) (d : Span) → k < p → rank (slice_index_or runs k d).lo ≤ rank a)
    → (0 < p) × ((d : Span) → rank a ≤ rank (slice_index_or runs (p - 1) d).hi) → x ≡ slice_index_or runs (p - 1) x → Found items p x a
held_in items runs p x a fits same within below last is =
    let from = below (p - 1) x (omega (arith, last.0)) in
    let to = last.1 x in
    let lo = ap (λ (s : Span). rank s.lo) is in
    let hi = ap (λ (s : Span). rank s.hi) is in
    subst (λ xs. Found xs p x a) same (record { some = last.0; holds = record { fits = fits; within = omega (arith, within, last.0); is = is; has = (omega (arith, from, lo), omega (arith, to, hi)) } })
