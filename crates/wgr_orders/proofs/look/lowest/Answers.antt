use Rattle.std.proofs.Common.{◌≡◌, ℕ, ◌+◌, ◌<◌, ◌≤◌, Bool, ◌||◌, true, false, List, length, slice_index_or, nat_eq, arith, inl, inr, sym, ap, subst, ◌∙◌, true≢false}
use Rattle.std.proofs.lemmas.Bool.{cases_lt}
use Rattle.std.specs.List.{list_any}
use Rattle.wgr_model.proofs.StepLemmas.{an_id_is_unused}
use Rattle.wgr_orders.proofs.look.lowest.Goals as goal

-- a flag that was set here is that of an id
is_among : (ids : List ℕ) (flags used : List Bool) (id : ℕ) → slice_index_or used id false ≡ (slice_index_or flags id false || list_any (nat_eq id) ids) → slice_index_or flags id false ≡ false
    → slice_index_or used id false ≡ true → list_any (nat_eq id) ids ≡ true
is_among ids flags used id marked clear set = sym (ap (λ b. b || list_any (nat_eq id) ids) clear) ∙ sym marked ∙ set

-- of the ids to the last one not all are used
not_last : (ids : List ℕ) (id : ℕ) → length ids < 65536 → id ≤ 65536 → ((k : ℕ) → 1 ≤ k → k < id + 1 → list_any (nat_eq k) ids ≡ true) → id < 65536
not_last ids id few most used = elim (cases_lt id 65536) [
  | inl below ↦ below
  | inr last ↦
      let free = an_id_is_unused ids few in
      let held : list_any (nat_eq free.0) ids ≡ true = used free.0 free.1.0 (omega (arith, free.1.1, last)) in
      absurd (true≢false (sym held ∙ free.2))
]

-- this one is used too
one_more : (ids : List ℕ) (id : ℕ) → ((k : ℕ) → 1 ≤ k → k < id → list_any (nat_eq k) ids ≡ true) → list_any (nat_eq id) ids ≡ true → (k : ℕ) → 1 ≤ k → k < id + 1 → list_any (nat_eq k) ids ≡ true
one_more ids id used this k lo hi = elim (cases_lt k id) [
  | inl below ↦ used k lo below
  | inr not_below ↦ let e : id ≡ k = omega (arith, hi, not_below) in subst (λ i. list_any (nat_eq i) ids ≡ true) e this
]

pub loop-id-smaller : goal.loop-id-smaller
loop-id-smaller c =
    let most : c.loop-id.id ≤ 65536 = c.loop-id.invariant.is_id.1 in
    let within : c.loop-id.id < 65537 = omega (arith, most) in
    let there : c.loop-id.id < length c.args.used.now = omega (arith, within, c.requires.all) in
    let this = is_among c.args.ids.now c.args.used.now c.mark_all.new.used c.loop-id.id (c.mark_all.ensures.marked c.loop-id.id there) (c.requires.clear c.loop-id.id within) c.loop-id-test.true in
    let below = not_last c.args.ids.now c.loop-id.id c.requires.room most (one_more c.args.ids.now c.loop-id.id c.loop-id.invariant.used this) in
    omega (arith, below)

pub loop-id-preserved : goal.loop-id-preserved
loop-id-preserved c =
    let most : c.loop-id.id ≤ 65536 = c.loop-id.invariant.is_id.1 in
    let within : c.loop-id.id < 65537 = omega (arith, most) in
    let there : c.loop-id.id < length c.args.used.now = omega (arith, within, c.requires.all) in
    let this = is_among c.args.ids.now c.args.used.now c.mark_all.new.used c.loop-id.id (c.mark_all.ensures.marked c.loop-id.id there) (c.requires.clear c.loop-id.id within) c.loop-id-test.true in
    let used = one_more c.args.ids.now c.loop-id.id c.loop-id.invariant.used this in
    let below = not_last c.args.ids.now c.loop-id.id c.requires.room most used in
    record { is_id = (omega arith, omega (arith, below)); used = used }
