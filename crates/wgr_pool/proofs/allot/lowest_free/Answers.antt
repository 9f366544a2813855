use Rattle.std.proofs.Common.{◌+◌, ◌<◌, ◌∷◌, ◌≡◌, [], inl, inr, arith, refl, ap, subst, ◌∙◌}
use Rattle.std.proofs.lemmas.Bool.{cases_lt}
use Rattle.wgr_text.specs.Prefix.{rank}
use Rattle.wgr_pool.specs.Spans.{RisesFrom, IsHeld}
use Rattle.wgr_pool.proofs.Walk.{Walk, walk_on, walk_free, walk_fills, walk_full, walk_stops, none_first, next_is}
use Rattle.wgr_pool.proofs.allot.lowest_free.Goals as goal

pub returns-then-not-is_at_most-clause-lowest : goal.returns-then-not-is_at_most-clause-lowest
returns-then-not-is_at_most-clause-lowest g c = λ h.
    let before = c.in_ok-span.ensures.was_honest h in
    let took = rw c.in-Some.is at (c.in_ok-span.ensures.first h) in
    let order = subst (RisesFrom _) took (g.met.H.Holds.in_order c.loop-span.holds before) in
    let w = c.loop-span.invariant.4 before in
    let above : rank c.loop-span.candidate < rank c.in-Some.span.lo = elim (cases_lt (rank c.loop-span.candidate) (rank c.in-Some.span.lo)) [ inl l ↦ l | inr g ↦ (let no = c.if-not-is_at_most.ensures.1 g in cc) ] in
    walk_free _ _ _ _ _ _ c.assignable-lo.ensures w c.loop-span.invariant.0 c.loop-span.invariant.1 c.loop-span.invariant.2
    (λ i. none_first _ _ _ _ order above (subst (λ xs. IsHeld xs c.loop-span.candidate) took i))

pub returns-then-not-is_at_most-clause-taken : goal.returns-then-not-is_at_most-clause-taken
returns-then-not-is_at_most-clause-taken g c = λ h.
    let before = c.in_ok-span.ensures.was_honest h in
    let took = rw c.in-Some.is at (c.in_ok-span.ensures.first h) in
    walk_stops _ _ (c.in-Some.span ∷ []) _ _ (subst (λ xs. Walk (g.H.Holds.rest c.args.holds.now) xs c.assignable-lo.result.lo c.loop-span.candidate) took (c.loop-span.invariant.4 before)) (omega arith)

pub returns-then-is_at_most-clause-lowest : goal.returns-then-is_at_most-clause-lowest
returns-then-is_at_most-clause-lowest g c = λ h.
    let before = c.in_ok-span.ensures.was_honest h in
    let took = rw c.in-Some.is at (c.in_ok-span.ensures.first h) in
    let w = subst (λ xs. Walk (g.H.Holds.rest c.args.holds.now) xs c.assignable-lo.result.lo c.loop-span.candidate) took (c.loop-span.invariant.4 before) in
    let begins = c.if-not-is_at_most.ensures.0 refl in
    let ends = c.if-is_at_most.ensures.0 refl in
    walk_full _ _ _ _ _ _ _ c.assignable-lo.ensures w begins ends

pub returns-then-is_at_most-clause-filled : goal.returns-then-is_at_most-clause-filled
returns-then-is_at_most-clause-filled g c = λ h.
    let before = c.in_ok-span.ensures.was_honest h in
    let took = rw c.in-Some.is at (c.in_ok-span.ensures.first h) in
    let w = subst (λ xs. Walk (g.H.Holds.rest c.args.holds.now) xs c.assignable-lo.result.lo c.loop-span.candidate) took (c.loop-span.invariant.4 before) in
    walk_fills _ _ _ _ _ _ _ c.assignable-lo.ensures w c.loop-span.invariant.0 c.loop-span.invariant.1 c.loop-span.invariant.2

pub loop-span-preserved-then-is_at_most-2 : goal.loop-span-preserved-then-is_at_most-2
loop-span-preserved-then-is_at_most-2 g c =
    let begins = c.if-not-is_at_most.ensures.0 refl in
    let below : rank c.in-Some.span.hi < rank c.assignable-lo.result.hi = elim (cases_lt (rank c.in-Some.span.hi) (rank c.assignable-lo.result.hi)) [ inl l ↦ l | inr g ↦ (let no = c.if-is_at_most.ensures.1 g in cc) ] in
    let from = c.if-is_at_most-2.ensures.0 refl in
    let is : c.sibling-candidate.result ≡ record { family = c.assignable-lo.result.hi.family; number = c.in-Some.span.hi.number + 1 } = c.sibling-candidate.ensures ∙ ap (λ n. record { family = c.assignable-lo.result.hi.family; number = n + 1 }) c.number.ensures.value in
    let next = next_is _ _ _ _ _ _ c.assignable-lo.ensures c.loop-span.invariant.1 from below c.number.ensures.fits is in (
      next.0,
      omega (arith, c.loop-span.invariant.1, from, next.1),
      omega (arith, below, next.1),
      g.met.H.Holds.keeps_on c.args.holds.now c.loop-span.holds c.next_hold.new.self c.loop-span.invariant.3 c.next_hold.ensures.keeps,
      λ h.
          let before = c.in_ok-span.ensures.was_honest h in
          let took = rw c.in-Some.is at (c.in_ok-span.ensures.first h) in
          let w = subst (λ xs. Walk (g.H.Holds.rest c.args.holds.now) xs c.assignable-lo.result.lo c.loop-span.candidate) took (c.loop-span.invariant.4 before) in
          walk_on _ _ _ _ _ _ w begins (omega (arith, from, next.1)) (λ a from' below'. omega (arith, below', next.1)) (omega (arith, next.1)),
    )

pub loop-span-preserved : goal.loop-span-preserved
loop-span-preserved g c =
    let begins = c.if-not-is_at_most.ensures.0 refl in
    let past : rank c.in-Some.span.hi < rank c.loop-span.candidate = elim (cases_lt (rank c.in-Some.span.hi) (rank c.loop-span.candidate)) [ inl l ↦ l | inr g ↦ (let no = c.if-is_at_most-2.ensures.1 g in cc) ] in (
      c.loop-span.invariant.0,
      c.loop-span.invariant.1,
      c.loop-span.invariant.2,
      g.met.H.Holds.keeps_on c.args.holds.now c.loop-span.holds c.next_hold.new.self c.loop-span.invariant.3 c.next_hold.ensures.keeps,
      λ h.
          let before = c.in_ok-span.ensures.was_honest h in
          let took = rw c.in-Some.is at (c.in_ok-span.ensures.first h) in
          let w = subst (λ xs. Walk (g.H.Holds.rest c.args.holds.now) xs c.assignable-lo.result.lo c.loop-span.candidate) took (c.loop-span.invariant.4 before) in
          walk_on _ _ _ _ _ _ w begins (omega arith) (λ a from' below'. absurd (omega (arith, from', below'))) past,
    )
