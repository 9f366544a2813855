use Rattle.std.proofs.Common.{◌+◌, arith, ap, subst, ◌∙◌}
use Rattle.wgr_pool.specs.Pool.{IsRangeOf}
use Rattle.wgr_text.proofs.Spans.{fits_word}
use Rattle.wgr_pool.proofs.Ranges.{pool_room, hi_fits, assignable_range, reserved_most}
use Rattle.wgr_pool.proofs.pool.Pool.assignable.Goals as goal

pub overflow_add-number : goal.overflow_add-number
overflow_add-number c =
    let gap = pool_room _ _ _ c.self.invariant c.span-lo.ensures.ends in
    let fits = fits_word _ _ (hi_fits _ _ _ c.span-lo.ensures.set c.span-lo.ensures.ends) in
    omega (arith, gap, fits, c.number.ensures.value)

pub sibling-requires : goal.sibling-requires
sibling-requires c =
    let gap = pool_room _ _ _ c.self.invariant c.span-lo.ensures.ends in
    let fits = hi_fits _ _ _ c.span-lo.ensures.set c.span-lo.ensures.ends in
    omega (arith, gap, fits, c.number.ensures.value)

pub overflow_sub-number : goal.overflow_sub-number
overflow_sub-number c =
    let gap = pool_room _ _ _ c.self.invariant c.span-lo.ensures.ends in
    let most = reserved_most c.family.result in
    omega (arith, gap, most, c.number-2.ensures.value, c.reserved.ensures)

pub returns : goal.returns
returns c =
    let low = c.sibling.ensures ∙ ap (λ n. record { family = c.span-lo.result.lo.family; number = n + 2 }) c.number.ensures.value in
    let high = c.sibling-2.ensures ∙ ap (λ n. record { family = c.span-lo.result.lo.family; number = n }) (omega (arith, c.number-2.ensures.value, c.reserved.ensures)) in
    subst (λ p. IsRangeOf p c.sibling.result c.sibling-2.result) c.self.view_is
    (assignable_range c.family.result c.self.inside.prefix _ _ _ _ c.family.ensures.value c.self.invariant c.span-lo.ensures.set c.span-lo.ensures.ends low high)
