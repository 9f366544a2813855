use Rattle.std.proofs.Common.{◌≡◌, ◌-◌, get_or, arith, ℕ}
use Rattle.wgr_http.proofs.DigitLemmas.{number_small, number_more, digit_range}
use Rattle.wgr_http.proofs.length.number_of.Goals as goal

pub overflow_mul-number : goal.overflow_mul-number
overflow_mul-number c =
    let small = number_small c.args.text.now c.loop-digit.digit-index c.requires.digits c.requires.short (omega arith) in
    omega (arith, small, c.loop-digit.invariant)

pub overflow_add-number : goal.overflow_add-number
overflow_add-number c =
    let i : ℕ = c.loop-digit.digit-index in
    let small = number_small c.args.text.now i c.requires.digits c.requires.short (omega arith) in
    let digit = digit_range c.args.text.now i c.requires.digits (omega arith) in
    omega (arith, small, c.loop-digit.invariant, c.from.ensures, digit)

pub loop-digit-preserved : goal.loop-digit-preserved
loop-digit-preserved c =
    let i : ℕ = c.loop-digit.digit-index in
    let e : c.from.result ≡ get_or c.args.text.now i 0 - 48 = c.from.ensures in
    rw e (number_more c.args.text.now i c.loop-digit.number c.requires.digits (omega arith) c.loop-digit.invariant)
