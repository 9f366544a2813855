use Rattle.std.proofs.Common.{ap, arith}
use Rattle.wgr_text.specs.Prefix.{width}
use Rattle.wgr_text.proofs.Spelled.{length_small, nothing_spelled, length_fits}
use Rattle.wgr_text.proofs.text.read_loose.Goals as goal

pub returns-in_err-address-clause-none : goal.returns-in_err-address-clause-none
returns-in_err-address-clause-none c =
    let found = c.in_ok-front.ensures.found in
    rw c.from_residual-in_err-address.ensures (nothing_spelled c.args.text.now _ _ c.in_default.ensures.none found.0 found.1 (λ a k s e fits. c.in_err-address.ensures.none a s))

pub returns-in_err-length-clause-none : goal.returns-in_err-length-clause-none
returns-in_err-length-clause-none c =
    let found = c.in_ok-front.ensures.found in
    rw c.from_residual-in_err-length.ensures (nothing_spelled c.args.text.now _ _ c.in_default.ensures.none found.0 found.1 (λ a k s e fits. c.in_err-length.ensures.none k (length_small a k fits) e))

pub returns-then-length-width-clause-none : goal.returns-then-length-width-clause-none
returns-then-length-width-clause-none c =
    let found = c.in_ok-front.ensures.found in
    nothing_spelled c.args.text.now _ _ c.in_default.ensures.none found.0 found.1 (λ a k s e fits.
    let most = length_fits _ _ _ c.in_ok-length.length c.in_ok-address.ensures.spelled c.in_ok-length.ensures.written (omega arith) a k s e fits in
    omega (arith, most, c.width-2.ensures, ap width c.family-2.ensures.value))
