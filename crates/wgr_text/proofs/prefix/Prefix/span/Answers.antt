use Rattle.std.proofs.Common.{arith}
use Rattle.wgr_text.proofs.Spans.{last_fits, fits_word}
use Rattle.wgr_text.proofs.prefix.Prefix.span.Goals as goal

pub overflow_add-last : goal.overflow_add-last
overflow_add-last c =
    let h = last_fits c.self.inside.address c.self.inside.length _ _ _ _ c.family-family.ensures.value c.width.ensures c.number.ensures.value c.low_bits.ensures (c.self.invariant.0, c.self.invariant.1) c.self.invariant.2 in
    let k = fits_word _ _ h in omega arith

pub returns-in-None : goal.returns-in-None
returns-in-None c =
    let h = last_fits c.self.inside.address c.self.inside.length _ _ _ _ c.family-family.ensures.value c.width.ensures c.number.ensures.value c.low_bits.ensures (c.self.invariant.0, c.self.invariant.1) c.self.invariant.2 in
    let no = c.in-None.ensures.fits.1 h in
    cc
