use Rattle.std.proofs.Common.{arith}
use Rattle.wgr_text.proofs.Spans.{fits_word}
use Rattle.wgr_pool.proofs.Ranges.{server_fits}
use Rattle.wgr_pool.proofs.pool.Pool.server.Goals as goal

pub overflow_add-number : goal.overflow_add-number
overflow_add-number c =
    let fits = fits_word _ _ (server_fits _ _ _ c.self.invariant c.address-lo.ensures.value c.number.ensures.value) in
    omega (arith, fits)

pub sibling-requires : goal.sibling-requires
sibling-requires c = server_fits _ _ _ c.self.invariant c.address-lo.ensures.value c.number.ensures.value
