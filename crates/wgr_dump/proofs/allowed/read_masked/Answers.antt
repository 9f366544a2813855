use Rattle.wgr_dump.proofs.allowed.read_masked.Goals as goal

pub returns-in_err-address-clause-none : goal.returns-in_err-address-clause-none
returns-in_err-address-clause-none c = rw c.from_residual.ensures (λ p s. c.in_err-address.ensures.none s.0 s.1 s.2)
