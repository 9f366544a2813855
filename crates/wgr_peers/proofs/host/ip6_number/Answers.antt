use Rattle.wgr_text.specs.declared.addr.Family.TheVariants.{V6}
use Rattle.wgr_peers.proofs.TextLemmas.{v4_only}
use Rattle.wgr_peers.proofs.host.ip6_number.Goals as goal

pub returns-in_err-address-clause-none : goal.returns-in_err-address-clause-none
returns-in_err-address-clause-none c = rw c.from_residual.ensures (λ n spelled. c.in_err-address.ensures.none (record { family = V6; number = n }) spelled)

pub returns-in-V4-clause-none : goal.returns-in-V4-clause-none
returns-in-V4-clause-none c = v4_only _ _ _ c.family.ensures.value c.in-V4.is c.in_ok-address.ensures.spelled
