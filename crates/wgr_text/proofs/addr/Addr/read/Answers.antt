use Rattle.std.proofs.Common.{rules}
use Rattle.std.specs.Net.Addr.{ipv4_bits, ipv6_bits}
use Rattle.std.specs.declared.net.ip_addr.IpAddr.TheVariants as Ip
use Rattle.wgr_text.specs.declared.addr.Family.TheVariants.{V4, V6}
use Rattle.wgr_text.specs.PrefixText.{SpellsNumber, number_of_octets, number_of_groups}
use Rattle.wgr_text.proofs.addr.Addr.read.Goals as goal

pub returns-in-Ok-V4-clause-spelled : goal.returns-in-Ok-V4-clause-spelled
unfolding ipv4_bits number_of_octets
returns-in-Ok-V4-clause-spelled c = (c.in-Ok-V4.ip.octets, rw c.in-Ok-V4.field-0-is at c.in-Ok-V4.ensures, search rules)

pub returns-in-Ok-V6-clause-spelled : goal.returns-in-Ok-V6-clause-spelled
unfolding ipv6_bits number_of_groups
returns-in-Ok-V6-clause-spelled c = (c.in-Ok-V6.ip.segments, rw c.in-Ok-V6.field-0-is at c.in-Ok-V6.ensures, search rules)

pub returns-in-Err-clause-none : goal.returns-in-Err-clause-none
returns-in-Err-clause-none c a =
    elim a.family as (λ f. SpellsNumber c.args.text.now f a.number → ⊥) [
      | V4 ↦ λ s. c.in-Err.ensures (Ip.V4 (record { octets = s.0 })) s.1
      | V6 ↦ λ s. c.in-Err.ensures (Ip.V6 (record { segments = s.0 })) s.1
    ]
