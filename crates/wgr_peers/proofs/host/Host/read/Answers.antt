use Rattle.std.proofs.Common.{◌∙◌, ap, map}
use Rattle.std.specs.Char.{to_ascii_lowercase}
use Rattle.std.specs.Net.Addr.{IsIpv6OfBits, ipv6_segments}
use Rattle.std.specs.Net.Text.{hex_groups_text}
use Rattle.wgr_text.specs.PrefixText.{groups_of_number}
use Rattle.wgr_peers.proofs.TextLemmas.{address_text, name_text, no_host}
use Rattle.wgr_peers.proofs.host.Host.read.Goals as goal

pub invariant_of-result : goal.invariant_of-result
invariant_of-result c = (c.args.text.now, name_text _ _ c.in-Some.ensures.named (c.in_ok-to_ascii_lowercase.ensures.ok ∙ ap (map to_ascii_lowercase) c.in-Some.ensures.some))

pub invariant_of-result-2 : goal.invariant_of-result-2
unfolding IsIpv6OfBits groups_of_number
invariant_of-result-2 c = (
  c.args.text.now,
  address_text _ _ c.in-Some-ip6_number.number c.in_default.ensures.none c.in-Some-ip6_number.ensures.spelled
      (c.in_ok-to_string.ensures.ok ∙ ap hex_groups_text (ap ipv6_segments c.hex_groups.ensures ∙ c.from_bits.ensures)),
)

pub returns-in_default-ip6_number-clause-none : goal.returns-in_default-ip6_number-clause-none
returns-in_default-ip6_number-clause-none c = no_host _ c.in_default.ensures.none c.in_default-ip6_number.ensures.none

pub returns-clause-kept : goal.returns-clause-kept
unfolding invariant_of-result-2
returns-clause-kept c = (invariant_of-result-2 c).1
