use Rattle.std.proofs.Common.{◌≡◌, ℕ, List, sym, ◌∙◌, ap, Global, Vec}
use Rattle.std.specs.Net.Addr.{IsIpv6OfBits, ipv6_segments}
use Rattle.std.specs.Net.Text.{hex_groups_text}
use Rattle.wgr_text.specs.Prefix.{AddrValue}
use Rattle.wgr_text.specs.PrefixText.{groups_of_number}
use Rattle.wgr_text.proofs.Written.{canonical_v6}
use Rattle.wgr_text.proofs.text.addr_text.Goals as goal

pub returns-in_ok-to_string-in-V6 : goal.returns-in_ok-to_string-in-V6
unfolding IsIpv6OfBits groups_of_number
returns-in_ok-to_string-in-V6 c =
    ap (λ (v : Vec ℕ Global). v.items) c.into_bytes.ensures.value ∙ c.in_ok-to_string-in-V6.ensures.ok
    ∙ ap hex_groups_text (ap ipv6_segments c.hex_groups.ensures ∙ c.from_bits.ensures ∙ ap groups_of_number c.number-in-V6.ensures.value)
    ∙ sym (canonical_v6 c.args.address.now c.family.result c.family.ensures.value c.in-V6.is)
