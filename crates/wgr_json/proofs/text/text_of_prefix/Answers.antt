use Rattle.std.proofs.Common.{ℕ, ◌^◌, ◌<◌, ◌≤◌, subst, sym, arith}
use Rattle.std.specs.Prelude.{IsUtf8}
use Rattle.wgr_text.specs.declared.addr.Family.{Family}
use Rattle.wgr_text.specs.declared.addr.Family.TheVariants.{V4, V6}
use Rattle.wgr_text.specs.Prefix.{width}
use Rattle.wgr_json.proofs.Ascii.{utf8_prefix}
use Rattle.wgr_json.proofs.text.text_of_prefix.Goals as goal

small : (family : Family) (n : ℕ) → n ≤ width family → n < 2 ^ 64
small V4 n fits = omega (arith, fits)
small V6 n fits = omega (arith, fits)

pub as_string-requires : goal.as_string-requires
as_string-requires c =
    let p = c.args.prefix.now in
    subst IsUtf8 (sym c.in_ok-text.ensures) (utf8_prefix p (small p.address.family p.length c.rules_hold.ensures.prefix.0))
