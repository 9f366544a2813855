use Rattle.std.proofs.Common.{◌≡◌, length, rules, arith, ap}
use Rattle.base64.specs.GeneralPurpose.{IsBytes}
use Rattle.wgr_text.proofs.KeyLemmas.{length-key_text, key_text_decoded, never_fails, length_decoded}
use Rattle.wgr_text.proofs.key.Key.read.Goals as goal

pub returns-then-text-ne44-clause-none : goal.returns-then-text-ne44-clause-none
returns-then-text-ne44-clause-none c key is =
    let n : length key.0 ≡ 32 = is.0 in
    absurd (omega (arith, length-key_text key.0 n, ap length is.2))

pub returns-in_default-clause-none : goal.returns-in_default-clause-none
returns-in_default-clause-none c key is =
    never_fails c.args.text.now key.0 c.in_default.field-0 is.1 is.2 (c.in_default.ensures.err)

pub returns-then-count-ne32-clause-none : goal.returns-then-count-ne32-clause-none
returns-then-count-ne32-clause-none c key is =
    let ok = c.in-Ok.ensures.ok in
    let n : length key.0 ≡ 32 = is.0 in
    absurd (omega (arith, n, length_decoded c.args.text.now key.0 _ c.in-Ok.count is.1 is.2 ok.0 (omega arith)))

pub returns-clause-spelled : goal.returns-clause-spelled
returns-clause-spelled c =
    let ok = c.in-Ok.ensures.ok in
    let n : c.in-Ok.count ≡ 32 = c.if-count-ne32.false in
    let bytes : IsBytes c.args.text.now = λ i. omega (arith, c.type_inv.text i) in
    (search rules, c.are_bytes.ensures.each, rw c.copy_from_slice.ensures.after (key_text_decoded c.args.text.now _ bytes (rw n at ok.0)))
