use Rattle.std.proofs.Common.{◌<◌, length, get_or, decimal, arith}
use Rattle.std.proofs.lemmas.Fmt.{IsAscii-decimal}
use Rattle.std.proofs.lemmas.Str.{IsUtf8-from_ascii}
use Rattle.wgr_text.proofs.Lengths.{first_of_decimal, written_length, unread_length}
use Rattle.wgr_text.proofs.text.read_length.Goals as goal
use Rattle.wgr_text.proofs.text.read_length.Goals.{else-digits-gt1-via-then-digits-gt1+else-digits-le48, else-digits-gt1-via-else-digits-gt1}

pub returns-then-digits-le48-clause-none : goal.returns-then-digits-le48-clause-none
returns-then-digits-le48-clause-none c k fits e =
    let first = first_of_decimal k c.args.digits.now (omega arith) e c.if-digits-gt1.true in
    omega (arith, first)

pub returns-in-Ok-clause-written : goal.returns-in-Ok-clause-written
returns-in-Ok-clause-written c =
    let plain : 1 < length c.args.digits.now → 48 < get_or c.args.digits.now 0 0 = λ more. elim c.else-digits-gt1.branch [
      | else-digits-gt1-via-then-digits-gt1+else-digits-le48 w ↦ w.if-digits-le48.false
      | else-digits-gt1-via-else-digits-gt1 w ↦ absurd (omega (arith, w.if-digits-gt1.false))
    ] in
    written_length c.args.digits.now c.in-Ok.text.now c.parse.result c.ok.result c.in-Ok.ensures.cases.0 c.ok.ensures.value c.parse.ensures.value.0 plain

pub returns-in-Ok-clause-none : goal.returns-in-Ok-clause-none
returns-in-Ok-clause-none c = unread_length c.args.digits.now c.in-Ok.text.now c.parse.result c.ok.result c.in-Ok.ensures.cases.0 c.ok.ensures.value c.parse.ensures.value.0

pub returns-in-Err-clause-none : goal.returns-in-Err-clause-none
returns-in-Err-clause-none c k fits e = c.in-Err.ensures.cases.0 (rw e (IsUtf8-from_ascii (decimal k) (IsAscii-decimal k (omega arith))))
