use Rattle.std.proofs.Common.{slice_get, ap, ◌∙◌, arith}
use Rattle.wgr_request.proofs.Numbers.{first_byte, no_number, number_read, too_great, unread}
use Rattle.wgr_request.proofs.target.number_of.Goals as goal

pub returns-then-first-le48 : goal.returns-then-first-le48
returns-then-first-le48 c =
    let first = first_byte c.args.text.now c.in_ok-first.field-0.now (c.in_ok-first.ensures.value ∙ ap (λ t. slice_get t 0) c.as_bytes.ensures.value) in
    no_number c.args.text.now (omega (arith, first, c.if-first-le48.true))

pub returns-then-number-le-MAX_NUMBER : goal.returns-then-number-le-MAX_NUMBER
returns-then-number-le-MAX_NUMBER c =
    let first = first_byte c.args.text.now c.in_ok-first.field-0.now (c.in_ok-first.ensures.value ∙ ap (λ t. slice_get t 0) c.as_bytes.ensures.value) in
    number_read c.args.text.now c.in-Ok.number (omega (arith, first, c.if-first-le48.false)) c.in-Ok.ensures.value.0 c.if-number-le-MAX_NUMBER.true

pub returns-else-number-le-MAX_NUMBER : goal.returns-else-number-le-MAX_NUMBER
returns-else-number-le-MAX_NUMBER c =
    let first = first_byte c.args.text.now c.in_ok-first.field-0.now (c.in_ok-first.ensures.value ∙ ap (λ t. slice_get t 0) c.as_bytes.ensures.value) in
    too_great c.args.text.now c.in-Ok.number (omega (arith, first, c.if-first-le48.false)) c.in-Ok.ensures.value.0 (omega (arith, c.if-number-le-MAX_NUMBER.false))

pub returns-in-Err : goal.returns-in-Err
returns-in-Err c = unread c.args.text.now c.in-Err.field-0 c.in-Err.ensures.value.0
