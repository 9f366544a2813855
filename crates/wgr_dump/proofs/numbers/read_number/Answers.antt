use Rattle.std.proofs.Common.{◌≡◌, ◌==◌, ℕ, ◌<◌, Bool, true, false, List, length, sym, ◌∙◌, arith}
use Rattle.std.proofs.lemmas.Str.{IsUtf8-from_ascii}
use Rattle.std.proofs.lemmas.Fmt.{IsAscii-from_digits}
use Rattle.std.proofs.lemmas.Bool.Decides.{nat_tests}
use Rattle.std.proofs.lemmas.Bool.{false≢true}
use Rattle.wgr_dump.proofs.Digits.{are_digits, number_read, some_digits}
use Rattle.wgr_dump.proofs.numbers.read_number.Goals as goal
use Rattle.wgr_dump.proofs.numbers.read_number.Goals.{then-is_empty-via-then-is_empty, then-is_empty-via-else-is_empty+then-field-most, then-is_empty-via-else-is_empty+else-field-most+then-not-are_digits}

no_digits : (ds : List ℕ) → (length ds == 0) ≡ true → 0 < length ds → ⊥
no_digits ds is some = grind (arith, nat_tests)

not_digits : (test : Bool) → test ≡ true → false ≡ test → ⊥
not_digits test one other = absurd (false≢true (other ∙ one))

pub returns-then-is_empty-clause-none : goal.returns-then-is_empty-clause-none
returns-then-is_empty-clause-none c n s =
    elim c.then-is_empty.branch [
      | then-is_empty-via-then-is_empty w ↦ no_digits c.args.field.now (sym c.is_empty.ensures ∙ w.if-is_empty.true) s.0.0
      | then-is_empty-via-else-is_empty+then-field-most w ↦ omega (arith, s.1, w.if-field-most.true)
      | then-is_empty-via-else-is_empty+else-field-most+then-not-are_digits w ↦ not_digits _ (are_digits c.args.field.now s.0.1) (w.if-not-are_digits.ensures)
    ]

pub returns-in-Ok-clause-none : goal.returns-in-Ok-clause-none
returns-in-Ok-clause-none c =
    let read = number_read c.args.field.now c.in-Ok.text.now c.parse.result c.ok.result c.args.most c.in-Ok.ensures.cases.0 c.ok.ensures.value c.parse.ensures.value.0 (sym c.if-not-are_digits.ensures) (some_digits c.args.field.now (sym c.if-is_empty.ensures)) c.if-field-most.false c.requires in
    rw read tt

pub returns-in-Err-clause-none : goal.returns-in-Err-clause-none
returns-in-Err-clause-none c n s = c.in-Err.ensures.cases.0 (IsUtf8-from_ascii c.args.field.now (IsAscii-from_digits c.args.field.now s.0.1))
