use Rattle.std.proofs.Common.{◌≡◌, ◌==◌, ℕ, ◌<◌, Bool, true, false, List, length, subst, sym, ◌∙◌, arith}
use Rattle.std.specs.Str.Parse.{AllDigits}
use Rattle.std.proofs.lemmas.Bool.Decides.{nat_tests}
use Rattle.std.proofs.lemmas.Bool.{false≢true}
use Rattle.wgr_dump.proofs.Digits.{are_digits}
use Rattle.wgr_words.proofs.numbers.read_number.Goals as goal
use Rattle.wgr_words.proofs.numbers.read_number.Goals.{then-is_empty-via-then-is_empty, then-is_empty-via-else-is_empty+then-text-gt19, then-is_empty-via-else-is_empty+else-text-gt19+then-not-are_digits}

no_digits : (ds : List ℕ) → (length ds == 0) ≡ true → 0 < length ds → ⊥
no_digits ds is some = grind (arith, nat_tests)

not_digits : (test : Bool) → test ≡ true → false ≡ test → ⊥
not_digits test one other = absurd (false≢true (other ∙ one))

pub returns-then-is_empty-clause-none : goal.returns-then-is_empty-clause-none
returns-then-is_empty-clause-none c n s =
    elim c.then-is_empty.branch [
      | then-is_empty-via-then-is_empty w ↦ no_digits c.args.text.now (sym c.is_empty.ensures ∙ w.if-is_empty.true) s.0.0.0
      | then-is_empty-via-else-is_empty+then-text-gt19 w ↦ omega (arith, s.0.1, w.if-text-gt19.true)
      | then-is_empty-via-else-is_empty+else-text-gt19+then-not-are_digits w ↦
          not_digits _ (are_digits w.as_bytes.result.now (subst (λ (t : List ℕ). AllDigits 10 t) (sym w.as_bytes.ensures.value) s.0.0.1)) (w.if-not-are_digits.ensures)
    ]
