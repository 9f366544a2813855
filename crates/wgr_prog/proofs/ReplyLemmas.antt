-- The parts of a reply.
use Rattle.std.proofs.Common.{◌≡◌, ◌==◌, ◌<◌, ◌++◌, ℕ, suc, zero, true, false, List, [], ◌∷◌, Option, Some, None, IfSome, drop, get_or, length, refl, ap, sym, ◌∙◌, append-nil, arith}
use Rattle.std.specs.Io.KnownBytes.{Consumes, IsAtEnd}
use Rattle.std.specs.List.{position}
use Rattle.std.proofs.lemmas.List.Quantifiers.{position-Some}
use Rattle.wgr_prog.specs.Reply.{behind_newline}

behind_place : (text : List ℕ) (end : ℕ) → end < length text → (get_or text end 0 == 10) ≡ true → ((k : ℕ) → k < end → (get_or text k 0 == 10) ≡ false) → behind_newline text ≡ drop (suc end) text
behind_place [] end within here before = absurd (omega (arith, within))
behind_place (b ∷ text) zero within here before = rw here refl
behind_place (b ∷ text) (suc end) within here before =
    let differs : (b == 10) ≡ false = before 0 (omega arith) in
    rw differs (behind_place text end (omega (arith, within)) here (λ (k : ℕ) (below : k < end). before (suc k) (omega (arith, below))))

-- what is behind the first newline
pub behind_newline_is : (text : List ℕ) (end : ℕ) → position (λ (byte : ℕ). byte == 10) text ≡ Some end → behind_newline text ≡ drop (suc end) text
behind_newline_is text end found =
    let place = position-Some (λ (byte : ℕ). byte == 10) text end 0 found in
    behind_place text end place.0 place.1 place.2

-- all that was to be read
pub all_read : (old new : Option (List ℕ)) (text : List ℕ) → Consumes old new text → IsAtEnd new → IfSome old (λ all. text ≡ all)
all_read None new text took ended = tt
all_read (Some all) None text took ended = absurd took
all_read (Some all) (Some rest) text took ended = sym (took ∙ ap (λ (l : List ℕ). text ++ l) ended ∙ append-nil text)
