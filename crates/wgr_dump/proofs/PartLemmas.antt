-- Where the first part of a text ends.
use Rattle.std.proofs.Common.{◌≡◌, ◌==◌, ◌<◌, ◌≤◌, ◌+◌, ℕ, suc, zero, Bool, true, false, cond, not, List, [], ◌∷◌, length, get_or, take, drop, refl, arith}
use Rattle.std.specs.List.{onto_first, position_or_len}
use Rattle.wgr_dump.specs.Fields.{parts_between}

-- the first separator ends the first part
pub part_at : (c : ℕ) (text : List ℕ) (end : ℕ) → end < length text → (get_or text end 0 == c) ≡ true → ((k : ℕ) → k < end → (get_or text k 0 == c) ≡ false)
    → parts_between c text ≡ take end text ∷ parts_between c (drop (suc end) text)
part_at c [] end within here before = absurd (omega arith)
part_at c (b ∷ text) zero within here before = rw here refl
part_at c (b ∷ text) (suc end) within here before =
    let differs : (b == c) ≡ false = before 0 (omega arith) in
    let later : parts_between c text ≡ take end text ∷ parts_between c (drop (suc end) text) = part_at c text end (omega arith) here (λ (k : ℕ) (below : k < end). before (suc k) (omega arith)) in
    rw (differs, later) refl

-- a text without separators is one part
pub part_whole : (c : ℕ) (text : List ℕ) → length text ≤ position_or_len (λ (byte : ℕ). byte == c) text → parts_between c text ≡ text ∷ []
part_whole c [] none = refl
part_whole c (b ∷ text) none = elim (b == c) as (λ (v : Bool).
    suc (length text) ≤ cond (not v) (1 + position_or_len (λ (byte : ℕ). byte == c) text) 0 → cond v ([] ∷ parts_between c text) (onto_first b (parts_between c text)) ≡ (b ∷ text) ∷ []) [
      | true ↦ λ h. absurd (omega arith)
      | false ↦ λ h. rw (part_whole c text (omega arith)) refl
    ] none
