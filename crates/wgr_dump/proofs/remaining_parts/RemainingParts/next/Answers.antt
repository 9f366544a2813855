use Rattle.std.proofs.Common.{◌≡◌, ◌==◌, ◌+◌, ◌-◌, ℕ, Bool, true, false, cond, List, length, take, drop, refl, sym, ap, ◌∙◌, arith, add-one, length-drop}
use Rattle.std.specs.Prelude.{Some, None}
use Rattle.std.specs.List.{position_or_len}
use Rattle.std.proofs.lemmas.List.{take_all}
use Rattle.std.proofs.lemmas.Bool.{ltb-false}
use Rattle.std.proofs.lemmas.List.Quantifiers.{position-Some}
use Rattle.wgr_dump.specs.PartsLeft.{parts_of_rest}
use Rattle.wgr_dump.proofs.PartLemmas.{part_at, part_whole}
use Rattle.wgr_dump.proofs.remaining_parts.RemainingParts.next.Goals as goal

-- what is left where no place is found
no_place : (v : Bool) (place : ℕ) → None ≡ cond v (Some place) None → v ≡ false
no_place true place is = cc is
no_place false place is = refl

pub returns-in-Some : goal.returns-in-Some
returns-in-Some c =
    let text : List ℕ = c.in_ok-rest.rest.now in
    let end : ℕ = c.in-Some.end in
    let found = position-Some (λ (byte : ℕ). byte == c.args.self.now.separator) text end 0 (sym c.in-Some.ensures) in
    let rest : take (length text - (end + 1)) (drop (end + 1) text) ≡ drop (end + 1) text = take_all (length text - (end + 1)) (drop (end + 1) text) (omega (arith, length-drop (end + 1) text)) in
    ap (parts_of_rest c.args.self.now.separator) c.in_ok-rest.was ∙ rw (rest, add-one) (part_at c.args.self.now.separator text end found.0 found.1 found.2)

pub returns-in-None : goal.returns-in-None
returns-in-None c =
    let text : List ℕ = c.in_ok-rest.rest.now in
    let separator : ℕ = c.args.self.now.separator in
    ap (parts_of_rest separator) c.in_ok-rest.was
    ∙ part_whole separator text (ltb-false (position_or_len (λ (byte : ℕ). byte == separator) text) (length text) (no_place _ (position_or_len (λ (byte : ℕ). byte == separator) text) c.in-None.ensures))
