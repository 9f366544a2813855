use Rattle.std.proofs.Common.{◌≡◌, ◌==◌, ◌+◌, ◌-◌, ℕ, Bool, true, false, cond, List, length, take, drop, refl, sym, arith, add-one, length-drop}
use Rattle.std.specs.Prelude.{Some, None}
use Rattle.std.specs.List.{position_or_len}
use Rattle.std.proofs.lemmas.List.{take_all}
use Rattle.std.proofs.lemmas.Bool.{ltb-false}
use Rattle.std.proofs.lemmas.List.Quantifiers.{position-Some}
use Rattle.wgr_service.proofs.TextLemmas.{line_ended, line_unfinished}
use Rattle.wgr_service.proofs.texts.split_line.Goals as goal

-- what is left where no place is found
no_place : (v : Bool) (place : ℕ) → None ≡ cond v (Some place) None → v ≡ false
no_place true place is = cc is
no_place false place is = refl

pub returns-in-Some-clause-lines : goal.returns-in-Some-clause-lines
returns-in-Some-clause-lines c some =
    let text : List ℕ = c.args.text.now in
    let end : ℕ = c.in-Some.end in
    let found = position-Some (λ (byte : ℕ). byte == 10) text end 0 (sym c.in-Some.ensures) in
    let rest : take (length text - (end + 1)) (drop (end + 1) text) ≡ drop (end + 1) text = take_all (length text - (end + 1)) (drop (end + 1) text) (omega (arith, length-drop (end + 1) text)) in
    rw (rest, add-one) (line_ended text end found.0 found.1 found.2)

pub returns-in-None-clause-lines : goal.returns-in-None-clause-lines
returns-in-None-clause-lines c some =
    let text : List ℕ = c.args.text.now in
    line_unfinished text some (ltb-false (position_or_len (λ (byte : ℕ). byte == 10) text) (length text) (no_place _ (position_or_len (λ (byte : ℕ). byte == 10) text) c.in-None.ensures))
