-- Reads of a message, one after the other.
use Rattle.std.proofs.Common.{◌≡◌, ℕ, ◌<◌, List, [], ◌∷◌, ◌++◌, Option, length, take, arith, sym, ◌∙◌, ap, subst, length-append, inl, inr}
use Rattle.std.specs.List.{concat}
use Rattle.std.proofs.lemmas.Bool.{cases_lt}
use Rattle.std.proofs.lemmas.List.{take-append-le, take_all}
use Rattle.std.proofs.lemmas.List.Elements.{All-nil, All-push}
use Rattle.wgr_http.specs.Reading.{IsDecided, IsReadInTime, IsReadOn, StopWhenDecided}
use Rattle.wgr_io.specs.Device.{AddsPieces, AllGave}
use Rattle.wgr_io.proofs.Pieces.{AddsPieces-nil, AddsPieces-trans, concat_push, end_push}

-- one more read, of a message that isn't decided
stop_push : (pieces : List (List ℕ)) (piece : List ℕ) → StopWhenDecided pieces → AllGave pieces → ¬ (IsDecided (concat pieces)) → StopWhenDecided (pieces ++ piece ∷ [])
stop_push pieces piece stop gave open_yet =
    record {
      undecided = λ k lt. elim (cases_lt k (length pieces)) [
        | inl before ↦ subst (λ (x : List (List ℕ)). ¬ (IsDecided (concat x))) (sym (take-append-le k pieces (piece ∷ []) (omega (arith, before)))) (stop.undecided k before)
        | inr at ↦
            let same : k ≡ length pieces = omega (arith, lt, length-append pieces (piece ∷ [])) in
            let all : take k (pieces ++ piece ∷ []) ≡ pieces = take-append-le k pieces (piece ∷ []) (omega (arith, same)) ∙ take_all k pieces (omega (arith, same)) in
            subst (λ (x : List (List ℕ)). ¬ (IsDecided (concat x))) (sym all) open_yet
      ];
      some = end_push pieces piece gave;
    }

-- nothing was read
pub none_read : (a : Option (List (List ℕ))) (message : List ℕ) → message ≡ [] → IsReadOn a a message
none_read a message is =
    ([], AddsPieces-nil a, sym is, record { undecided = λ k lt. absurd (omega (arith, lt)); some = λ k lt. absurd (omega (arith, lt)) }, All-nil (λ (p : List ℕ). 0 < length p))

pub read_so_far : (old new : Option (List (List ℕ))) (message : List ℕ) → IsReadOn old new message → IsReadInTime old new message
read_so_far old new message (pieces, adds, joined, stop, gave) = (pieces, adds, joined, stop)

-- one more read
pub one_read : (start old new : Option (List (List ℕ))) (message piece : List ℕ) → AddsPieces old new (piece ∷ []) → IsReadOn start old message → ¬ (IsDecided message) → IsReadInTime start new (message ++ piece)
one_read start old new message piece adds (pieces, added, joined, stop, gave) open_yet = (
  pieces ++ piece ∷ [],
  AddsPieces-trans start old new pieces (piece ∷ []) added adds,
  concat_push pieces piece ∙ ap (λ (x : List ℕ). x ++ piece) joined,
  stop_push pieces piece stop gave (subst (λ (x : List ℕ). ¬ (IsDecided x)) (sym joined) open_yet),
)

-- and it gave some bytes
pub some_read : (start old new : Option (List (List ℕ))) (message piece : List ℕ) → AddsPieces old new (piece ∷ []) → 0 < length piece → IsReadOn start old message → ¬ (IsDecided message) → IsReadOn start new (message ++ piece)
some_read start old new message piece adds some (pieces, added, joined, stop, gave) open_yet = (
  pieces ++ piece ∷ [],
  AddsPieces-trans start old new pieces (piece ∷ []) added adds,
  concat_push pieces piece ∙ ap (λ (x : List ℕ). x ++ piece) joined,
  stop_push pieces piece stop gave (subst (λ (x : List ℕ). ¬ (IsDecided x)) (sym joined) open_yet),
  All-push (λ (p : List ℕ). 0 < length p) pieces piece gave some,
)
