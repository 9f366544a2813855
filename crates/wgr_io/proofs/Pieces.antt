-- Calls of `read`, one after the other.
use Rattle.std.proofs.Common.{◌≡◌, ℕ, ◌<◌, List, [], ◌∷◌, ◌++◌, Option, Some, None, length, arith, append-nil, append_assoc, length-append, ap, sym, ◌∙◌}
use Rattle.std.specs.List.{concat}
use Rattle.std.proofs.lemmas.List.{get_or_append_left}
use Rattle.std.proofs.lemmas.List.Folds.{concat-append}
use Rattle.wgr_io.specs.Device.{AddsPieces, AllGave, EndAtNothing}

pub AddsPieces-nil : (a : Option (List (List ℕ))) → AddsPieces a a []
AddsPieces-nil None = tt
AddsPieces-nil (Some xs) = sym (append-nil xs)

pub AddsPieces-trans : (a b c : Option (List (List ℕ))) (xs ys : List (List ℕ)) → AddsPieces a b xs → AddsPieces b c ys → AddsPieces a c (xs ++ ys)
AddsPieces-trans None b c xs ys first second = tt
AddsPieces-trans (Some x) None c xs ys first second = absurd first
AddsPieces-trans (Some x) (Some y) None xs ys first second = absurd second
AddsPieces-trans (Some x) (Some y) (Some z) xs ys first second =
    second ∙ ap (λ (l : List (List ℕ)). l ++ ys) first ∙ append_assoc x xs ys

-- one more call, after those that gave some bytes
pub end_push : (pieces : List (List ℕ)) (piece : List ℕ) → AllGave pieces → EndAtNothing (pieces ++ piece ∷ [])
end_push pieces piece gave k lt =
    let inside : k < length pieces = omega (arith, length-append pieces (piece ∷ [])) in
    rw (get_or_append_left pieces (piece ∷ []) [] k inside) (gave k [] inside)

pub concat_push : (pieces : List (List ℕ)) (piece : List ℕ) → concat (pieces ++ piece ∷ []) ≡ concat pieces ++ piece
concat_push pieces piece = concat-append pieces (piece ∷ []) ∙ ap (λ (l : List ℕ). concat pieces ++ l) (append-nil piece)

-- and all that they gave
pub more_read : (a b c : Option (List (List ℕ))) (pieces : List (List ℕ)) (piece all : List ℕ) → AddsPieces a b pieces → AllGave pieces → all ≡ concat pieces → AddsPieces b c (piece ∷ [])
    → (ps : List (List ℕ)) × AddsPieces a c ps × EndAtNothing ps × (all ++ piece ≡ concat ps)
more_read a b c pieces piece all first gave is one =
    (pieces ++ piece ∷ [], AddsPieces-trans a b c pieces (piece ∷ []) first one, end_push pieces piece gave, ap (λ (l : List ℕ). l ++ piece) is ∙ sym (concat_push pieces piece))
