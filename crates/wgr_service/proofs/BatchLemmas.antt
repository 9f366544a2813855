-- Replies that are written one after the other.
use Rattle.std.proofs.Common.{◌≡◌, ◌∙◌, ◌+◌, ℕ, List, [], ◌∷◌, ◌++◌, take, drop, Result, Ok, Err, OnErr, ap, append_assoc, sym, subst}
use Rattle.std.specs.Prelude.{Option, flat_map}
use Rattle.std.specs.Io.KnownBytes.{Appends}
use Rattle.std.proofs.lemmas.List.{flat_map_more, take-append-drop}
use Rattle.std.proofs.lemmas.List.Concat.{flat_map-append}
use Rattle.wgr_model.specs.Register.{Bytes}
use Rattle.wgr_io.specs.Device.{IsCut}
use Rattle.wgr_service.proofs.ConnectionLemmas.{appends_more}

pub on_err : {T E P : Type 0} (r : Result T E) → P → OnErr r P
on_err (Ok x) p = tt
on_err (Err e) p = p

module _ {X : Type 0} (reply : X → Bytes) (xs : List X) (i : ℕ) (x : X) (next : take (i + 1) xs ≡ take i xs ++ x ∷ []) where
  replies : flat_map reply (take (i + 1) xs) ≡ flat_map reply (take i xs) ++ reply x
  replies = ap (flat_map reply) next ∙ sym (flat_map_more reply [] (take i xs) x)

  -- one more is written
  pub one_more : (old mid new : Option Bytes) → Appends old mid (flat_map reply (take i xs)) → Appends mid new (reply x) → Appends old new (flat_map reply (take (i + 1) xs))
  one_more old mid new first then =
      subst (Appends old new) (sym replies) (appends_more old mid new (flat_map reply (take i xs)) (reply x) first then)

  -- or a beginning of it
  pub cut_within : (old mid new : Option Bytes) (sent : ℕ) → Appends old mid (flat_map reply (take i xs)) → Appends mid new (take sent (reply x)) → IsCut old new (flat_map reply xs)
  cut_within old mid new sent first then =
      let front = flat_map reply (take i xs) in
      let back = flat_map reply (drop (i + 1) xs) in
      let parted : reply x ≡ take sent (reply x) ++ drop sent (reply x) = sym (take-append-drop sent (reply x)) in
      let all : flat_map reply xs ≡ (front ++ reply x) ++ back =
      ap (flat_map reply) (sym (take-append-drop (i + 1) xs)) ∙ flat_map-append reply (take (i + 1) xs) (drop (i + 1) xs) ∙ ap (λ f. f ++ back) replies in
      let cut : (front ++ reply x) ++ back ≡ (front ++ take sent (reply x)) ++ (drop sent (reply x) ++ back) =
      ap (λ r. (front ++ r) ++ back) parted ∙ ap (λ f. f ++ back) (sym (append_assoc front (take sent (reply x)) (drop sent (reply x))))
      ∙ append_assoc (front ++ take sent (reply x)) (drop sent (reply x)) back in
      (front ++ take sent (reply x), drop sent (reply x) ++ back, all ∙ cut, appends_more old mid new front (take sent (reply x)) first then)
