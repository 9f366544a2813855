-- Rows that are shown of a table are those of what is kept in it.
use Rattle.std.proofs.Common.{◌≡◌, ◌<◌, ℕ, zero, suc, List, [], ◌∷◌, length, map, slice_index_or, IsPermutation, inl, inr, sym, ap, ◌∙◌, arith}
use Rattle.std.proofs.lemmas.List.Sorted.{IsPermutation-sym}
use Rattle.sqlite.specs.Order.{Row}
use Rattle.sqlite_rules.specs.Lists as rules
use Rattle.wgr_model.specs.Laws.{Has}
use Rattle.wgr_model.proofs.SameLemmas.{has_permutation}
use Rattle.wgr_columns.specs.Stored.{AreStored}
use Rattle.wgr_entries.specs.Kept.{AreOf}

pub has_at : {X : Type 0} (xs : List X) (k : ℕ) (x : X) → k < length xs → x ≡ slice_index_or xs k x → rules.Has xs x
has_at [] k x low is = absurd (omega (arith, low))
has_at (y ∷ xs) zero x low is = inl is
has_at (y ∷ xs) (suc k) x low is = inr (has_at xs k x (omega (arith, low)) is)

module _ {T : Type 0} (read : Row → T) (stored : T → Row) where
  stored_each : (rows : List Row) → AreStored stored read rows → (r : Row) → rules.Has rows r → r ≡ stored (read r)
  stored_each [] are r here = absurd here
  stored_each (x ∷ rows) are r (inl same) = let first : x ≡ stored (read x) = cc in same ∙ first ∙ ap (λ y. stored (read y)) (sym same)
  stored_each (x ∷ rows) are r (inr here) = stored_each rows (let rest : rows ≡ map stored (map read rows) = cc in rest) r here

  in_map : (rows : List Row) (r : Row) → rules.Has rows r → Has (map read rows) (read r)
  in_map [] r here = absurd here
  in_map (x ∷ rows) r (inl same) = inl (ap read (sym same))
  in_map (x ∷ rows) r (inr here) = inr (in_map rows r here)

  pub rows_kept : (keeps : T → Type 0) (xs : List T) (rows : List Row) → IsPermutation xs (map read rows) → AreStored stored read rows → ((x : T) → Has xs x → keeps x) → AreOf keeps stored rows
  rows_kept keeps xs rows shows are each r here = (read r, each (read r) (has_permutation (map read rows) xs (read r) (IsPermutation-sym _ _ shows) (in_map rows r here)), stored_each rows are r here)
