-- Rows that are written as such stay so.
use Rattle.std.proofs.Common.{◌≡◌, ℕ, pos, List, ◌∷◌, filter, Bool, true, false, cond, IsPermutation, sym, subst, inl, inr}
use Rattle.std.proofs.lemmas.List.Sorted.{IsPermutation-sym}
use Rattle.sqlite.specs.declared.types.Value.TheVariants.{Int, Blob}
use Rattle.sqlite.specs.Order.{Row}
use Rattle.sqlite_value.specs.Order.{column}
use Rattle.sqlite_trees.specs.Tree.{rowid, put_row}
use Rattle.sqlite_rules.specs.Edit.{id_in, is_taken}
use Rattle.sqlite_rules.specs.Lists.{Has}
use Rattle.sqlite_rules.proofs.ListLemmas.{has_filtered}
use Rattle.wgr_model.specs.Rows.{family_number}
use Rattle.wgr_sql.proofs.KeyedLemmas.{keyed_filter, keyed_put, keyed_moved, keyed_revised, has_moved, revised}
use Rattle.wgr_sql.proofs.TableLemmas.{put_one, unmapped}
use Rattle.wgr_columns.specs.Decode.{AreWritten, number_at, bytes_at, bytes_of, number_of, family_of}

-- what is said of one row
pub record IsWritten (numbers addresses families : List ℕ) (r : Row) : Type 0 where
  pub number_is : (p : ℕ) → Has numbers p → column r p ≡ Int (pos (number_at r p))
  pub address_is : (p : ℕ) → Has addresses p → column r p ≡ Blob (bytes_of (number_of (bytes_at r p)))
  pub family_is : (p : ℕ) → Has families p → number_at r p ≡ family_number (family_of (number_at r p))

-- what is said of each row of a table
module _ (P : Row → Type 0) where
  pub each_filter : (p : Row → Bool) (rows : List Row) → ((r : Row) → Has rows r → P r) → (r : Row) → Has (filter p rows) r → P r
  each_filter p rows each r here = each r (has_filtered p rows r here).0

  pub each_put : (new : Row) (rows : List Row) → is_taken rows new ≡ false → P new → ((r : Row) → Has rows r → P r) → (r : Row) → Has (put_row new rows) r → P r
  each_put new rows free this each r here = elim (has_moved (put_row new rows) (new ∷ rows) r (IsPermutation-sym _ _ (put_one new rows free)) here) [
    | inl same ↦ subst P (sym same) this
    | inr later ↦ each r later
  ]

module _ (numbers addresses families : List ℕ) where
  pub written_filter : (p : Row → Bool) (rows : List Row) → AreWritten numbers addresses families rows → AreWritten numbers addresses families (filter p rows)
  written_filter p rows good =
      let back = λ (r : Row) (h : Has (filter p rows) r). (has_filtered p rows r h).0 in
      record { keyed = keyed_filter p rows good.keyed; numbers_are = λ r h. good.numbers_are r (back r h); addresses_are = λ r h. good.addresses_are r (back r h); families_are = λ r h. good.families_are r (back r h) }

  row_is : (rows : List Row) → AreWritten numbers addresses families rows → (r : Row) → Has rows r → IsWritten numbers addresses families r
  row_is rows good r h = record { number_is = good.numbers_are r h; address_is = good.addresses_are r h; family_is = good.families_are r h }

  pub written_put : (new : Row) (rows : List Row) → rowid new ≡ Int (id_in (rowid new)) → is_taken rows new ≡ false → IsWritten numbers addresses families new → AreWritten numbers addresses families rows
      → AreWritten numbers addresses families (put_row new rows)
  written_put new rows keyed free this good = record {
    keyed = keyed_put new rows keyed free good.keyed;
    numbers_are = λ r h. (each r (back r h)).number_is;
    addresses_are = λ r h. (each r (back r h)).address_is;
    families_are = λ r h. (each r (back r h)).family_is;
  }
    where
      back : (r : Row) → Has (put_row new rows) r → Has (new ∷ rows) r
      back r h = has_moved (put_row new rows) (new ∷ rows) r (IsPermutation-sym _ _ (put_one new rows free)) h

      each : (r : Row) → Has (new ∷ rows) r → IsWritten numbers addresses families r
      each r (inl same) = subst (IsWritten numbers addresses families) (sym same) this
      each r (inr later) = row_is rows good r later

  pub written_revised : (p : Row → Bool) (change : Row → Row) (rows after : List Row) → IsPermutation (revised p change rows) after → ((r : Row) → Has rows r → rowid (change r) ≡ rowid r)
      → ((r : Row) → Has rows r → IsWritten numbers addresses families (change r)) → AreWritten numbers addresses families rows → AreWritten numbers addresses families after
  written_revised p change rows after perm same changed good = record {
    keyed = keyed_moved _ _ perm (keyed_revised p change rows same good.keyed);
    numbers_are = λ r h. (each r (back r h)).number_is;
    addresses_are = λ r h. (each r (back r h)).address_is;
    families_are = λ r h. (each r (back r h)).family_is;
  }
    where
      back : (r : Row) → Has after r → Has (revised p change rows) r
      back r h = has_moved after (revised p change rows) r (IsPermutation-sym _ _ perm) h

      go : (x : Row) → Has rows x → (b : Bool) → IsWritten numbers addresses families (cond b (change x) x)
      go x here true = changed x here
      go x here false = row_is rows good x here

      each : (r : Row) → Has (revised p change rows) r → IsWritten numbers addresses families r
      each r h = let from = unmapped (λ x. cond (p x) (change x) x) rows r h in subst (IsWritten numbers addresses families) (sym from.2) (go from.0 from.1 (p from.0))
