-- What the listed rows of tokens that only read tell of all.
use Rattle.std.proofs.Common.{◌≡◌, ℕ, ℤ, true, List, [], ◌∷◌, map, length, Result, Ok, Err, is_ok, get_or, refl, sym, ap, ap₂, subst, ◌∙◌, inl, inr, arith}
use Rattle.std.specs.List.{AllByRecursion, IsDistinct, list_any}
use Rattle.std.specs.List.Sorted.{IsPermutation, IsSorted}
use Rattle.std.specs.Ordering.{int_cmp, int_eq, is_eq, nat_cmp}
use Rattle.std.specs.Cmp.Lexicographic.{slice_cmp}
use Rattle.std.proofs.lemmas.List.Sorted.{IsPermutation-sym, list_any-IsPermutation, searchable_from_sorted}
use Rattle.std.specs.List.Sorted.{IsBinarySearchResult, IsSearchInRange}
use Rattle.std.specs.Cmp.Lexicographic.{nat_list_cmp_total}
use Rattle.std.proofs.lemmas.Bool.{cases_lt}
use Rattle.std.proofs.lemmas.List.Folds.{list_any_none}
use Rattle.wgr_pool.proofs.Lists.{list_any-some}
use Rattle.wgr_checks.proofs.SortedLemmas.{text_tells}
use Rattle.sqlite.specs.Order.{Row}
use Rattle.sqlite_value.specs.Order.{column, value_cmp}
use Rattle.sqlite_value.proofs.OrderLemmas.{value_cmp-Int, value_cmp-Blob}
use Rattle.sqlite_rules.specs.Edit.{id_in}
use Rattle.sqlite_trees.proofs.ListLemmas.{all-permutation}
use Rattle.wgr_model.specs.Register.{Bytes, is_same}
use Rattle.wgr_model.proofs.LookLemmas.{is_same_sym}
use Rattle.wgr_columns.specs.Decode.{bytes_at}
use Rattle.wgr_columns.specs.Fields.{IsDigestAt, IsIntegerAt}
use Rattle.wgr_checks.specs.ReaderRows.{AreOfThese, HaveTokenDigests, reader_digest_values, reader_rowid_values}
use Rattle.wgr_checks.specs.TenantRows.{ListsSorted}
use Rattle.wgr_checks.specs.TokenRows.{HaveOwnRowids, digest_values}
use Rattle.wgr_checks.proofs.KeyLemmas.{each_there, each_back, keys_same, apart_there, apart_back, keys_sorted}
use Rattle.wgr_checks.proofs.TokenLemmas.{int_flips}

module _ (table rows : List Row) (l : ListsSorted reader_rowid_values 0 table rows) where
  abbrev IsThere : Row → Type 0
  IsThere r = IsIntegerAt r 0

  abbrev Rowid : Row → ℤ
  Rowid r = id_in (column r 0)

  by_rowid : (a b : Row) → IsThere a → IsThere b → value_cmp (column a 0) (column b 0) ≡ int_cmp (Rowid a) (Rowid b)
  by_rowid a b p q = ap₂ value_cmp p q ∙ value_cmp-Int (Rowid a) (Rowid b)

  pub own_rowids : HaveOwnRowids rows → HaveOwnRowids table
  own_rowids own = record {
    each = each_there reader_rowid_values 0 IsThere Rowid int_cmp int_eq int_flips (λ r h. h) (λ r h. h) (λ r. refl) by_rowid table rows l own.each;
    rowids = apart_there reader_rowid_values 0 IsThere Rowid int_cmp int_eq int_flips (λ r h. h) (λ r h. h) (λ r. refl) by_rowid table rows l (map Rowid rows) refl own.rowids;
  }

  pub rowids_back : HaveOwnRowids table → HaveOwnRowids rows
  rowids_back own = record {
    each = each_back reader_rowid_values 0 IsThere Rowid int_cmp int_eq int_flips (λ r h. h) (λ r h. h) (λ r. refl) by_rowid table rows l own.each;
    rowids = apart_back reader_rowid_values 0 IsThere Rowid int_cmp int_eq int_flips (λ r h. h) (λ r h. h) (λ r. refl) by_rowid table rows l (map Rowid rows) refl own.rowids;
  }

  pub rowids_sorted : HaveOwnRowids rows → IsSorted int_cmp (map Rowid rows)
  rowids_sorted own = keys_sorted reader_rowid_values 0 IsThere Rowid int_cmp int_eq int_flips (λ r h. h) (λ r h. h) (λ r. refl) by_rowid table rows l (map Rowid rows) refl own.each

abbrev HasDigest : Row → Type 0
HasDigest r = IsDigestAt r 1

abbrev Digest : Row → Bytes
Digest r = bytes_at r 1

by_digest : (a b : Row) → HasDigest a → HasDigest b → value_cmp (column a 1) (column b 1) ≡ slice_cmp nat_cmp (Digest a) (Digest b)
by_digest a b p q = ap₂ value_cmp p.0 q.0 ∙ value_cmp-Blob (Digest a) (Digest b)

-- which of the digests are listed, in whatever order
of_same : (xs ys digests : List Bytes) → IsPermutation xs ys → AreOfThese xs digests → AreOfThese ys digests
of_same xs ys [] same all = tt
of_same xs ys (d ∷ ds) same all = (sym (list_any-IsPermutation (is_same d) xs ys same) ∙ all.0, of_same xs ys ds same all.1)

-- The digests that are listed, of those that only read and of all tokens.
module _ (table rows tokens listed : List Row) (l : ListsSorted reader_digest_values 1 table rows) (all : IsPermutation (map Digest tokens) (map Digest listed)) where
  digests_same : IsPermutation (map Digest table) (map Digest rows)
  digests_same = keys_same reader_digest_values 1 HasDigest Digest (slice_cmp nat_cmp) is_same is_same_sym (λ r h. h) (λ r h. h) (λ r. refl) by_digest table rows l (map Digest rows) refl

  pub token_digests : HaveTokenDigests listed rows → HaveTokenDigests tokens table
  token_digests own = record {
    each = each_there reader_digest_values 1 HasDigest Digest (slice_cmp nat_cmp) is_same is_same_sym (λ r h. h) (λ r h. h) (λ r. refl) by_digest table rows l own.each;
    digests = apart_there reader_digest_values 1 HasDigest Digest (slice_cmp nat_cmp) is_same is_same_sym (λ r h. h) (λ r h. h) (λ r. refl) by_digest table rows l (map Digest rows) refl own.digests;
    among = of_same (map Digest listed) (map Digest tokens) (map Digest table) (IsPermutation-sym _ _ all)
        (all-permutation (λ d. list_any (is_same d) (map Digest listed) ≡ true) (map Digest rows) (map Digest table) (IsPermutation-sym _ _ digests_same) own.among);
  }

  pub token_digests_back : HaveTokenDigests tokens table → HaveTokenDigests listed rows
  token_digests_back own = record {
    each = each_back reader_digest_values 1 HasDigest Digest (slice_cmp nat_cmp) is_same is_same_sym (λ r h. h) (λ r h. h) (λ r. refl) by_digest table rows l own.each;
    digests = apart_back reader_digest_values 1 HasDigest Digest (slice_cmp nat_cmp) is_same is_same_sym (λ r h. h) (λ r h. h) (λ r. refl) by_digest table rows l (map Digest rows) refl own.digests;
    among = of_same (map Digest tokens) (map Digest listed) (map Digest rows) all
        (all-permutation (λ d. list_any (is_same d) (map Digest tokens) ≡ true) (map Digest table) (map Digest rows) digests_same own.among);
  }

  pub digests_sorted : AllByRecursion HasDigest rows → IsSorted (slice_cmp nat_cmp) (map Digest rows)
  digests_sorted each = keys_sorted reader_digest_values 1 HasDigest Digest (slice_cmp nat_cmp) is_same is_same_sym (λ r h. h) (λ r h. h) (λ r. refl) by_digest table rows l (map Digest rows) refl each

-- the digests of all tokens that are listed
module _ (table rows : List Row) (l : ListsSorted digest_values 1 table rows) where
  pub tokens_same : IsPermutation (map Digest table) (map Digest rows)
  tokens_same = keys_same digest_values 1 HasDigest Digest (slice_cmp nat_cmp) is_same is_same_sym (λ r h. h) (λ r h. h) (λ r. refl) by_digest table rows l (map Digest rows) refl

  pub tokens_back : AllByRecursion HasDigest table → AllByRecursion HasDigest rows
  tokens_back each = each_back digest_values 1 HasDigest Digest (slice_cmp nat_cmp) is_same is_same_sym (λ r h. h) (λ r h. h) (λ r. refl) by_digest table rows l each

  pub tokens_sorted : AllByRecursion HasDigest rows → IsSorted (slice_cmp nat_cmp) (map Digest rows)
  tokens_sorted each = keys_sorted digest_values 1 HasDigest Digest (slice_cmp nat_cmp) is_same is_same_sym (λ r h. h) (λ r h. h) (λ r. refl) by_digest table rows l (map Digest rows) refl each

-- ---- a search among digests that are in order

pub found_is : (xs : List Bytes) (x : Bytes) (r : Result ℕ ℕ) → IsSorted (slice_cmp nat_cmp) xs → IsSearchInRange r (length xs) → IsBinarySearchResult (λ y. slice_cmp nat_cmp y x) xs r → is_ok r ≡ list_any (is_same x) xs
found_is xs x (Ok i) up range found = sym (list_any-some (is_same x) xs i [] range (is_same_sym x (get_or xs i []) ∙ text_tells (get_or xs i []) x ∙ ap is_eq (found [])))
found_is xs x (Err i) up range found =
    let parted = found (searchable_from_sorted nat_list_cmp_total (λ y. y) xs x up) in
    sym (list_any_none (is_same x) xs (λ k d l. is_same_sym x (get_or xs k d) ∙ text_tells (get_or xs k d) x ∙ elim (cases_lt k i) [
      | inl before ↦ ap is_eq (parted.0 k d (omega arith) before)
      | inr after ↦ ap is_eq (parted.1 k d after l)
    ]))

-- where none only reads, nothing is asked of the tokens
pub none_read : (tokens rows : List Row) → rows ≡ [] → HaveTokenDigests tokens rows
unfolding IsDistinct
none_read tokens rows none = subst (HaveTokenDigests tokens) (sym none) (record { each = tt; digests = tt; among = tt })
