-- What the listed rows of tokens tell of all.
use Rattle.std.proofs.Common.{◌≡◌, ◌≤◌, ℕ, ℤ, pos, List, length, map, true, nat_eq, refl, sym, ap₂, subst, ◌∙◌, arith}
use Rattle.std.specs.List.{list_any}
use Rattle.std.specs.List.Sorted.{IsPermutation, IsSorted}
use Rattle.std.specs.Ordering.{int_cmp, int_eq, nat_cmp, is_eq}
use Rattle.std.specs.Cmp.Lexicographic.{slice_cmp}
use Rattle.std.proofs.lemmas.List.Sorted.{IsPermutation-sym, length_permutation}
use Rattle.std.proofs.Math.ListN.{length-map}
use Rattle.sqlite.specs.Order.{Row}
use Rattle.sqlite_value.specs.Order.{column, value_cmp}
use Rattle.sqlite_value.proofs.OrderLemmas.{value_cmp-Int, value_cmp-Blob}
use Rattle.sqlite_rules.specs.Edit.{id_in}
use Rattle.sqlite_trees.proofs.ListLemmas.{all-permutation}
use Rattle.wgr_model.specs.Register.{is_same}
use Rattle.wgr_model.proofs.LookLemmas.{is_same_sym}
use Rattle.wgr_model.proofs.SameLemmas.{eqb_sym}
use Rattle.wgr_columns.specs.Decode.{number_at, bytes_at}
use Rattle.wgr_columns.specs.Fields.{IsDigestAt, IsIdAt, IsIntegerAt}
use Rattle.wgr_checks.specs.TenantRows.{ListsSorted}
use Rattle.wgr_checks.specs.TokenRows.{HaveOwnRowids, HaveOwnDigests, HaveOwners, rowid_values, digest_values, owner_values}
use Rattle.wgr_checks.proofs.TenantLemmas.{as_naturals}
use Rattle.wgr_checks.proofs.KeyLemmas.{each_there, each_back, keys_same, apart_there, apart_back, keys_sorted}

pub int_tells : (a b : ℤ) → int_eq a b ≡ is_eq (int_cmp a b)
int_tells a b = grind (arith)

pub int_flips : (a b : ℤ) → int_eq a b ≡ int_eq b a
int_flips a b = grind (arith)

pub int_itself : (a : ℤ) → int_eq a a ≡ true
int_itself a = grind (arith)

pub int_is : (a b : ℤ) → int_eq a b ≡ true → a ≡ b
int_is a b h = grind (arith)

pub as_many : (values : Row → Row) (at : ℕ) (table rows : List Row) → ListsSorted values at table rows → length table ≡ length rows
as_many values at table rows l = sym (length_permutation table l.chosen l.same) ∙ sym (length-map l.chosen values) ∙ (λ k. length (sym l.shown k))

module _ (table rows : List Row) (l : ListsSorted rowid_values 0 table rows) where
  abbrev IsThere : Row → Type 0
  IsThere r = IsIntegerAt r 0

  abbrev Rowid : Row → ℤ
  Rowid r = id_in (column r 0)

  by_rowid : (a b : Row) → IsThere a → IsThere b → value_cmp (column a 0) (column b 0) ≡ int_cmp (Rowid a) (Rowid b)
  by_rowid a b p q = ap₂ value_cmp p q ∙ value_cmp-Int (Rowid a) (Rowid b)

  pub own_rowids : HaveOwnRowids rows → HaveOwnRowids table
  own_rowids own = record {
    each = each_there rowid_values 0 IsThere Rowid int_cmp int_eq int_flips (λ r h. h) (λ r h. h) (λ r. refl) by_rowid table rows l own.each;
    rowids = apart_there rowid_values 0 IsThere Rowid int_cmp int_eq int_flips (λ r h. h) (λ r h. h) (λ r. refl) by_rowid table rows l (map Rowid rows) refl own.rowids;
  }

  pub rowids_back : HaveOwnRowids table → HaveOwnRowids rows
  rowids_back own = record {
    each = each_back rowid_values 0 IsThere Rowid int_cmp int_eq int_flips (λ r h. h) (λ r h. h) (λ r. refl) by_rowid table rows l own.each;
    rowids = apart_back rowid_values 0 IsThere Rowid int_cmp int_eq int_flips (λ r h. h) (λ r h. h) (λ r. refl) by_rowid table rows l (map Rowid rows) refl own.rowids;
  }

  pub rowids_sorted : HaveOwnRowids rows → IsSorted int_cmp (map Rowid rows)
  rowids_sorted own = keys_sorted rowid_values 0 IsThere Rowid int_cmp int_eq int_flips (λ r h. h) (λ r h. h) (λ r. refl) by_rowid table rows l (map Rowid rows) refl own.each

module _ (table rows : List Row) (l : ListsSorted digest_values 1 table rows) where
  abbrev HasDigest : Row → Type 0
  HasDigest r = IsDigestAt r 1

  abbrev Digest : Row → List ℕ
  Digest r = bytes_at r 1

  by_digest : (a b : Row) → HasDigest a → HasDigest b → value_cmp (column a 1) (column b 1) ≡ slice_cmp nat_cmp (Digest a) (Digest b)
  by_digest a b p q = ap₂ value_cmp p.0 q.0 ∙ value_cmp-Blob (Digest a) (Digest b)

  pub own_digests : HaveOwnDigests rows → HaveOwnDigests table
  own_digests own = record {
    few = subst (λ n. n ≤ 65536) (sym (as_many digest_values 1 table rows l)) own.few;
    each = each_there digest_values 1 HasDigest Digest (slice_cmp nat_cmp) is_same is_same_sym (λ r h. h) (λ r h. h) (λ r. refl) by_digest table rows l own.each;
    digests = apart_there digest_values 1 HasDigest Digest (slice_cmp nat_cmp) is_same is_same_sym (λ r h. h) (λ r h. h) (λ r. refl) by_digest table rows l (map Digest rows) refl own.digests;
  }

  pub digests_back : HaveOwnDigests table → HaveOwnDigests rows
  digests_back own = record {
    few = subst (λ n. n ≤ 65536) (as_many digest_values 1 table rows l) own.few;
    each = each_back digest_values 1 HasDigest Digest (slice_cmp nat_cmp) is_same is_same_sym (λ r h. h) (λ r h. h) (λ r. refl) by_digest table rows l own.each;
    digests = apart_back digest_values 1 HasDigest Digest (slice_cmp nat_cmp) is_same is_same_sym (λ r h. h) (λ r h. h) (λ r. refl) by_digest table rows l (map Digest rows) refl own.digests;
  }

  pub digests_sorted : HaveOwnDigests rows → IsSorted (slice_cmp nat_cmp) (map Digest rows)
  digests_sorted own = keys_sorted digest_values 1 HasDigest Digest (slice_cmp nat_cmp) is_same is_same_sym (λ r h. h) (λ r h. h) (λ r. refl) by_digest table rows l (map Digest rows) refl own.each

module _ (table rows : List Row) (l : ListsSorted owner_values 2 table rows) where
  abbrev IsOwned : Row → Type 0
  IsOwned r = IsIdAt r 2

  abbrev Owner : Row → ℕ
  Owner r = number_at r 2

  by_owner : (a b : Row) → IsOwned a → IsOwned b → value_cmp (column a 2) (column b 2) ≡ nat_cmp (Owner a) (Owner b)
  by_owner a b p q = ap₂ value_cmp p.0 q.0 ∙ value_cmp-Int (pos (Owner a)) (pos (Owner b)) ∙ as_naturals (Owner a) (Owner b)

  owners_same : IsPermutation (map Owner table) (map Owner rows)
  owners_same = keys_same owner_values 2 IsOwned Owner nat_cmp nat_eq eqb_sym (λ r h. h) (λ r h. h) (λ r. refl) by_owner table rows l (map Owner rows) refl

  pub owned : (ids : List ℕ) → HaveOwners ids rows → HaveOwners ids table
  owned ids own = record {
    each = each_there owner_values 2 IsOwned Owner nat_cmp nat_eq eqb_sym (λ r h. h) (λ r h. h) (λ r. refl) by_owner table rows l own.each;
    owners = all-permutation (λ owner. list_any (λ id. nat_eq owner id) ids ≡ true) (map Owner rows) (map Owner table) (IsPermutation-sym _ _ owners_same) own.owners;
  }

  pub owned_back : (ids : List ℕ) → HaveOwners ids table → HaveOwners ids rows
  owned_back ids own = record {
    each = each_back owner_values 2 IsOwned Owner nat_cmp nat_eq eqb_sym (λ r h. h) (λ r h. h) (λ r. refl) by_owner table rows l own.each;
    owners = all-permutation (λ owner. list_any (λ id. nat_eq owner id) ids ≡ true) (map Owner table) (map Owner rows) owners_same own.owners;
  }

  pub owners_sorted : (ids : List ℕ) → HaveOwners ids rows → IsSorted nat_cmp (map Owner rows)
  owners_sorted ids own = keys_sorted owner_values 2 IsOwned Owner nat_cmp nat_eq eqb_sym (λ r h. h) (λ r h. h) (λ r. refl) by_owner table rows l (map Owner rows) refl own.each
