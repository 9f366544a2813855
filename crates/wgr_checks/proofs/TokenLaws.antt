-- Rows of tokens that pass the tests are those of consistent tokens.
use Rattle.std.proofs.Common.{◌≡◌, ◌≤◌, ◌↔◌, ℕ, ℤ, pos, List, [], ◌∷◌, map, true, false, nat_eq, refl, sym, ap, subst, ◌∙◌, inl, inr, true≢false}
use Rattle.std.specs.List.{IsDistinct, list_any}
use Rattle.std.specs.Ordering.{int_eq}
use Rattle.std.proofs.lemmas.Bool.{false_from_ne_true}
use Rattle.std.proofs.lemmas.List.Sorted.{list_any-IsPermutation}
use Rattle.std.proofs.Math.ListN.{length-map}
use Rattle.sqlite.specs.declared.types.Value.TheVariants.{Int, Blob}
use Rattle.sqlite.specs.Effect.{Database, IsDatabase}
use Rattle.sqlite.specs.Order.{Row}
use Rattle.sqlite_value.specs.Order.{column}
use Rattle.sqlite_trees.proofs.ListLemmas.{all-map, all_from_map}
use Rattle.sqlite_rules.specs.Edit.{id_in}
use Rattle.sqlite_rules.specs.Lists.{Has}
use Rattle.sqlite_rules.proofs.ListLemmas.{all_has, all_from, some_has}
use Rattle.wgr_pool.proofs.PrefixLemmas.{nat_eq_is}
use Rattle.wgr_model.specs.Consistent.{IsDigest, IsId, has_tenant}
use Rattle.wgr_model.specs.Register.{Tenant, Token, is_same}
use Rattle.wgr_model.proofs.HolderLemmas.{one_or_apart}
use Rattle.wgr_model.proofs.LookLemmas.{is_same_refl}
use Rattle.wgr_sql.specs.Keyed.{IsKeyed}
use Rattle.wgr_sql.proofs.Answers.{map-both}
use Rattle.wgr_sql.proofs.Values.{blob_at}
use Rattle.wgr_columns.specs.Layout.{schema_with, token_table_at}
use Rattle.wgr_columns.specs.Decode.{number_at, bytes_at, tenant_in, token_in}
use Rattle.wgr_columns.specs.LaidOut.{IsLaidOut}
use Rattle.wgr_columns.specs.Fields.{IsDigestAt, IsIdAt, IsIntegerAt}
use Rattle.wgr_checks.specs.TenantRows.{AreGoodTenants, AreIdsOf, IsTenantRow}
use Rattle.wgr_checks.specs.TokenRows.{AreGoodTokens, HaveOwnRowids}
use Rattle.wgr_checks.specs.Laws.{AreConsistentTokens}
use Rattle.wgr_checks.proofs.TenantLaws.{here_too, sound}
use Rattle.wgr_checks.proofs.TokenLemmas.{int_flips, int_itself, int_is}

abbrev Rowid : Row → ℤ
Rowid r = id_in (column r 0)

abbrev Digest : Row → List ℕ
Digest r = bytes_at r 1

abbrev Owner : Row → ℕ
Owner r = number_at r 2

pub keyed_by_rowids : (rows : List Row) → HaveOwnRowids rows → IsKeyed rows
keyed_by_rowids rows own = record {
  ints = λ r here. all_has (λ x. IsIntegerAt x 0) rows r own.each here;
  once = λ r s h k same. elim (one_or_apart Rowid int_eq int_flips rows r s own.rowids (here_too rows r h) (here_too rows s k)) [
    | inl one ↦ one
    | inr other ↦ absurd (true≢false (sym (int_itself (Rowid s)) ∙ ap (λ z. int_eq z (Rowid s)) (sym same) ∙ other))
  ];
}

-- where no row stands twice
pub rowids_apart : (rows : List Row) → ((r s : Row) → Has rows r → Has rows s → Rowid r ≡ Rowid s → r ≡ s) → IsDistinct is_same (map Digest rows) → IsDistinct int_eq (map Rowid rows)
unfolding IsDistinct
rowids_apart [] once apart = tt
rowids_apart (r ∷ rows) once apart = (
  all-map (λ y. int_eq (Rowid r) y ≡ false) Rowid rows (all_from (λ s. int_eq (Rowid r) (Rowid s) ≡ false) rows (λ s here. false_from_ne_true _ (λ same.
      let one = once r s (inl refl) (inr here) (int_is (Rowid r) (Rowid s) same) in
      let other = all_has (λ x. is_same (Digest r) (Digest x) ≡ false) rows s (all_from_map (λ y. is_same (Digest r) y ≡ false) Digest rows apart.0) here in
      true≢false (sym (is_same_refl (Digest r)) ∙ ap (λ x. is_same (Digest r) (Digest x)) one ∙ other)))),
  rowids_apart rows (λ a b h k. once a b (inr h) (inr k)) apart.1,
)

module _ (tenants : List Row) (ids : List ℕ) (are : AreIdsOf tenants ids) where
  -- an owner is one of the ids where one of the tenants has its id
  pub among_is : (id : ℕ) → list_any (nat_eq id) ids ≡ has_tenant (map tenant_in tenants) id
  among_is id = sym (list_any-IsPermutation (nat_eq id) _ _ are.same) ∙ ap (list_any (nat_eq id)) (sym (map-both tenant_in (λ (t : Tenant). t.id) tenants))

  there : (rows : List Row) → AreGoodTokens ids rows → AreConsistentTokens tenants rows
  there rows good =
      let owner_at = λ (r : Row) (here : Has rows r). (all_has (λ x. IsIdAt x 2) rows r good.owned.each here).0 in
      let among = λ (r : Row) (here : Has rows r). all_has (λ x. list_any (λ id. nat_eq (Owner x) id) ids ≡ true) rows r (all_from_map (λ owner. list_any (λ id. nat_eq owner id) ids ≡ true) Owner rows good.owned.owners) here in
      record {
        written = record {
          keyed = keyed_by_rowids rows good.own_keys.0;
          numbers_are = λ r here p place. elim place [ inl e ↦ subst (λ x. column r x ≡ Int (pos (number_at r x))) (sym e) (owner_at r here) | inr none ↦ absurd none ];
          addresses_are = λ r here p none. absurd none;
          families_are = λ r here p none. absurd none;
        };
        each = all-map (λ t. IsDigest t.digest) token_in rows (all_from (λ r. IsDigest (Digest r)) rows (λ r here. (all_has (λ x. IsDigestAt x 1) rows r good.own_keys.1.each here).1));
        digests = subst (IsDistinct is_same) (sym (map-both token_in (λ (t : Token). t.digest) rows)) good.own_keys.1.digests;
        owners = all-map (λ t. has_tenant (map tenant_in tenants) t.tenant ≡ true) token_in rows (all_from (λ r. has_tenant (map tenant_in tenants) (Owner r) ≡ true) rows (λ r here. sym (among_is (Owner r)) ∙ among r here));
        few = subst (λ n. n ≤ 65536) (sym (length-map rows token_in)) good.own_keys.1.few;
      }

  module _ (good : AreGoodTenants tenants) where
    -- an id that is one of the tenants' is an id
    pub is_id : (id : ℕ) → has_tenant (map tenant_in tenants) id ≡ true → IsId id
    is_id id any =
        let found = some_has (nat_eq id) (map (λ (r : Row). number_at r 0) tenants) (sym (ap (list_any (nat_eq id)) (map-both tenant_in (λ (t : Tenant). t.id) tenants)) ∙ any) in
        let each = all-map IsId (λ (r : Row). number_at r 0) tenants (all_from (λ r. IsId (number_at r 0)) tenants (λ r here. (all_has IsTenantRow tenants r good.0.each here).0.1)) in
        subst IsId (sym (nat_eq_is id found.0 found.2)) (all_has IsId (map (λ (r : Row). number_at r 0) tenants) found.0 each found.1)

    back : (rows : List Row) → ((r : Row) → Has rows r → column r 1 ≡ Blob (Digest r)) → AreConsistentTokens tenants rows → AreGoodTokens ids rows
    back rows blobs consistent =
        let digests = subst (IsDistinct is_same) (map-both token_in (λ (t : Token). t.digest) rows) consistent.digests in
        let each = all_from_map (λ t. IsDigest t.digest) token_in rows consistent.each in
        let owners = all_from_map (λ t. has_tenant (map tenant_in tenants) t.tenant ≡ true) token_in rows consistent.owners in
        let owner = λ (r : Row) (here : Has rows r). all_has (λ x. has_tenant (map tenant_in tenants) (Owner x) ≡ true) rows r owners here in
        record {
          own_keys = (
            record {
              each = all_from (λ r. IsIntegerAt r 0) rows consistent.written.keyed.ints;
              rowids = rowids_apart rows consistent.written.keyed.once digests;
            },
            record {
              few = subst (λ n. n ≤ 65536) (length-map rows token_in) consistent.few;
              each = all_from (λ r. IsDigestAt r 1) rows (λ r here. (blobs r here, all_has (λ x. IsDigest (Digest x)) rows r each here));
              digests = digests;
            },
          );
          owned = record {
            each = all_from (λ r. IsIdAt r 2) rows (λ r here. (consistent.written.numbers_are r here 2 (inl refl), is_id (Owner r) (owner r here)));
            owners = all-map (λ owner. list_any (λ id. nat_eq owner id) ids ≡ true) Owner rows (all_from (λ r. list_any (λ id. nat_eq (Owner r) id) ids ≡ true) rows (λ r here. among_is (Owner r) ∙ owner r here));
          };
        }

pub good_tokens_are : (db : Database) → IsLaidOut db.schema → IsDatabase db → AreGoodTenants (db.trees 1) → (ids : List ℕ) → AreIdsOf (db.trees 1) ids → AreGoodTokens ids (db.trees 3) ↔ AreConsistentTokens (db.trees 1) (db.trees 3)
good_tokens_are db laid database good ids are = (
  there (db.trees 1) ids are (db.trees 3),
  back (db.trees 1) ids are good (db.trees 3) (λ r here. blob_at (schema_with laid.others) db.trees (sound db laid database) (token_table_at 3) (inr (inr (inl refl))) r here 0 _ refl refl refl refl refl),
)
