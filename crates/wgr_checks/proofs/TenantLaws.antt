-- Rows that pass the tests are those of consistent tenants.
use Rattle.std.proofs.Common.{◌≡◌, ◌↔◌, pos, List, [], ◌∷◌, map, nat_eq, refl, sym, ap, subst, ◌∙◌, inl, inr, true≢false, unsigned_abs}
use Rattle.std.specs.List.{IsDistinct}
use Rattle.sqlite.specs.declared.types.Value.TheVariants.{Int}
use Rattle.sqlite.specs.Effect.{Database, IsDatabase}
use Rattle.sqlite.specs.Order.{Row}
use Rattle.sqlite_value.specs.Order.{column}
use Rattle.sqlite_trees.proofs.ListLemmas.{all-map, all_from_map}
use Rattle.sqlite_rules.specs.Edit.{id_in}
use Rattle.sqlite_rules.specs.Lists.{Has}
use Rattle.sqlite_rules.proofs.ListLemmas.{all_has, all_from}
use Rattle.wgr_pool.proofs.PrefixLemmas.{nat_eq_self}
use Rattle.wgr_model.specs.Consistent.{IsTenant}
use Rattle.wgr_model.specs.Laws as model
use Rattle.wgr_model.specs.Register.{Tenant, is_same}
use Rattle.wgr_model.proofs.HolderLemmas.{one_or_apart}
use Rattle.wgr_model.proofs.SameLemmas.{eqb_sym}
use Rattle.wgr_sql.specs.Keyed.{IsKeyed}
use Rattle.wgr_sql.proofs.Answers.{map-both}
use Rattle.wgr_sql.proofs.TextLemmas.{text_at}
use Rattle.wgr_columns.specs.Layout.{schema_with, tenant_table_at}
use Rattle.wgr_columns.specs.Decode.{number_at, tenant_in}
use Rattle.wgr_columns.specs.LaidOut.{IsLaidOut}
use Rattle.wgr_columns.specs.Fields.{IsNameAt}
use Rattle.wgr_checks.specs.TenantRows.{AreGoodTenants, IsTenantRow}
use Rattle.wgr_checks.specs.Laws.{AreConsistentTenants}

pub here_too : {X : Type 0} (xs : List X) (x : X) → Has xs x → model.Has xs x
here_too [] x here = absurd here
here_too (y ∷ xs) x (inl same) = inl (sym same)
here_too (y ∷ xs) x (inr later) = inr (here_too xs x later)

-- rowids that are natural, and no two of which are one, tell the rows apart
pub keyed_by_ids : (rows : List Row) → ((r : Row) → Has rows r → column r 0 ≡ Int (pos (number_at r 0))) → IsDistinct nat_eq (map (λ r. number_at r 0) rows) → IsKeyed rows
keyed_by_ids rows natural apart = record {
  ints = λ r here. let e = natural r here in e ∙ sym (ap (λ v. Int (id_in v)) e);
  once = λ r s h k same. elim (one_or_apart (λ (x : Row). number_at x 0) nat_eq eqb_sym rows r s apart (here_too rows r h) (here_too rows s k)) [
    | inl one ↦ one
    | inr other ↦ absurd (true≢false (sym (nat_eq_self (number_at s 0)) ∙ ap (λ z. nat_eq (unsigned_abs z) (number_at s 0)) (sym same) ∙ other))
  ];
}

there : (rows : List Row) → AreGoodTenants rows → AreConsistentTenants rows
there rows good =
    let each = good.0.each in
    let natural = λ (r : Row) (here : Has rows r). (all_has IsTenantRow rows r each here).0.0 in
    record {
      written = record {
        keyed = keyed_by_ids rows natural good.0.ids;
        numbers_are = λ r here p place. elim place [ inl e ↦ subst (λ x. column r x ≡ Int (pos (number_at r x))) (sym e) (natural r here) | inr none ↦ absurd none ];
        addresses_are = λ r here p none. absurd none;
        families_are = λ r here p none. absurd none;
      };
      each = all-map IsTenant tenant_in rows (all_from (λ r. IsTenant (tenant_in r)) rows (λ r here. let row = all_has IsTenantRow rows r each here in record { id = row.0.1; name = row.1.1 }));
      ids = subst (IsDistinct nat_eq) (sym (map-both tenant_in (λ (t : Tenant). t.id) rows)) good.0.ids;
      names = subst (IsDistinct is_same) (sym (map-both tenant_in (λ (t : Tenant). t.name) rows)) good.1.names;
    }

module _ (db : Database) (laid : IsLaidOut db.schema) (database : IsDatabase db) where
  pub sound : IsDatabase (record { schema = schema_with laid.others; trees = db.trees })
  sound = subst (λ s. IsDatabase (record { schema = s; trees = db.trees })) laid.schema_is database

  named : AreConsistentTenants (db.trees 1) → (r : Row) → Has (db.trees 1) r → IsNameAt r 2
  named good r here = (
    text_at (schema_with laid.others) db.trees sound (tenant_table_at 1) (inr (inl refl)) r here 1 _ refl refl refl refl refl,
    (all_has (λ x. IsTenant (tenant_in x)) (db.trees 1) r (all_from_map IsTenant tenant_in (db.trees 1) good.each) here).name,
  )

  row_is : AreConsistentTenants (db.trees 1) → (r : Row) → Has (db.trees 1) r → IsTenantRow r
  row_is good r here = ((good.written.numbers_are r here 0 (inl refl), (all_has (λ x. IsTenant (tenant_in x)) (db.trees 1) r (all_from_map IsTenant tenant_in (db.trees 1) good.each) here).id), named good r here)

  back : AreConsistentTenants (db.trees 1) → AreGoodTenants (db.trees 1)
  back good = (
    record { each = all_from IsTenantRow (db.trees 1) (row_is good); ids = subst (IsDistinct nat_eq) (map-both tenant_in (λ (t : Tenant). t.id) (db.trees 1)) good.ids },
    record { each = all_from (λ r. IsNameAt r 2) (db.trees 1) (named good); names = subst (IsDistinct is_same) (map-both tenant_in (λ (t : Tenant). t.name) (db.trees 1)) good.names },
  )

  pub good_is : AreGoodTenants (db.trees 1) ↔ AreConsistentTenants (db.trees 1)
  good_is = (there (db.trees 1), back)
