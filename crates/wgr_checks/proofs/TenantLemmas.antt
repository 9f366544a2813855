-- What the listed rows of tenants tell of all.
use Rattle.std.proofs.Common.{◌≡◌, ℕ, pos, List, map, nat_eq, refl, ap₂, ◌∙◌, arith}
use Rattle.std.specs.List.{AllByRecursion, IsDistinct}
use Rattle.std.specs.List.Sorted.{IsSorted}
use Rattle.std.specs.Ordering.{int_cmp, nat_cmp}
use Rattle.std.specs.Cmp.Lexicographic.{slice_cmp}
use Rattle.sqlite.specs.Order.{Row}
use Rattle.sqlite_value.specs.Order.{column, value_cmp}
use Rattle.sqlite_value.proofs.OrderLemmas.{value_cmp-Int, value_cmp-Text}
use Rattle.wgr_model.specs.Register.{is_same}
use Rattle.wgr_model.proofs.LookLemmas.{is_same_sym}
use Rattle.wgr_model.proofs.SameLemmas.{eqb_sym}
use Rattle.wgr_columns.specs.Decode.{number_at, bytes_at}
use Rattle.wgr_columns.specs.Fields.{IsNameAt}
use Rattle.wgr_checks.specs.TenantRows.{AreIdsOf, HaveOwnIds, HaveOwnNames, IsTenantRow, ListsSorted, tenant_values, name_values}
use Rattle.wgr_checks.proofs.KeyLemmas.{each_there, each_back, keys_same, apart_there, apart_back, keys_sorted}

pub as_naturals : (m n : ℕ) → int_cmp (pos m) (pos n) ≡ nat_cmp m n
as_naturals m n = grind (arith)

module _ (table rows : List Row) (l : ListsSorted tenant_values 0 table rows) where
  abbrev Id : Row → ℕ
  Id r = number_at r 0

  order : (a b : Row) → IsTenantRow a → IsTenantRow b → value_cmp (column a 0) (column b 0) ≡ nat_cmp (Id a) (Id b)
  order a b p q = ap₂ value_cmp p.0.0 q.0.0 ∙ value_cmp-Int (pos (Id a)) (pos (Id b)) ∙ as_naturals (Id a) (Id b)

  pub own_ids : (ids : List ℕ) → AllByRecursion IsTenantRow rows → ids ≡ map Id rows → IsDistinct nat_eq ids → HaveOwnIds table
  own_ids ids all are apart = record {
    each = each_there tenant_values 0 IsTenantRow Id nat_cmp nat_eq eqb_sym (λ r h. h) (λ r h. h) (λ r. refl) order table rows l all;
    ids = apart_there tenant_values 0 IsTenantRow Id nat_cmp nat_eq eqb_sym (λ r h. h) (λ r h. h) (λ r. refl) order table rows l ids are apart;
  }

  pub ids_are : (ids : List ℕ) → AllByRecursion IsTenantRow rows → ids ≡ map Id rows → AreIdsOf table ids
  ids_are ids all are = record {
    same = keys_same tenant_values 0 IsTenantRow Id nat_cmp nat_eq eqb_sym (λ r h. h) (λ r h. h) (λ r. refl) order table rows l ids are;
    sorted = keys_sorted tenant_values 0 IsTenantRow Id nat_cmp nat_eq eqb_sym (λ r h. h) (λ r h. h) (λ r. refl) order table rows l ids are all;
  }

  pub ids_each : HaveOwnIds table → AllByRecursion IsTenantRow rows
  ids_each own = each_back tenant_values 0 IsTenantRow Id nat_cmp nat_eq eqb_sym (λ r h. h) (λ r h. h) (λ r. refl) order table rows l own.each

  pub ids_apart : (ids : List ℕ) → ids ≡ map Id rows → HaveOwnIds table → IsDistinct nat_eq ids
  ids_apart ids are own = apart_back tenant_values 0 IsTenantRow Id nat_cmp nat_eq eqb_sym (λ r h. h) (λ r h. h) (λ r. refl) order table rows l ids are own.ids

module _ (table rows : List Row) (l : ListsSorted name_values 2 table rows) where
  abbrev IsNamed : Row → Type 0
  IsNamed r = IsNameAt r 2

  abbrev Named : Row → List ℕ
  Named r = bytes_at r 2

  by_name : (a b : Row) → IsNamed a → IsNamed b → value_cmp (column a 2) (column b 2) ≡ slice_cmp nat_cmp (Named a) (Named b)
  by_name a b p q = ap₂ value_cmp p.0 q.0 ∙ value_cmp-Text (Named a) (Named b)

  pub own_names : HaveOwnNames rows → HaveOwnNames table
  own_names own = record {
    each = each_there name_values 2 IsNamed Named (slice_cmp nat_cmp) is_same is_same_sym (λ r h. h) (λ r h. h) (λ r. refl) by_name table rows l own.each;
    names = apart_there name_values 2 IsNamed Named (slice_cmp nat_cmp) is_same is_same_sym (λ r h. h) (λ r h. h) (λ r. refl) by_name table rows l (map Named rows) refl own.names;
  }

  pub names_back : HaveOwnNames table → HaveOwnNames rows
  names_back own = record {
    each = each_back name_values 2 IsNamed Named (slice_cmp nat_cmp) is_same is_same_sym (λ r h. h) (λ r h. h) (λ r. refl) by_name table rows l own.each;
    names = apart_back name_values 2 IsNamed Named (slice_cmp nat_cmp) is_same is_same_sym (λ r h. h) (λ r h. h) (λ r. refl) by_name table rows l (map Named rows) refl own.names;
  }

  pub names_sorted : HaveOwnNames rows → IsSorted (slice_cmp nat_cmp) (map Named rows)
  names_sorted own = keys_sorted name_values 2 IsNamed Named (slice_cmp nat_cmp) is_same is_same_sym (λ r h. h) (λ r h. h) (λ r. refl) by_name table rows l (map Named rows) refl own.each
