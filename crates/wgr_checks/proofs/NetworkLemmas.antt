-- What the listed rows of networks tell of all.
use Rattle.std.proofs.Common.{◌≡◌, ◌≤◌, ℕ, pos, List, map, Bool, true, nat_eq, refl, sym, ap, ap₂, subst, ◌∙◌, IsPermutation}
use Rattle.std.specs.Cmp.{IsTotalOrder}
use Rattle.std.specs.List.{AllByRecursion, IsDistinct, list_any}
use Rattle.std.specs.List.Sorted.{IsSorted}
use Rattle.std.specs.Ordering.{nat_cmp}
use Rattle.std.proofs.lemmas.Cmp.{on_total, then_total, nat_cmp_total}
use Rattle.std.proofs.lemmas.List.Sorted.{IsPermutation-map, IsPermutation-sym}
use Rattle.std.proofs.lemmas.Map.Keys.{IsDistinct-IsPermutation}
use Rattle.sqlite.specs.Order.{Row}
use Rattle.sqlite_value.specs.Order.{column, value_cmp}
use Rattle.sqlite_value.proofs.OrderLemmas.{value_cmp-Int}
use Rattle.sqlite_rules.proofs.ListLemmas.{all_has, all_from}
use Rattle.sqlite_trees.proofs.ListLemmas.{all-permutation}
use Rattle.wgr_text.specs.Prefix.{PrefixValue}
use Rattle.wgr_model.specs.Consistent.{overlaps, same_endpoint, same_slot}
use Rattle.wgr_model.specs.Rows.{family_number}
use Rattle.wgr_model.proofs.SameLemmas.{eqb_sym, slot_sym, endpoint_sym, overlaps_sym}
use Rattle.wgr_sql.proofs.Answers.{map-both}
use Rattle.wgr_columns.specs.Decode.{number_at, prefix_at}
use Rattle.wgr_checks.specs.Sorted.{AreAmong, pool_cmp}
use Rattle.wgr_columns.specs.Fields.{IsIdAt, IsPoolAt}
use Rattle.wgr_checks.specs.TenantRows.{AreIdsOf, ListsSorted}
use Rattle.wgr_checks.specs.NetworkRows.{AreFit, AreGoodNetworks, HasSettingColumns, IsEndpointRow, IsNetworkRow, IsSlotRow, endpoint_at, network_values, slot_at}
use Rattle.wgr_checks.proofs.KeyLemmas.{each_there, each_back, keys_sorted}
use Rattle.wgr_checks.proofs.TenantLemmas.{as_naturals}
use Rattle.wgr_checks.proofs.TokenLemmas.{as_many}

pub pool_total : IsTotalOrder pool_cmp
pool_total = then_total (on_total (λ (p : PrefixValue). family_number p.address.family) nat_cmp_total) (on_total (λ (p : PrefixValue). p.address.number) nat_cmp_total)

-- ---- keys of rows, put in order

module _ {K : Type 0} (clash : K → K → Bool) (flips : (x y : K) → clash x y ≡ clash y x) (key : Row → K) (rows : List Row) (all put : List K) (are : all ≡ map key rows) (same : IsPermutation all put) where
  pub put_apart : IsDistinct clash put → IsDistinct clash (map key rows)
  put_apart apart = subst (IsDistinct clash) are (IsDistinct-IsPermutation clash flips put all (IsPermutation-sym _ _ same) apart)

  pub apart_put : IsDistinct clash (map key rows) → IsDistinct clash put
  apart_put apart = IsDistinct-IsPermutation clash flips all put same (subst (IsDistinct clash) (sym are) apart)

abbrev Id : Row → ℕ
Id r = number_at r 0

abbrev Owner : Row → ℕ
Owner r = number_at r 2

abbrev Pool : Row → PrefixValue
Pool r = prefix_at r 4

among_moves : (ids : List ℕ) (xs ys : List ℕ) → IsPermutation xs ys → AreAmong xs ids → AreAmong ys ids
among_moves ids xs ys same all = all-permutation (λ owner. list_any (λ id. nat_eq owner id) ids ≡ true) xs ys same all

module _ (ids : List ℕ) (rows : List Row) (all put : List ℕ) (are : all ≡ map Owner rows) (same : IsPermutation all put) where
  pub put_among : AreAmong put ids → AreAmong (map Owner rows) ids
  put_among among = subst (λ l. AreAmong l ids) are (among_moves ids put all (IsPermutation-sym _ _ same) among)

  pub among_put : AreAmong (map Owner rows) ids → AreAmong put ids
  among_put among = among_moves ids all put same (subst (λ l. AreAmong l ids) (sym are) among)

-- ---- part by part

module _ (tenants : List ℕ) (rows : List Row) where
  pub good_of : AllByRecursion (λ r. IsIdAt r 0) rows → IsDistinct nat_eq (map Id rows) → AreFit tenants rows → AreGoodNetworks tenants rows
  good_of ids apart fit = record {
    few = fit.few;
    each = all_from IsNetworkRow rows (λ r here.
        let slot = all_has IsSlotRow rows r fit.apart.0.each here in
        let endpoint = all_has IsEndpointRow rows r fit.apart.1.each here in
        let settings = all_has HasSettingColumns rows r fit.settings here in
        record {
          id = all_has (λ x. IsIdAt x 0) rows r ids here;
          tenant = slot.0;
          name = slot.1;
          pool = all_has (λ x. IsPoolAt x 4) rows r fit.apart.2.each here;
          host = endpoint.0;
          port = endpoint.1;
          server = settings.0;
          capacity = settings.1;
          next = settings.2;
        });
    ids = apart;
    slots = fit.apart.0.slots;
    endpoints = fit.apart.1.endpoints;
    pools = fit.apart.2.pools;
    owners = fit.owned.owners;
  }

  module _ (good : AreGoodNetworks tenants rows) where
    of_each : (P : Row → Type 0) → ((r : Row) → IsNetworkRow r → P r) → AllByRecursion P rows
    of_each P f = all_from P rows (λ r here. f r (all_has IsNetworkRow rows r good.each here))

    pub good_rows_ids : AllByRecursion (λ r. IsIdAt r 0) rows
    good_rows_ids = of_each (λ r. IsIdAt r 0) (λ r is. is.id)

    pub fit_of : AreFit tenants rows
    fit_of = record {
      few = good.few;
      settings = of_each HasSettingColumns (λ r is. (is.server, is.capacity, is.next));
      apart = (
        record { each = of_each IsSlotRow (λ r is. (is.tenant, is.name)); slots = good.slots },
        record { each = of_each IsEndpointRow (λ r is. (is.host, is.port)); endpoints = good.endpoints },
        record { each = of_each (λ r. IsPoolAt r 4) (λ r is. is.pool); pools = good.pools },
      );
      owned = record { each = of_each (λ r. IsIdAt r 2) (λ r is. is.tenant); owners = good.owners };
    }

-- ---- the rows that the query shows

told : (r : Row) → IsNetworkRow (network_values r) → IsNetworkRow r
told r is = record {
  id = is.id;
  tenant = is.tenant;
  name = is.name;
  pool = record { family = is.pool.family; address = is.pool.address; length = is.pool.length; pool = is.pool.pool };
  host = is.host;
  port = is.port;
  server = is.server;
  capacity = is.capacity;
  next = is.next;
}

tells : (r : Row) → IsNetworkRow r → IsNetworkRow (network_values r)
tells r is = record {
  id = is.id;
  tenant = is.tenant;
  name = is.name;
  pool = record { family = is.pool.family; address = is.pool.address; length = is.pool.length; pool = is.pool.pool };
  host = is.host;
  port = is.port;
  server = is.server;
  capacity = is.capacity;
  next = is.next;
}

order : (a b : Row) → IsNetworkRow a → IsNetworkRow b → value_cmp (column a 0) (column b 0) ≡ nat_cmp (Id a) (Id b)
order a b p q = ap₂ value_cmp p.id.0 q.id.0 ∙ value_cmp-Int (pos (Id a)) (pos (Id b)) ∙ as_naturals (Id a) (Id b)

module _ (table rows : List Row) (l : ListsSorted network_values 0 table rows) where
  moved : {K : Type 0} (key : Row → K) → ((r : Row) → key (network_values r) ≡ key r) → IsPermutation (map key table) (map key rows)
  moved key shows = subst (IsPermutation (map key table)) (sym (ap (map key) l.shown ∙ map-both network_values key l.chosen ∙ (λ k. map (λ r. shows r k) l.chosen))) (IsPermutation-map key table l.chosen l.same)

  apart_there : {K : Type 0} (key : Row → K) (clash : K → K → Bool) → ((x y : K) → clash x y ≡ clash y x) → ((r : Row) → key (network_values r) ≡ key r) → IsDistinct clash (map key rows) → IsDistinct clash (map key table)
  apart_there key clash flips shows apart = IsDistinct-IsPermutation clash flips (map key rows) (map key table) (IsPermutation-sym _ _ (moved key shows)) apart

  apart_back : {K : Type 0} (key : Row → K) (clash : K → K → Bool) → ((x y : K) → clash x y ≡ clash y x) → ((r : Row) → key (network_values r) ≡ key r) → IsDistinct clash (map key table) → IsDistinct clash (map key rows)
  apart_back key clash flips shows apart = IsDistinct-IsPermutation clash flips (map key table) (map key rows) (moved key shows) apart

  module _ (tenants : List ℕ) where
    pub good_there : AreGoodNetworks tenants rows → AreGoodNetworks tenants table
    good_there good = record {
      few = subst (λ n. n ≤ 65536) (sym (as_many network_values 0 table rows l)) good.few;
      each = each_there network_values 0 IsNetworkRow Id nat_cmp nat_eq eqb_sym told tells (λ r. refl) order table rows l good.each;
      ids = apart_there Id nat_eq eqb_sym (λ r. refl) good.ids;
      slots = apart_there slot_at same_slot slot_sym (λ r. refl) good.slots;
      endpoints = apart_there endpoint_at same_endpoint endpoint_sym (λ r. refl) good.endpoints;
      pools = apart_there Pool overlaps overlaps_sym (λ r. refl) good.pools;
      owners = among_moves tenants (map Owner rows) (map Owner table) (IsPermutation-sym _ _ (moved Owner (λ r. refl))) good.owners;
    }

    pub good_back : AreGoodNetworks tenants table → AreGoodNetworks tenants rows
    good_back good = record {
      few = subst (λ n. n ≤ 65536) (as_many network_values 0 table rows l) good.few;
      each = each_back network_values 0 IsNetworkRow Id nat_cmp nat_eq eqb_sym told tells (λ r. refl) order table rows l good.each;
      ids = apart_back Id nat_eq eqb_sym (λ r. refl) good.ids;
      slots = apart_back slot_at same_slot slot_sym (λ r. refl) good.slots;
      endpoints = apart_back endpoint_at same_endpoint endpoint_sym (λ r. refl) good.endpoints;
      pools = apart_back Pool overlaps overlaps_sym (λ r. refl) good.pools;
      owners = among_moves tenants (map Owner table) (map Owner rows) (moved Owner (λ r. refl)) good.owners;
    }

    module _ (good : AreGoodNetworks tenants rows) where
      pub ids_sorted : IsSorted nat_cmp (map Id rows)
      ids_sorted = keys_sorted network_values 0 IsNetworkRow Id nat_cmp nat_eq eqb_sym told tells (λ r. refl) order table rows l (map Id rows) refl good.each

      pub ids_are : (ids : List ℕ) → ids ≡ map Id rows → AreIdsOf table ids
      ids_are ids are = subst (AreIdsOf table) (sym are) (record { same = moved Id (λ r. refl); sorted = ids_sorted })
