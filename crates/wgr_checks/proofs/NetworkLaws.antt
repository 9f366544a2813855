-- Rows of networks that pass the tests are those of consistent networks.
use Rattle.std.proofs.Common.{◌≡◌, ◌≤◌, ◌↔◌, ℕ, pos, List, [], ◌∷◌, map, true, nat_eq, refl, sym, subst, ◌∙◌, inl, inr}
use Rattle.std.specs.List.{IsDistinct, list_any}
use Rattle.std.proofs.Math.ListN.{length-map}
use Rattle.sqlite.specs.declared.types.Value.TheVariants.{Int, Text, Blob}
use Rattle.sqlite.specs.Effect.{Database, IsDatabase}
use Rattle.sqlite.specs.Order.{Row}
use Rattle.sqlite_value.specs.Order.{column}
use Rattle.sqlite_trees.proofs.ListLemmas.{all-map, all_from_map}
use Rattle.sqlite_rules.specs.Lists.{Has}
use Rattle.sqlite_rules.proofs.ListLemmas.{all_has, all_from}
use Rattle.wgr_model.specs.Consistent.{has_tenant, overlaps, same_endpoint, same_slot}
use Rattle.wgr_model.specs.Rows.{NetworkRow, family_number}
use Rattle.wgr_sql.proofs.Answers.{map-both}
use Rattle.wgr_sql.proofs.TextLemmas.{text_at}
use Rattle.wgr_sql.proofs.Values.{blob_at}
use Rattle.wgr_columns.specs.Layout.{schema_with, network_table_at}
use Rattle.wgr_columns.specs.Decode.{number_at, bytes_at, bytes_of, number_of, family_of, network_in, tenant_in, network_numbers}
use Rattle.wgr_columns.specs.LaidOut.{IsLaidOut}
use Rattle.wgr_checks.specs.TenantRows.{AreGoodTenants, AreIdsOf}
use Rattle.wgr_checks.specs.NetworkRows.{AreGoodNetworks, IsNetworkRow}
use Rattle.wgr_checks.specs.Laws.{AreConsistentNetworks, HasGoodValues}
use Rattle.wgr_checks.proofs.TenantLaws.{keyed_by_ids, sound}
use Rattle.wgr_columns.proofs.HostLemmas.{kept_again}
use Rattle.wgr_checks.proofs.TokenLaws.{among_is, is_id}

abbrev Owner : Row → ℕ
Owner r = number_at r 2

-- a network's names and keys stand as such: its columns are of these kinds
pub record AreTyped (rows : List Row) : Type 0 where
  pub names : (r : Row) → Has rows r → column r 3 ≡ Text (bytes_at r 3)
  pub hosts : (r : Row) → Has rows r → column r 7 ≡ Text (bytes_at r 7)
  pub keys : (r : Row) → Has rows r → column r 9 ≡ Blob (bytes_at r 9)

module _ (tenants : List Row) (ids : List ℕ) (are : AreIdsOf tenants ids) (rows : List Row) where
  there : AreGoodNetworks ids rows → AreConsistentNetworks tenants rows
  there good =
      let row = λ (r : Row) (here : Has rows r). all_has IsNetworkRow rows r good.each here in
      let among = λ (r : Row) (here : Has rows r). all_has (λ x. list_any (λ id. nat_eq (Owner x) id) ids ≡ true) rows r (all_from_map (λ owner. list_any (λ id. nat_eq owner id) ids ≡ true) Owner rows good.owners) here in
      record {
        written = record {
          keyed = keyed_by_ids rows (λ r here. (row r here).id.0) good.ids;
          numbers_are = λ r here p place. let is = row r here in all_has (λ x. column r x ≡ Int (pos (number_at r x))) network_numbers p (is.id.0, (is.tenant.0, (is.pool.family.0, (is.pool.length, (is.port.0, (is.capacity.0, (is.next.0, tt))))))) place;
          addresses_are = λ r here p place. all_has (λ x. column r x ≡ Blob (bytes_of (number_of (bytes_at r x)))) (5 ∷ []) p ((row r here).pool.address, tt) place;
          families_are = λ r here p place. all_has (λ x. number_at r x ≡ family_number (family_of (number_at r x))) (4 ∷ []) p ((row r here).pool.family.1, tt) place;
        };
        each = all-map HasGoodValues network_in rows (all_from (λ r. HasGoodValues (network_in r)) rows (λ r here.
            let is = row r here in
            record { id = is.id.1; name = is.name.1; pool = is.pool.pool; host = (bytes_at r 7, is.host.1); port = is.port.1; server = is.server.1; capacity = is.capacity.1; next = is.next.1 }));
        ids = subst (IsDistinct nat_eq) (sym (map-both network_in (λ (w : NetworkRow). w.id) rows)) good.ids;
        slots = subst (IsDistinct same_slot) (sym (map-both network_in (λ (w : NetworkRow). (w.tenant, w.name)) rows)) good.slots;
        endpoints = subst (IsDistinct same_endpoint) (sym (map-both network_in (λ (w : NetworkRow). (w.host, w.port)) rows)) good.endpoints;
        pools = subst (IsDistinct overlaps) (sym (map-both network_in (λ (w : NetworkRow). w.pool) rows)) good.pools;
        owners = all-map (λ w. has_tenant (map tenant_in tenants) w.tenant ≡ true) network_in rows (all_from (λ r. has_tenant (map tenant_in tenants) (Owner r) ≡ true) rows (λ r here. sym (among_is tenants ids are (Owner r)) ∙ among r here));
        few = subst (λ n. n ≤ 65536) (sym (length-map rows network_in)) good.few;
      }

  module _ (good : AreGoodTenants tenants) (typed : AreTyped rows) (consistent : AreConsistentNetworks tenants rows) where
    settled : (r : Row) → Has rows r → HasGoodValues (network_in r)
    settled r here = all_has (λ x. HasGoodValues (network_in x)) rows r (all_from_map HasGoodValues network_in rows consistent.each) here

    owner : (r : Row) → Has rows r → has_tenant (map tenant_in tenants) (Owner r) ≡ true
    owner r here = all_has (λ x. has_tenant (map tenant_in tenants) (Owner x) ≡ true) rows r (all_from_map (λ w. has_tenant (map tenant_in tenants) w.tenant ≡ true) network_in rows consistent.owners) here

    row_is : (r : Row) → Has rows r → IsNetworkRow r
    row_is r here =
        let is = settled r here in
        let number = consistent.written.numbers_are r here in
        record {
          id = (number 0 (inl refl), is.id);
          tenant = (number 2 (inr (inl refl)), is_id tenants ids are good (Owner r) (owner r here));
          name = (typed.names r here, is.name);
          pool = record {
            family = (number 4 (inr (inr (inl refl))), consistent.written.families_are r here 4 (inl refl));
            address = consistent.written.addresses_are r here 5 (inl refl);
            length = number 6 (inr (inr (inr (inl refl))));
            pool = is.pool;
          };
          host = (typed.hosts r here, kept_again (bytes_at r 7) is.host);
          port = (number 8 (inr (inr (inr (inr (inl refl))))), is.port);
          server = (typed.keys r here, is.server);
          capacity = (number 10 (inr (inr (inr (inr (inr (inl refl)))))), is.capacity);
          next = (number 11 (inr (inr (inr (inr (inr (inr (inl refl))))))), is.next);
        }

    back : AreGoodNetworks ids rows
    back = record {
      few = subst (λ n. n ≤ 65536) (length-map rows network_in) consistent.few;
      each = all_from IsNetworkRow rows row_is;
      ids = subst (IsDistinct nat_eq) (map-both network_in (λ (w : NetworkRow). w.id) rows) consistent.ids;
      slots = subst (IsDistinct same_slot) (map-both network_in (λ (w : NetworkRow). (w.tenant, w.name)) rows) consistent.slots;
      endpoints = subst (IsDistinct same_endpoint) (map-both network_in (λ (w : NetworkRow). (w.host, w.port)) rows) consistent.endpoints;
      pools = subst (IsDistinct overlaps) (map-both network_in (λ (w : NetworkRow). w.pool) rows) consistent.pools;
      owners = all-map (λ owner. list_any (λ id. nat_eq owner id) ids ≡ true) Owner rows (all_from (λ r. list_any (λ id. nat_eq (Owner r) id) ids ≡ true) rows (λ r here. among_is tenants ids are (Owner r) ∙ owner r here));
    }

module _ (db : Database) (laid : IsLaidOut db.schema) (database : IsDatabase db) where
  typed_rows : AreTyped (db.trees 5)
  typed_rows = record {
    names = λ r here. text_at (schema_with laid.others) db.trees (sound db laid database) (network_table_at 5) (inr (inr (inr (inl refl)))) r here 2 _ refl refl refl refl refl;
    hosts = λ r here. text_at (schema_with laid.others) db.trees (sound db laid database) (network_table_at 5) (inr (inr (inr (inl refl)))) r here 6 _ refl refl refl refl refl;
    keys = λ r here. blob_at (schema_with laid.others) db.trees (sound db laid database) (network_table_at 5) (inr (inr (inr (inl refl)))) r here 8 _ refl refl refl refl refl;
  }

  pub good_networks_are : AreGoodTenants (db.trees 1) → (ids : List ℕ) → AreIdsOf (db.trees 1) ids → AreGoodNetworks ids (db.trees 5) ↔ AreConsistentNetworks (db.trees 1) (db.trees 5)
  good_networks_are good ids are = (there (db.trees 1) ids are (db.trees 5), back (db.trees 1) ids are (db.trees 5) good typed_rows)
