-- Rows that come.
use Rattle.std.proofs.Common.{◌≡◌, ◌<◌, ◌^◌, ℕ, pos, [], ◌∷◌, map, Ok, IsPermutation, refl, sym, ap, subst, inl, inr, ◌∙◌}
use Rattle.std.proofs.lemmas.List.Sorted.{IsPermutation-map}
use Rattle.sqlite.specs.declared.types.Value.TheVariants.{Null, Int, Text, Blob}
use Rattle.sqlite.specs.Order.{Row}
use Rattle.sqlite_value.specs.Order.{column}
use Rattle.sqlite.specs.Edit.{edit_of}
use Rattle.sqlite.specs.Rowids.TheVariants.{Chosen}
use Rattle.sqlite.specs.Rows.{stamped}
use Rattle.sqlite.specs.Effect.{value_rows}
use Rattle.sqlite.specs.State.{State, Executes}
use Rattle.sqlite_rules.specs.Edit.{next_rowid}
use Rattle.sqlite_rules.specs.Lists.{Has}
use Rattle.sqlite_trees.specs.Tree.{put_row}
use Rattle.wgr_model.specs.Register.{Bytes}
use Rattle.wgr_model.specs.Rows.{NetworkRow, family_number}
use Rattle.wgr_sql.proofs.TableLemmas.{cast_null, cast_int, put_one}
use Rattle.wgr_columns.specs.Layout.{tenant_table_at, token_table_at, network_table_at}
use Rattle.wgr_columns.specs.Decode.{IsRegister, tenant_in, token_in, network_in, network_numbers, number_at, bytes_at, bytes_of, number_of, family_of}
use Rattle.wgr_tables.specs.Writes.{TenantComes, NetworkComes}
use Rattle.wgr_columns.proofs.FieldLemmas.{family_back}
use Rattle.wgr_columns.proofs.ByteLemmas.{number_back}
use Rattle.wgr_tables.proofs.EditLemmas.{tenants_after, register_tenants, tokens_after, register_tokens, networks_after, register_networks}
use Rattle.wgr_tables.proofs.Made.{Made}
use Rattle.wgr_tables.proofs.WriteLemmas.{row_inserted}
use Rattle.wgr_tables.proofs.WrittenLemmas.{IsWritten, written_put}
use Rattle.wgr_entries.specs.OrderSteps.{TokenRowComes}
use Rattle.wgr_entries.specs.Stops.{network_params}
use Rattle.wgr_entries.proofs.Meanings.{insert_tenant_text, insert_tenant_means, tenant_values, insert_token_text, insert_token_means, token_values, insert_network_text, insert_network_means, network_values}

-- a row of which one place is a number
one_number : (place : ℕ) (row : Row) → column row place ≡ Int (pos (number_at row place)) → IsWritten (place ∷ []) [] [] row
one_number place row is = record {
  number_is = λ p h. elim h [ inl e ↦ subst (λ x. column row x ≡ Int (pos (number_at row x))) (sym e) is | inr none ↦ elim none [ ] ];
  address_is = λ p none. elim none [ ];
  family_is = λ p none. elim none [ ];
}

pub tenant_came : (old new : State) (register : IsRegister old.now) (id : ℕ) (name : Bytes) (count : ℕ) → Executes insert_tenant_text (Int (pos id) ∷ Text name ∷ []) old new (Ok count) → Made (TenantComes (record { id = id; name = name })) old.now new.now
tenant_came old new register id name count ran =
    let rows = old.now.trees 1 in
    let params : Row = Int (pos id) ∷ Text name ∷ [] in
    let row : Row = Int (pos id) ∷ Null ∷ Text name ∷ [] in
    let news : (edit_of old.now.trees (tenant_table_at 1) [] Chosen 0 (value_rows (stamped (tenant_table_at 1) params) 3 1 tenant_values)).news ≡ row ∷ [] = rw (cast_null, cast_int (pos id)) in
    let done = row_inserted old new register insert_tenant_text params count ran 1 (tenant_table_at 1) refl refl tenant_values 3 (insert_tenant_means register.others) refl row news in
    record {
      schema = done.0.edits.schema_is ∙ sym register.schema_is;
      sound = register_tenants old.now new.now _ register done.0.sound done.0.edits (written_put (0 ∷ []) [] [] row rows refl done.1 (one_number 0 row refl) register.written.tenants);
      made = (map tenant_in (put_row row rows), IsPermutation-map tenant_in (row ∷ rows) (put_row row rows) (put_one row rows done.1), tenants_after old.now new.now _ register done.0.sound done.0.edits);
    }

pub token_came : (old new : State) (register : IsRegister old.now) (digest : Bytes) (tenant count : ℕ) → Executes insert_token_text (Blob digest ∷ Int (pos tenant) ∷ []) old new (Ok count) → Made (TokenRowComes (record { digest = digest; tenant = tenant })) old.now new.now
token_came old new register digest tenant count ran =
    let rows = old.now.trees 3 in
    let params : Row = Blob digest ∷ Int (pos tenant) ∷ [] in
    let row : Row = Int (next_rowid rows) ∷ Blob digest ∷ Int (pos tenant) ∷ [] in
    let news : (edit_of old.now.trees (token_table_at 3) [] Chosen 0 (value_rows (stamped (token_table_at 3) params) 3 1 token_values)).news ≡ row ∷ [] = rw (cast_null, cast_int (pos tenant)) in
    let done = row_inserted old new register insert_token_text params count ran 2 (token_table_at 3) refl refl token_values 3 (insert_token_means register.others) refl row news in
    record {
      schema = done.0.edits.schema_is ∙ sym register.schema_is;
      sound = register_tokens old.now new.now _ register done.0.sound done.0.edits (written_put (2 ∷ []) [] [] row rows refl done.1 (one_number 2 row refl) register.written.tokens);
      made = (map token_in (put_row row rows), IsPermutation-map token_in (row ∷ rows) (put_row row rows) (put_one row rows done.1), tokens_after old.now new.now _ register done.0.sound done.0.edits);
    }

-- the row of a new network as the table stores it
abbrev stored_network : NetworkRow → Row
stored_network w = Int (pos w.id) ∷ Null ∷ Int (pos w.tenant) ∷ Text w.name ∷ Int (pos (family_number w.pool.address.family)) ∷ Blob (bytes_of w.pool.address.number) ∷ Int (pos w.pool.length) ∷ Text w.host ∷ Int (pos w.port) ∷ Blob w.server.0 ∷ Int (pos w.capacity) ∷ Int (pos 1) ∷ []

stored_is : (w : NetworkRow) → w.pool.address.number < 2 ^ 128 → network_in (stored_network w) ≡ record w { next = 1 }
stored_is w low =
    let family = family_back w.pool.address.family in
    let first = number_back w.pool.address.number low in
    λ k. record w { pool = record { address = record { family = family k; number = first k }; length = w.pool.length }; next = 1 }

stored_written : (w : NetworkRow) → w.pool.address.number < 2 ^ 128 → IsWritten network_numbers (5 ∷ []) (4 ∷ []) (stored_network w)
stored_written w low = record { number_is = numbers; address_is = addresses; family_is = families }
  where
    new : Row
    new = stored_network w

    numbers : (q : ℕ) → Has network_numbers q → column new q ≡ Int (pos (number_at new q))
    numbers q (inl e) = subst (λ x. column new x ≡ Int (pos (number_at new x))) (sym e) refl
    numbers q (inr (inl e)) = subst (λ x. column new x ≡ Int (pos (number_at new x))) (sym e) refl
    numbers q (inr (inr (inl e))) = subst (λ x. column new x ≡ Int (pos (number_at new x))) (sym e) refl
    numbers q (inr (inr (inr (inl e)))) = subst (λ x. column new x ≡ Int (pos (number_at new x))) (sym e) refl
    numbers q (inr (inr (inr (inr (inl e))))) = subst (λ x. column new x ≡ Int (pos (number_at new x))) (sym e) refl
    numbers q (inr (inr (inr (inr (inr (inl e)))))) = subst (λ x. column new x ≡ Int (pos (number_at new x))) (sym e) refl
    numbers q (inr (inr (inr (inr (inr (inr (inl e))))))) = subst (λ x. column new x ≡ Int (pos (number_at new x))) (sym e) refl
    numbers q (inr (inr (inr (inr (inr (inr (inr none))))))) = elim none [ ]

    addresses : (q : ℕ) → Has (5 ∷ []) q → column new q ≡ Blob (bytes_of (number_of (bytes_at new q)))
    addresses q (inl e) = subst (λ x. column new x ≡ Blob (bytes_of (number_of (bytes_at new x)))) (sym e) (ap (λ n. Blob (bytes_of n)) (sym (number_back w.pool.address.number low)))
    addresses q (inr none) = elim none [ ]

    families : (q : ℕ) → Has (4 ∷ []) q → number_at new q ≡ family_number (family_of (number_at new q))
    families q (inl e) = subst (λ x. number_at new x ≡ family_number (family_of (number_at new x))) (sym e) (ap family_number (sym (family_back w.pool.address.family)))
    families q (inr none) = elim none [ ]

pub network_came : (old new : State) (register : IsRegister old.now) (w : NetworkRow) (count : ℕ) → w.pool.address.number < 2 ^ 128 → Executes insert_network_text (network_params w) old new (Ok count) → Made (NetworkComes (record w { next = 1 })) old.now new.now
network_came old new register w count low ran =
    let rows = old.now.trees 5 in
    let row = stored_network w in
    let news : (edit_of old.now.trees (network_table_at 5) [] Chosen 0 (value_rows (stamped (network_table_at 5) (network_params w)) 12 1 network_values)).news ≡ row ∷ [] =
    rw (cast_null, cast_int (pos w.id), cast_int (pos w.tenant), cast_int (pos (family_number w.pool.address.family)), cast_int (pos w.pool.length), cast_int (pos w.port), cast_int (pos w.capacity), cast_int (pos 1)) in
    let done = row_inserted old new register insert_network_text (network_params w) count ran 3 (network_table_at 5) refl refl network_values 12 (insert_network_means register.others) refl row news in
    record {
      schema = done.0.edits.schema_is ∙ sym register.schema_is;
      sound = register_networks old.now new.now _ register done.0.sound done.0.edits (written_put network_numbers (5 ∷ []) (4 ∷ []) row rows refl done.1 (stored_written w low) register.written.networks);
      made = (
        map network_in (put_row row rows),
        subst (λ x. IsPermutation (x ∷ map network_in rows) (map network_in (put_row row rows))) (stored_is w low) (IsPermutation-map network_in (row ∷ rows) (put_row row rows) (put_one row rows done.1)),
        networks_after old.now new.now _ register done.0.sound done.0.edits,
      );
    }
