-- The statements of orders write, whatever is in the database beside the register's tables.
use Rattle.std.proofs.Common.{[], ◌∷◌, refl, arith}
use Rattle.sqlite.specs.declared.types.Value.{Value}
use Rattle.sqlite.specs.Listing.{understood}
use Rattle.sqlite_tied.specs.Compute.{everything}
use Rattle.wgr_sql.specs.Causes.{IsWriting}
use Rattle.wgr_columns.specs.Layout.{Others, schema_with}
use Rattle.wgr_entries.proofs.Meanings.{drop_allowed_text, drop_network_text, drop_peers_text, drop_token_text, insert_network_text, insert_tenant_text, insert_token_text}

module _ (others : Others) where
  pub insert_tenant_writes : (a b : Value) → IsWriting (schema_with others) insert_tenant_text (a ∷ b ∷ [])
  unfolding understood everything
  insert_tenant_writes a b = record { given = (refl, refl, omega arith, refl); plain = (tt, refl) }

  pub insert_token_writes : (a b : Value) → IsWriting (schema_with others) insert_token_text (a ∷ b ∷ [])
  unfolding understood everything
  insert_token_writes a b = record { given = (refl, refl, omega arith, refl); plain = (tt, refl) }

  pub insert_network_writes : (a b c d e f h i j k : Value) → IsWriting (schema_with others) insert_network_text (a ∷ b ∷ c ∷ d ∷ e ∷ f ∷ h ∷ i ∷ j ∷ k ∷ [])
  unfolding understood everything
  insert_network_writes a b c d e f h i j k = record { given = (refl, refl, omega arith, refl); plain = (tt, refl) }

  pub drop_token_writes : (a : Value) → IsWriting (schema_with others) drop_token_text (a ∷ [])
  unfolding understood everything
  drop_token_writes a = record { given = (refl, refl, omega arith, refl); plain = (tt, refl) }

  pub drop_allowed_writes : (a : Value) → IsWriting (schema_with others) drop_allowed_text (a ∷ [])
  unfolding understood everything
  drop_allowed_writes a = record { given = (refl, refl, omega arith, refl); plain = (tt, refl) }

  pub drop_peers_writes : (a : Value) → IsWriting (schema_with others) drop_peers_text (a ∷ [])
  unfolding understood everything
  drop_peers_writes a = record { given = (refl, refl, omega arith, refl); plain = (tt, refl) }

  pub drop_network_writes : (a : Value) → IsWriting (schema_with others) drop_network_text (a ∷ [])
  unfolding understood everything
  drop_network_writes a = record { given = (refl, refl, omega arith, refl); plain = (tt, refl) }
