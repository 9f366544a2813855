-- The queries by a key, and that they are answered.
use Rattle.std.proofs.Common.{ℕ, pos, List, codes, [], ◌∷◌, refl, arith}
use Rattle.sqlite.specs.declared.types.Value.TheVariants.{Null, Int, Text, Blob}
use Rattle.sqlite.specs.Command.TheVariants.{Select}
use Rattle.sqlite.specs.Term.{Term, lit, col}
use Rattle.sqlite.specs.Listing.{understood}
use Rattle.sqlite_tied.specs.Compute.{everything}
use Rattle.wgr_sql.specs.Causes.{IsAnswered}
use Rattle.wgr_sql.specs.Effects.{plain_query}
use Rattle.wgr_columns.specs.Layout.{Others, schema_with}
use Rattle.wgr_columns.specs.Texts.{select_networks}
use Rattle.wgr_columns.proofs.Statements.{Asks, equal_to, network_names, network_places, never_refused}
use Rattle.wgr_tables.proofs.Meanings.{of_network}

abbrev pub token_text : List ℕ
token_text = codes "SELECT NULL, digest, tenant FROM token WHERE digest = ?1"

abbrev pub of_digest : List Term
of_digest = equal_to 1 0 ∷ []

abbrev pub token_places : List Term
token_places = lit Null ∷ col 1 1 ∷ col 1 2 ∷ []

abbrev pub tenant_text : List ℕ
tenant_text = codes "SELECT id, NULL, name FROM tenant WHERE name = ?1"

abbrev pub of_name : List Term
of_name = equal_to 2 0 ∷ []

abbrev pub tenant_places : List Term
tenant_places = col 1 0 ∷ lit Null ∷ col 1 2 ∷ []

abbrev pub slot_text : List ℕ
slot_text = select_networks (codes " WHERE tenant = ?1 AND name = ?2")

abbrev pub of_slot : List Term
of_slot = equal_to 2 0 ∷ equal_to 3 1 ∷ []

abbrev pub of_tenant_text : List ℕ
of_tenant_text = select_networks (codes " WHERE tenant = ?1")

module _ (others : Others) where
  pub token_asks : Asks others token_text (Select (record { lets = []; body = plain_query 3 of_digest token_places [] }) (codes "NULL" ∷ codes "digest" ∷ codes "tenant" ∷ []))
  unfolding understood everything
  token_asks = record { means = record { command_is = refl; plain = (refl, refl) }; unlisted = refl }

  pub tenant_asks : Asks others tenant_text (Select (record { lets = []; body = plain_query 1 of_name tenant_places [] }) (codes "id" ∷ codes "NULL" ∷ codes "name" ∷ []))
  unfolding understood everything
  tenant_asks = record { means = record { command_is = refl; plain = (refl, refl) }; unlisted = refl }

  pub slot_asks : Asks others slot_text (Select (record { lets = []; body = plain_query 5 of_slot network_places [] }) network_names)
  unfolding understood everything
  slot_asks = record { means = record { command_is = refl; plain = (refl, refl) }; unlisted = refl }

  pub token_answered : (digest : List ℕ) → IsAnswered (schema_with others) token_text (Blob digest ∷ [])
  unfolding understood everything
  token_answered digest = record { given = (refl, refl, omega arith, refl); unlisted = refl; plain = λ limit trees e refused. never_refused _ refl limit (trees 3) refused }

  pub tenant_answered : (name : List ℕ) → IsAnswered (schema_with others) tenant_text (Text name ∷ [])
  unfolding understood everything
  tenant_answered name = record { given = (refl, refl, omega arith, refl); unlisted = refl; plain = λ limit trees e refused. never_refused _ refl limit (trees 1) refused }

  pub slot_answered : (tenant : ℕ) (name : List ℕ) → IsAnswered (schema_with others) slot_text (Int (pos tenant) ∷ Text name ∷ [])
  unfolding understood everything
  slot_answered tenant name = record { given = (refl, refl, omega arith, refl); unlisted = refl; plain = λ limit trees e refused. never_refused _ refl limit (trees 5) refused }

  pub of_tenant_asks : Asks others of_tenant_text (Select (record { lets = []; body = plain_query 5 (of_network 2) network_places [] }) network_names)
  unfolding understood everything
  of_tenant_asks = record { means = record { command_is = refl; plain = (refl, refl) }; unlisted = refl }

  pub of_tenant_answered : (tenant : ℕ) → IsAnswered (schema_with others) of_tenant_text (Int (pos tenant) ∷ [])
  unfolding understood everything
  of_tenant_answered tenant = record { given = (refl, refl, omega arith, refl); unlisted = refl; plain = λ limit trees e refused. never_refused _ refl limit (trees 5) refused }
