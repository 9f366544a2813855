-- What the statements mean, whatever stands after the register's tables.
use Rattle.std.proofs.Common.{ℕ, pos, List, codes, [], ◌∷◌, refl}
use Rattle.sqlite.specs.declared.types.Value.TheVariants.{Null, Int}
use Rattle.sqlite.specs.Command.TheVariants.{Delete, Insert}
use Rattle.sqlite.specs.Source.TheVariants.{Values}
use Rattle.sqlite.specs.Term.{Term, lit, col}
use Rattle.sqlite_tied.specs.Compute.{everything}
use Rattle.sqlite.specs.Listing.{understood}
use Rattle.wgr_sql.specs.Effects.{plain_query}
use Rattle.wgr_columns.specs.Layout.{Others}
use Rattle.wgr_columns.proofs.Statements.{Means, equal_to}

abbrev pub insert_tenant_text : List ℕ
insert_tenant_text = codes "INSERT INTO tenant (id, name) VALUES (?1, ?2)"

abbrev pub tenant_values : List Term
tenant_values = col 0 0 ∷ lit Null ∷ col 0 1 ∷ []

abbrev pub insert_token_text : List ℕ
insert_token_text = codes "INSERT INTO token (digest, tenant) VALUES (?1, ?2)"

abbrev pub token_values : List Term
token_values = lit Null ∷ col 0 0 ∷ col 0 1 ∷ []

abbrev pub insert_network_text : List ℕ
insert_network_text = codes "INSERT INTO network (id, tenant, name, family, lo, length, host, port, server, capacity, next) VALUES (?1, ?2, ?3, ?4, ?5, ?6, ?7, ?8, ?9, ?10, 1)"

abbrev pub network_values : List Term
network_values = col 0 0 ∷ lit Null ∷ col 0 1 ∷ col 0 2 ∷ col 0 3 ∷ col 0 4 ∷ col 0 5 ∷ col 0 6 ∷ col 0 7 ∷ col 0 8 ∷ col 0 9 ∷ lit (Int (pos 1)) ∷ []

abbrev pub drop_token_text : List ℕ
drop_token_text = codes "DELETE FROM token WHERE digest = ?1"

abbrev pub drop_allowed_text : List ℕ
drop_allowed_text = codes "DELETE FROM allowed WHERE network = ?1"

abbrev pub drop_peers_text : List ℕ
drop_peers_text = codes "DELETE FROM peer WHERE network = ?1"

abbrev pub drop_network_text : List ℕ
drop_network_text = codes "DELETE FROM network WHERE id = ?1"

-- the value at this place is the parameter's
abbrev pub at_place : ℕ → List Term
at_place place = equal_to place 0 ∷ []

module _ (others : Others) where
  pub insert_tenant_means : Means others insert_tenant_text (Insert 1 (Values tenant_values 3))
  unfolding understood everything
  insert_tenant_means = record { command_is = refl; plain = (refl, refl) }

  pub insert_token_means : Means others insert_token_text (Insert 2 (Values token_values 3))
  unfolding understood everything
  insert_token_means = record { command_is = refl; plain = (refl, refl) }

  pub insert_network_means : Means others insert_network_text (Insert 3 (Values network_values 12))
  unfolding understood everything
  insert_network_means = record { command_is = refl; plain = (refl, refl) }

  pub drop_token_means : Means others drop_token_text (Delete 2 (record { lets = []; body = plain_query 3 (at_place 1) (col 1 0 ∷ []) [] }))
  unfolding understood everything
  drop_token_means = record { command_is = refl; plain = (refl, refl) }

  pub drop_allowed_means : Means others drop_allowed_text (Delete 5 (record { lets = []; body = plain_query 10 (at_place 1) (col 1 0 ∷ []) [] }))
  unfolding understood everything
  drop_allowed_means = record { command_is = refl; plain = (refl, refl) }

  pub drop_peers_means : Means others drop_peers_text (Delete 4 (record { lets = []; body = plain_query 8 (at_place 2) (col 1 0 ∷ []) [] }))
  unfolding understood everything
  drop_peers_means = record { command_is = refl; plain = (refl, refl) }

  pub drop_network_means : Means others drop_network_text (Delete 3 (record { lets = []; body = plain_query 5 (at_place 0) (col 1 0 ∷ []) [] }))
  unfolding understood everything
  drop_network_means = record { command_is = refl; plain = (refl, refl) }
