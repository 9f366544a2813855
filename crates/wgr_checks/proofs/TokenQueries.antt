-- What the queries of tokens show.
use Rattle.std.proofs.Common.{ℕ, List, [], ◌∷◌, codes, refl, arith}
use Rattle.sqlite.specs.Order.{Row}
use Rattle.sqlite.specs.declared.types.Value.TheVariants.{Null}
use Rattle.sqlite.specs.Command.TheVariants.{Select}
use Rattle.sqlite.specs.Listing.{understood}
use Rattle.sqlite.specs.State.{State, Shown}
use Rattle.sqlite.specs.Term.{Term, col, lit}
use Rattle.sqlite_tied.specs.Compute.{everything}
use Rattle.wgr_sql.specs.Causes.{IsAnswered}
use Rattle.wgr_sql.specs.Effects.{plain_query}
use Rattle.wgr_columns.specs.Layout.{Others, schema_with}
use Rattle.wgr_columns.proofs.Statements.{never_refused}
use Rattle.wgr_columns.proofs.Statements.{Asks, rising}
use Rattle.wgr_columns.specs.LaidOut.{IsLaidOut}
use Rattle.wgr_checks.specs.TenantRows.{ListsSorted}
use Rattle.wgr_checks.specs.TokenRows.{rowid_values, digest_values, owner_values}
use Rattle.wgr_checks.proofs.Queries.{lists}

abbrev pub rowids_text : List ℕ
rowids_text = codes "SELECT rowid, NULL, NULL FROM token ORDER BY rowid"

abbrev pub rowid_places : List Term
rowid_places = col 1 0 ∷ lit Null ∷ lit Null ∷ []

pub rowids_ask : (others : Others) → Asks others rowids_text (Select (record { lets = []; body = plain_query 3 [] rowid_places (rising 0 ∷ []) }) (codes "rowid" ∷ codes "NULL" ∷ codes "NULL" ∷ []))
unfolding understood everything
rowids_ask others = record { means = record { command_is = refl; plain = (refl, refl) }; unlisted = refl }

pub rowids_answered : (others : Others) → IsAnswered (schema_with others) rowids_text []
unfolding understood everything
rowids_answered others = record { given = (refl, refl, omega arith, refl); unlisted = refl; plain = λ limit trees e refused. never_refused _ refl limit (trees 3) refused }

pub rowids_listed : (old new : State) → IsLaidOut old.now.schema → (rows : List Row) → Shown rowids_text [] old new rows → ListsSorted rowid_values 0 (old.now.trees 3) rows
rowids_listed old new laid rows h = lists 3 0 rowid_places _ rowids_text rowids_ask old new laid rows h

abbrev pub digests_text : List ℕ
digests_text = codes "SELECT NULL, digest, NULL FROM token ORDER BY digest"

abbrev pub digest_places : List Term
digest_places = lit Null ∷ col 1 1 ∷ lit Null ∷ []

pub digests_ask : (others : Others) → Asks others digests_text (Select (record { lets = []; body = plain_query 3 [] digest_places (rising 1 ∷ []) }) (codes "NULL" ∷ codes "digest" ∷ codes "NULL" ∷ []))
unfolding understood everything
digests_ask others = record { means = record { command_is = refl; plain = (refl, refl) }; unlisted = refl }

pub digests_answered : (others : Others) → IsAnswered (schema_with others) digests_text []
unfolding understood everything
digests_answered others = record { given = (refl, refl, omega arith, refl); unlisted = refl; plain = λ limit trees e refused. never_refused _ refl limit (trees 3) refused }

pub digests_listed : (old new : State) → IsLaidOut old.now.schema → (rows : List Row) → Shown digests_text [] old new rows → ListsSorted digest_values 1 (old.now.trees 3) rows
digests_listed old new laid rows h = lists 3 1 digest_places _ digests_text digests_ask old new laid rows h

abbrev pub owners_text : List ℕ
owners_text = codes "SELECT NULL, NULL, tenant FROM token ORDER BY tenant"

abbrev pub owner_places : List Term
owner_places = lit Null ∷ lit Null ∷ col 1 2 ∷ []

pub owners_ask : (others : Others) → Asks others owners_text (Select (record { lets = []; body = plain_query 3 [] owner_places (rising 2 ∷ []) }) (codes "NULL" ∷ codes "NULL" ∷ codes "tenant" ∷ []))
unfolding understood everything
owners_ask others = record { means = record { command_is = refl; plain = (refl, refl) }; unlisted = refl }

pub owners_answered : (others : Others) → IsAnswered (schema_with others) owners_text []
unfolding understood everything
owners_answered others = record { given = (refl, refl, omega arith, refl); unlisted = refl; plain = λ limit trees e refused. never_refused _ refl limit (trees 3) refused }

pub owners_listed : (old new : State) → IsLaidOut old.now.schema → (rows : List Row) → Shown owners_text [] old new rows → ListsSorted owner_values 2 (old.now.trees 3) rows
owners_listed old new laid rows h = lists 3 2 owner_places _ owners_text owners_ask old new laid rows h
