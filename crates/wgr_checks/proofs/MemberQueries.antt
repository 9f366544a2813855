-- What the queries show.
use Rattle.std.proofs.Common.{◌≡◌, ℕ, List, [], ◌∷◌, codes, Ok, refl, sym, ap, subst, ◌∙◌, arith}
use Rattle.sqlite.specs.Order.{Row}
use Rattle.sqlite.specs.declared.types.Value.TheVariants.{Null}
use Rattle.sqlite.specs.Command.{Command}
use Rattle.sqlite.specs.Command.TheVariants.{Select}
use Rattle.sqlite.specs.Effect.{Database}
use Rattle.sqlite.specs.Listing.{understood}
use Rattle.sqlite.specs.Schema.{Schema}
use Rattle.sqlite.specs.State.{State, Shown}
use Rattle.sqlite.specs.Term.{Term, col, lit, eval_all}
use Rattle.sqlite_resolve.specs.declared.compiled.Compiled.{Compiled}
use Rattle.sqlite_tied.specs.Compute.{everything}
use Rattle.sqlite.proofs.Callers.{IsPlain, EndsIn, command_of}
use Rattle.wgr_sql.specs.Causes.{IsAnswered}
use Rattle.wgr_sql.specs.Effects.{plain_query}
use Rattle.wgr_columns.specs.Layout.{Others, schema_with}
use Rattle.wgr_columns.proofs.Statements.{never_refused}
use Rattle.wgr_columns.proofs.Statements.{Asks, rising}
use Rattle.wgr_columns.specs.LaidOut.{IsLaidOut}
use Rattle.wgr_checks.specs.TenantRows.{ListsSorted}
use Rattle.wgr_checks.proofs.CauseLemmas.{is_answered}
use Rattle.wgr_checks.proofs.Queries.{lists, is_plain}
use Rattle.wgr_checks.specs.declared.table.Table.{Table}
use Rattle.wgr_checks.specs.declared.table.Table.TheVariants.{Peers, Allowed}
use Rattle.wgr_checks.specs.TableRows.{text_of, tree_of, values_of}

abbrev pub peer_places : List Term
peer_places = col 1 0 ∷ lit Null ∷ col 1 2 ∷ lit Null ∷ lit Null ∷ col 1 5 ∷ col 1 6 ∷ col 1 7 ∷ col 1 8 ∷ col 1 9 ∷ []

abbrev pub peer_names : List (List ℕ)
peer_names = codes "id" ∷ codes "NULL" ∷ codes "network" ∷ codes "NULL" ∷ codes "NULL" ∷ codes "until" ∷ codes "keepalive" ∷ codes "handshake" ∷ codes "received" ∷ codes "sent" ∷ []

pub peers_ask : (others : Others) → Asks others (text_of Peers) (Select (record { lets = []; body = plain_query 8 [] peer_places (rising 0 ∷ []) }) peer_names)
unfolding understood everything
peers_ask others = record { means = record { command_is = refl; plain = (refl, refl) }; unlisted = refl }

abbrev pub allowed_places : List Term
allowed_places = col 1 0 ∷ col 1 1 ∷ col 1 2 ∷ col 1 3 ∷ col 1 4 ∷ col 1 5 ∷ col 1 6 ∷ col 1 7 ∷ []

abbrev pub allowed_names : List (List ℕ)
allowed_names = codes "rowid" ∷ codes "network" ∷ codes "family" ∷ codes "lo" ∷ codes "length" ∷ codes "hi" ∷ codes "peer" ∷ codes "kind" ∷ []

pub allowed_ask : (others : Others) → Asks others (text_of Allowed) (Select (record { lets = []; body = plain_query 10 [] allowed_places (rising 0 ∷ []) }) allowed_names)
unfolding understood everything
allowed_ask others = record { means = record { command_is = refl; plain = (refl, refl) }; unlisted = refl }

-- ---- of either table

abbrev places_of : Table → List Term
places_of Peers = peer_places
places_of Allowed = allowed_places

abbrev names_of : Table → List (List ℕ)
names_of Peers = peer_names
names_of Allowed = allowed_names

abbrev command_at : Table → Command
command_at t = Select (record { lets = []; body = plain_query (tree_of t) [] (places_of t) (rising 0 ∷ []) }) (names_of t)

table_asks : (t : Table) (others : Others) → Asks others (text_of t) (command_at t)
table_asks Peers = peers_ask
table_asks Allowed = allowed_ask

peers_answered : (others : Others) → IsAnswered (schema_with others) (text_of Peers) []
unfolding understood everything
peers_answered others = record { given = (refl, refl, omega arith, refl); unlisted = refl; plain = λ limit trees e refused. never_refused _ refl limit (trees 8) refused }

allowed_answered : (others : Others) → IsAnswered (schema_with others) (text_of Allowed) []
unfolding understood everything
allowed_answered others = record { given = (refl, refl, omega arith, refl); unlisted = refl; plain = λ limit trees e refused. never_refused _ refl limit (trees 10) refused }

table_answered : (t : Table) (others : Others) → IsAnswered (schema_with others) (text_of t) []
table_answered Peers = peers_answered
table_answered Allowed = allowed_answered

pub answered : (t : Table) (s : Schema) → IsLaidOut s → IsAnswered s (text_of t) []
answered t s laid = is_answered (text_of t) (table_answered t) s laid

shows : (t : Table) (row : Row) → eval_all (places_of t) ([] ∷ row ∷ []) ≡ values_of t row
shows Peers row = refl
shows Allowed row = refl

pub listed : (t : Table) (old new : State) → IsLaidOut old.now.schema → (rows : List Row) → Shown (text_of t) [] old new rows → ListsSorted (values_of t) 0 (old.now.trees (tree_of t)) rows
listed t old new laid rows h =
    subst (λ (f : Row → Row). ListsSorted f 0 (old.now.trees (tree_of t)) rows) (λ k row. shows t row k)
    (lists (tree_of t) 0 (places_of t) (names_of t) (text_of t) (table_asks t) old new laid rows h)

pub plain : (t : Table) (s : Schema) → IsLaidOut s → IsPlain (understood s (text_of t))
plain t s laid = is_plain (tree_of t) 0 (places_of t) (names_of t) (text_of t) (table_asks t) s laid

-- the query makes no recursive table, so it ends
pub query_ends : (t : Table) (s : Schema) → IsLaidOut s → (c : Compiled) → understood s (text_of t) ≡ Ok c → (db : Database) (params : Row) → EndsIn c.command db params
query_ends t s laid c is db params =
    let known : command_of (understood s (text_of t)) ≡ command_at t = subst (λ x. command_of (understood x (text_of t)) ≡ command_at t) (sym laid.schema_is) (table_asks t laid.others).means.command_is in
    subst (λ k. EndsIn k db params) (sym known ∙ ap command_of is) tt
