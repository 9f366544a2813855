-- What the query of holding rows means, whatever stands after the register's tables.
use Rattle.std.proofs.Common.{◌≡◌, ℕ, Bool, true, false, List, [], ◌∷◌, codes, Ok, refl, sym, ap, subst, ◌∙◌}
use Rattle.sqlite.specs.Order.{Row}
use Rattle.sqlite.specs.Command.{Command}
use Rattle.sqlite.specs.Command.TheVariants.{Select}
use Rattle.sqlite.specs.Effect.{Database}
use Rattle.sqlite.specs.Listing.{understood}
use Rattle.sqlite.specs.Schema.{Schema}
use Rattle.sqlite.specs.Term.{Term, col, lit}
use Rattle.sqlite.specs.declared.types.Value.TheVariants.{Null}
use Rattle.sqlite_sql.specs.declared.ops.CompareOp.TheVariants.{Ge, Le}
use Rattle.sqlite_resolve.specs.declared.compiled.Compiled.{Compiled}
use Rattle.sqlite_tied.specs.Compute.{everything}
use Rattle.sqlite.proofs.Callers.{EndsIn, command_of}
use Rattle.wgr_sql.specs.Effects.{plain_query}
use Rattle.wgr_columns.specs.Layout.{Others, schema_with}
use Rattle.wgr_columns.proofs.Statements.{Asks, equal_to, rising}
use Rattle.wgr_tables.proofs.Meanings.{allowed_places, compared_to}
use Rattle.wgr_rows.specs.HeldRows.{holds_text}

abbrev pub of_holds : List Term
of_holds = equal_to 1 0 ∷ equal_to 2 1 ∷ compared_to Ge 3 2 ∷ compared_to Le 3 3 ∷ compared_to Ge 4 4 ∷ []

-- the columns that are shown, with those of the peer or without
abbrev pub hold_places : Bool → List Term
hold_places true = allowed_places
hold_places false = lit Null ∷ col 1 1 ∷ col 1 2 ∷ col 1 3 ∷ col 1 4 ∷ []

abbrev pub hold_names : Bool → List (List ℕ)
hold_names true = codes "NULL" ∷ codes "network" ∷ codes "family" ∷ codes "lo" ∷ codes "length" ∷ codes "hi" ∷ codes "peer" ∷ codes "kind" ∷ []
hold_names false = codes "NULL" ∷ codes "network" ∷ codes "family" ∷ codes "lo" ∷ codes "length" ∷ []

abbrev pub holds_command : Bool → Command
holds_command shows_peers = Select (record { lets = []; body = plain_query 10 of_holds (hold_places shows_peers) (rising 3 ∷ rising 4 ∷ []) }) (hold_names shows_peers)

pub holds_ask : (others : Others) (shows_peers : Bool) → Asks others (holds_text shows_peers) (holds_command shows_peers)
unfolding understood everything
holds_ask others true = record { means = record { command_is = refl; plain = (refl, refl) }; unlisted = refl }
holds_ask others false = record { means = record { command_is = refl; plain = (refl, refl) }; unlisted = refl }

-- the query makes no recursive table, so it ends
pub query_ends : (s : Schema) (others : Others) → s ≡ schema_with others → (shows_peers : Bool) (c : Compiled) → understood s (holds_text shows_peers) ≡ Ok c → (db : Database) (params : Row) → EndsIn c.command db params
query_ends s others schema_is shows_peers c is db params =
    let text = holds_text shows_peers in
    let known : command_of (understood s text) ≡ holds_command shows_peers = subst (λ x. command_of (understood x text) ≡ holds_command shows_peers) (sym schema_is) (holds_ask others shows_peers).means.command_is in
    subst (λ k. EndsIn k db params) (sym known ∙ ap command_of is) tt
