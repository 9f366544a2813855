-- What the query of networks shows.
use Rattle.std.proofs.Common.{List, ℕ, [], ◌∷◌, codes, refl, arith}
use Rattle.sqlite.specs.Order.{Row}
use Rattle.sqlite.specs.Command.TheVariants.{Select}
use Rattle.sqlite.specs.Listing.{understood}
use Rattle.sqlite.specs.State.{State, Shown}
use Rattle.sqlite_tied.specs.Compute.{everything}
use Rattle.wgr_sql.specs.Causes.{IsAnswered}
use Rattle.wgr_sql.specs.Effects.{plain_query}
use Rattle.wgr_columns.specs.Layout.{Others, schema_with}
use Rattle.wgr_columns.specs.Texts.{select_networks}
use Rattle.wgr_columns.proofs.Statements.{Asks, network_names, network_places, never_refused, rising}
use Rattle.wgr_columns.specs.LaidOut.{IsLaidOut}
use Rattle.wgr_checks.specs.TenantRows.{ListsSorted}
use Rattle.wgr_checks.specs.NetworkRows.{network_values}
use Rattle.wgr_checks.proofs.Queries.{lists}

abbrev pub networks_text : List ℕ
networks_text = select_networks (codes " ORDER BY id")

pub networks_ask : (others : Others) → Asks others networks_text (Select (record { lets = []; body = plain_query 5 [] network_places (rising 0 ∷ []) }) network_names)
unfolding understood everything
networks_ask others = record { means = record { command_is = refl; plain = (refl, refl) }; unlisted = refl }

pub networks_answered : (others : Others) → IsAnswered (schema_with others) networks_text []
unfolding understood everything
networks_answered others = record { given = (refl, refl, omega arith, refl); unlisted = refl; plain = λ limit trees e refused. never_refused _ refl limit (trees 5) refused }

pub networks_listed : (old new : State) → IsLaidOut old.now.schema → (rows : List Row) → Shown networks_text [] old new rows → ListsSorted network_values 0 (old.now.trees 5) rows
networks_listed old new laid rows h = lists 5 0 network_places _ networks_text networks_ask old new laid rows h
