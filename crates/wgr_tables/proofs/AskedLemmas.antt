-- The queries of the register are answered, whatever rows there are, unless something hinders them.
use Rattle.std.proofs.Common.{ℕ, pos, List, [], ◌∷◌, IsTrue, refl, sym, ap, subst, ◌∙◌, arith}
use Rattle.sqlite.specs.declared.types.Value.TheVariants.{Int}
use Rattle.sqlite.specs.Order.{Row}
use Rattle.sqlite.specs.Effect.{Database}
use Rattle.sqlite.specs.Held.{Held, state}
use Rattle.sqlite.specs.Listing.{understood}
use Rattle.sqlite.specs.State.{HasCleanDisk, Survives}
use Rattle.sqlite.specs.Store.{Ghosts}
use Rattle.sqlite_tied.specs.Compute.{everything}
use Rattle.wgr_sql.specs.Causes.{IsAnswered}
use Rattle.wgr_columns.specs.Layout.{Others, schema_with}
use Rattle.wgr_tables.specs.Writes.{Written}
use Rattle.wgr_tables.specs.Standing.{Stands}
use Rattle.wgr_columns.proofs.Statements.{never_refused}
use Rattle.wgr_tables.proofs.Meanings.{peers_text, addresses_text, routes_text, network_text, first_route_text}

module _ (others : Others) where
  pub peers_answered : (id : ℕ) → IsAnswered (schema_with others) peers_text (Int (pos id) ∷ [])
  unfolding understood everything
  peers_answered id = record { given = (refl, refl, omega arith, refl); unlisted = refl; plain = λ limit trees e refused. never_refused _ refl limit (trees 8) refused }

  pub addresses_answered : (id : ℕ) → IsAnswered (schema_with others) addresses_text (Int (pos id) ∷ [])
  unfolding understood everything
  addresses_answered id = record { given = (refl, refl, omega arith, refl); unlisted = refl; plain = λ limit trees e refused. never_refused _ refl limit (trees 10) refused }

  pub routes_answered : (id : ℕ) → IsAnswered (schema_with others) routes_text (Int (pos id) ∷ [])
  unfolding understood everything
  routes_answered id = record { given = (refl, refl, omega arith, refl); unlisted = refl; plain = λ limit trees e refused. never_refused _ refl limit (trees 10) refused }

  pub network_answered : (id : ℕ) → IsAnswered (schema_with others) network_text (Int (pos id) ∷ [])
  unfolding understood everything
  network_answered id = record { given = (refl, refl, omega arith, refl); unlisted = refl; plain = λ limit trees e refused. never_refused _ refl limit (trees 5) refused }

  pub first_route_answered : (id : ℕ) → IsAnswered (schema_with others) first_route_text (Int (pos id) ∷ [])
  unfolding understood everything
  first_route_answered id = record { given = (refl, refl, omega arith, refl); unlisted = refl; plain = λ limit trees e refused. never_refused _ refl limit (trees 10) refused }

-- a text on the register's tables, where the register stands
module _ {S : Type 0} (g : Ghosts S) (old new : Held S) (db : Database) (pending : List Written) (stood : Stands g old db pending) (survives : Survives (state g old) (state g new) (λ _. ⊥)) (text : List ℕ) (params : Row) where
  pub answered_here : ((others : Others) → IsAnswered (schema_with others) text params) → IsTrue (state g old).is_open → HasCleanDisk (state g new) → IsAnswered old.schema text params
  answered_here answered live clean =
      let shown = stood.shows (omega (arith, survives.clean, clean)) live in
      subst (λ s. IsAnswered s text params) (sym (ap (λ (d : Database). d.schema) shown ∙ stood.sound.schema_is)) (answered stood.sound.others)
