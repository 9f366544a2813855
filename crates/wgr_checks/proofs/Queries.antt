-- What the queries show.
use Rattle.std.proofs.Common.{◌≡◌, ◌+◌, ℕ, true, List, [], ◌∷◌, codes, filter, get_or, is_lt, refl, arith, sym, ap, subst, ◌∙◌, IsPermutation}
use Rattle.sqlite.specs.Order.{Row}
use Rattle.sqlite_value.specs.Order.{column, value_cmp}
use Rattle.sqlite_value.proofs.OrderLemmas.{then-Equal}
use Rattle.sqlite.specs.declared.types.Value.TheVariants.{Null}
use Rattle.sqlite.specs.Command.TheVariants.{Select}
use Rattle.sqlite.specs.Listing.{understood}
use Rattle.sqlite.specs.Schema.{Schema}
use Rattle.sqlite.specs.State.{State, Shown}
use Rattle.sqlite.specs.Term.{Term, col, lit, eval_all}
use Rattle.sqlite_tied.specs.Compute.{everything}
use Rattle.sqlite.proofs.Callers.{IsPlain, reads_as}
use Rattle.wgr_sql.specs.Causes.{IsAnswered}
use Rattle.wgr_sql.specs.Effects.{plain_query}
use Rattle.wgr_sql.proofs.Answers.{answers}
use Rattle.wgr_columns.specs.Layout.{Others, schema_with}
use Rattle.wgr_columns.proofs.Statements.{never_refused}
use Rattle.wgr_columns.proofs.Statements.{Asks, rising}
use Rattle.wgr_columns.specs.LaidOut.{IsLaidOut}
use Rattle.wgr_checks.specs.TenantRows.{ListsSorted, tenant_values, name_values}

all_kept : {X : Type 0} (xs : List X) → xs ≡ filter (λ x. true) xs
all_kept [] = refl
all_kept (x ∷ xs) = ap (λ l. x ∷ l) (all_kept xs)

-- SELECT places FROM the table ORDER BY one place
module _ (tree at : ℕ) (places : List Term) (names : List (List ℕ)) (text : List ℕ) (asks : (others : Others) → Asks others text (Select (record { lets = []; body = plain_query tree [] places (rising at ∷ []) }) names)) where
  pub lists : (old new : State) → IsLaidOut old.now.schema → (rows : List Row) → Shown text [] old new rows → ListsSorted (λ r. eval_all places ([] ∷ r ∷ [])) at (old.now.trees tree) rows
  lists old new laid rows h =
      let asked = asks laid.others in
      let read = reads_as text [] old new (schema_with laid.others) laid.schema_is _ asked.means.command_is asked.means.plain asked.unlisted rows h in
      let l = answers tree [] places (rising at ∷ []) old.now.trees [] rows read.answer in
      record {
        chosen = l.chosen;
        same = subst (λ t. IsPermutation t l.chosen) (sym (all_kept (old.now.trees tree))) l.same;
        shown = l.shown;
        sorted = λ k d low high. sym (ap is_lt (then-Equal (value_cmp (column (get_or l.chosen (k + 1) d) at) (column (get_or l.chosen k d) at)))) ∙ l.sorted k d low high;
      }

  pub is_plain : (s : Schema) → IsLaidOut s → IsPlain (understood s text)
  is_plain s laid = subst (λ x. IsPlain (understood x text)) (sym laid.schema_is) (asks laid.others).means.plain

-- ---- tenants

abbrev pub ids_text : List ℕ
ids_text = codes "SELECT id, NULL, name FROM tenant ORDER BY id"

abbrev pub id_places : List Term
id_places = col 1 0 ∷ lit Null ∷ col 1 2 ∷ []

pub ids_ask : (others : Others) → Asks others ids_text (Select (record { lets = []; body = plain_query 1 [] id_places (rising 0 ∷ []) }) (codes "id" ∷ codes "NULL" ∷ codes "name" ∷ []))
unfolding understood everything
ids_ask others = record { means = record { command_is = refl; plain = (refl, refl) }; unlisted = refl }

pub ids_answered : (others : Others) → IsAnswered (schema_with others) ids_text []
unfolding understood everything
ids_answered others = record { given = (refl, refl, omega arith, refl); unlisted = refl; plain = λ limit trees e refused. never_refused _ refl limit (trees 1) refused }

abbrev pub names_text : List ℕ
names_text = codes "SELECT NULL, NULL, name FROM tenant ORDER BY name"

abbrev pub name_places : List Term
name_places = lit Null ∷ lit Null ∷ col 1 2 ∷ []

pub names_ask : (others : Others) → Asks others names_text (Select (record { lets = []; body = plain_query 1 [] name_places (rising 2 ∷ []) }) (codes "NULL" ∷ codes "NULL" ∷ codes "name" ∷ []))
unfolding understood everything
names_ask others = record { means = record { command_is = refl; plain = (refl, refl) }; unlisted = refl }

pub names_answered : (others : Others) → IsAnswered (schema_with others) names_text []
unfolding understood everything
names_answered others = record { given = (refl, refl, omega arith, refl); unlisted = refl; plain = λ limit trees e refused. never_refused _ refl limit (trees 1) refused }

pub ids_listed : (old new : State) → IsLaidOut old.now.schema → (rows : List Row) → Shown ids_text [] old new rows → ListsSorted tenant_values 0 (old.now.trees 1) rows
ids_listed old new laid rows h = lists 1 0 id_places _ ids_text ids_ask old new laid rows h

pub names_listed : (old new : State) → IsLaidOut old.now.schema → (rows : List Row) → Shown names_text [] old new rows → ListsSorted name_values 2 (old.now.trees 1) rows
names_listed old new laid rows h = lists 1 2 name_places _ names_text names_ask old new laid rows h
