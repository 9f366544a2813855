-- What the query for the version finds.
use Rattle.std.proofs.Common.{◌≡◌, ◌↔◌, ◌≤◌, ℕ, pos, Option, Some, None, true, List, [], ◌∷◌, map, filter, codes, IsPermutation, unsigned_abs, refl, sym, ap, subst, ◌∙◌, inl, arith}
use Rattle.std.proofs.lemmas.List.Sorted.{IsPermutation-sym, IsPermutation-map}
use Rattle.sqlite.specs.declared.types.Value.{Value}
use Rattle.sqlite.specs.declared.types.Value.TheVariants.{Int}
use Rattle.sqlite.specs.Order.{Row}
use Rattle.sqlite_value.specs.Order.{column}
use Rattle.sqlite.specs.Command.TheVariants.{Select}
use Rattle.sqlite.specs.Effect.{Database}
use Rattle.sqlite.specs.Listing.{understood}
use Rattle.sqlite.specs.Schema.{Schema}
use Rattle.sqlite.specs.State.{State, Shown}
use Rattle.sqlite.specs.Term.{col}
use Rattle.sqlite_tied.specs.Compute.{everything}
use Rattle.sqlite.proofs.Callers.{IsPlain, reads_as, one_permutation}
use Rattle.sqlite_rules.specs.Edit.{id_in}
use Rattle.wgr_model.specs.Rows.{MetaRow, third_version}
use Rattle.wgr_sql.specs.Causes.{IsAnswered}
use Rattle.wgr_sql.specs.Effects.{plain_query}
use Rattle.wgr_sql.proofs.Answers.{answers, map-both}
use Rattle.wgr_sql.proofs.RowLemmas.{map_alike}
use Rattle.wgr_columns.specs.Layout.{Others, schema_with}
use Rattle.wgr_columns.specs.Decode.{IsRegister, tables_of, meta_in, number_at}
use Rattle.wgr_columns.proofs.Statements.{Asks}
use Rattle.wgr_columns.proofs.Statements.{never_refused}
use Rattle.wgr_columns.specs.LaidOut.{IsLaidOut}
use Rattle.wgr_schema.specs.Versions.{HasTablesOf, IsOfVersion, IsVersionOf, SaysVersion, version_number}
use Rattle.wgr_schema.specs.declared.version.Version.{Version}
use Rattle.wgr_schema.specs.declared.version.Version.TheVariants.{Three}

abbrev pub version_query : List ℕ
version_query = codes "SELECT version FROM meta"

version_asks : (others : Others) → Asks others version_query (Select (record { lets = []; body = plain_query 0 [] (col 1 0 ∷ []) [] }) (codes "version" ∷ []))
unfolding understood everything
version_asks others = record { means = record { command_is = refl; plain = (refl, refl) }; unlisted = refl }

-- a list of one is its only order
one_order : {X : Type 0} (v : X) (xs ys : List X) → IsPermutation xs ys → xs ≡ v ∷ [] → ys ≡ v ∷ []
one_order v xs ys p is = one_permutation v ys (subst (λ l. IsPermutation l ys) is p)

all_kept : {X : Type 0} (xs : List X) → xs ≡ filter (λ x. true) xs
all_kept [] = refl
all_kept (x ∷ xs) = ap (λ l. x ∷ l) (all_kept xs)

pub version_found : (version : Version) (old new : State) → IsLaidOut old.now.schema → (rows : List Row) → Shown version_query [] old new rows → SaysVersion version rows ↔ SaysVersion version (old.now.trees 0)
version_found version old new laid rows h =
    let asks = version_asks laid.others in
    let read = reads_as version_query [] old new (schema_with laid.others) laid.schema_is _ asks.means.command_is asks.means.plain asks.unlisted rows h in
    let l = answers 0 [] (col 1 0 ∷ []) [] old.now.trees [] rows read.answer in
    let same : IsPermutation (old.now.trees 0) l.chosen = subst (λ t. IsPermutation t l.chosen) (sym (all_kept (old.now.trees 0))) l.same in
    let values : IsPermutation (map (λ r. column r 0) (old.now.trees 0)) (map (λ r. column r 0) l.chosen) = IsPermutation-map (λ r. column r 0) _ _ same in
    let shown : map (λ r. column r 0) rows ≡ map (λ r. column r 0) l.chosen = ap (map (λ r. column r 0)) l.shown ∙ map-both _ (λ r. column r 0) l.chosen in
    ((λ is. one_order (Int (pos (version_number version))) _ _ (IsPermutation-sym _ _ values) (sym shown ∙ is)), (λ is. shown ∙ one_order (Int (pos (version_number version))) _ _ values is))

pub query_is_plain : (s : Schema) → IsLaidOut s → IsPlain (understood s version_query)
query_is_plain s laid = subst (λ x. IsPlain (understood x version_query)) (sym laid.schema_is) (version_asks laid.others).means.plain

asks_for_version : (others : Others) → IsAnswered (schema_with others) version_query []
unfolding understood everything
asks_for_version others = record { given = (refl, refl, omega arith, refl); unlisted = refl; plain = λ limit trees e refused. never_refused _ refl limit (trees 0) refused }

-- it is answered, whatever rows there are, unless something hinders it
pub version_answered : (s : Schema) → IsLaidOut s → IsAnswered s version_query []
version_answered s laid = subst (λ x. IsAnswered x version_query []) (sym laid.schema_is) (asks_for_version laid.others)

-- the version that the row says, where its tables are there
pub version_is : (db : Database) (rows : List Row) (said last : Version) (found : Option Version) → IsLaidOut db.schema → ((v : Version) → SaysVersion v rows ↔ SaysVersion v (db.trees 0)) → ((v : Version) → (Some said ≡ Some v) ↔ SaysVersion v rows)
    → ((v : Version) → HasTablesOf v db.schema ↔ (version_number v ≤ version_number last)) → ((v : Version) → (found ≡ Some v) ↔ ((said ≡ v) × (version_number v ≤ version_number last))) → IsVersionOf found db
version_is db rows said last found laid same says has is v = (
  (λ e. let p = (is v).0 e in (laid, (same v).0 ((says v).0 (ap Some p.0)), (has v).1 p.1)),
  (λ p. let e = (says v).1 ((same v).1 p.1) in let one : said ≡ v = cc in (is v).1 (one, (has v).0 p.2)),
)

pub no_version : (db : Database) (rows : List Row) → ((v : Version) → SaysVersion v rows ↔ SaysVersion v (db.trees 0)) → ((v : Version) → (None ≡ Some v) ↔ SaysVersion v rows) → IsVersionOf None db
no_version db rows same says v = ((λ e. absurd cc), (λ p. (says v).1 ((same v).1 p.1)))

-- ---- the version of a register's rows

pub meta_read : (version : Version) (db : Database) → SaysVersion version (db.trees 0) → (tables_of db).meta ≡ record { version = version_number version } ∷ []
meta_read version db says = sym (map-both (λ r. column r 0) read (db.trees 0)) ∙ ap (map read) says
  where
    read : Value → MetaRow
    read v = record { version = unsigned_abs (id_in v) }

pub version_read : (db : Database) → IsRegister db → IsOfVersion Three db ↔ ((tables_of db).meta ≡ third_version)
version_read db is = (there, back)
  where
    there : IsOfVersion Three db → (tables_of db).meta ≡ third_version
    there third = meta_read Three db third.1

    back : (tables_of db).meta ≡ third_version → IsOfVersion Three db
    back meta = (
      record { others = is.others; schema_is = is.schema_is; apart = is.apart },
      map_alike (λ r. column r 0) (λ r. Int (pos (number_at r 0))) (db.trees 0) (λ r here. is.written.meta.numbers_are r here 0 (inl refl)) ∙ sym (map-both meta_in (λ m. Int (pos m.version)) (db.trees 0))
          ∙ ap (map (λ m. Int (pos m.version))) meta,
      ((is.later meta).second, (is.later meta).reader),
    )
