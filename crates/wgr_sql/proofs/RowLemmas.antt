-- What each kind of statement leaves of the rows of one table.
use Rattle.std.proofs.Common.{◌≡◌, ℕ, ℤ, pos, List, [], ◌∷◌, ◌/◌, map, drop, filter, length, nat_eq, Bool, true, false, not, cond, slice_get, Some, Ok, IsPermutation, refl, sym, ap, subst, ◌∙◌, inl, inr, arith}
use Rattle.std.specs.List.{list_all}
use Rattle.std.specs.Ordering.{int_eq}
use Rattle.std.proofs.lemmas.List.Sorted.{IsPermutation-sym}
use Rattle.sqlite.specs.declared.types.Value.TheVariants.{Int}
use Rattle.sqlite.specs.Order.{Row}
use Rattle.sqlite.specs.Collation.TheVariants.{Binary}
use Rattle.sqlite.specs.Ops.{binary, is_true}
use Rattle.sqlite_sql.specs.declared.ops.BinaryOp.TheVariants.{Compare}
use Rattle.sqlite_sql.specs.declared.ops.CompareOp.TheVariants.{Eq}
use Rattle.sqlite.specs.Command.TheVariants.{Delete, Insert, Update}
use Rattle.sqlite.specs.Source.TheVariants.{Values}
use Rattle.sqlite.specs.Edit.{edit_of}
use Rattle.sqlite.specs.Rowids.TheVariants.{Chosen}
use Rattle.sqlite.specs.Rows.{stamped}
use Rattle.sqlite.specs.Table.{Table}
use Rattle.sqlite.specs.Schema.{Schema}
use Rattle.sqlite.specs.Term.{Term, col, eval_all, holds}
use Rattle.sqlite.specs.Tree.{Trees}
use Rattle.sqlite_trees.specs.Tree.{rowid, put_row}
use Rattle.sqlite.specs.Effect.{value_rows}
use Rattle.sqlite.specs.Listing.{understood}
use Rattle.sqlite.specs.State.{State, Executes}
use Rattle.sqlite.proofs.Callers.{IsPlain, command_of}
use Rattle.sqlite_rules.specs.Action.{works}
use Rattle.sqlite_rules.specs.Calls.{ids_of}
use Rattle.sqlite_rules.specs.Cast.{cast_row}
use Rattle.sqlite_rules.specs.Edit.{id_in, row_at, put_all, without_all, is_taken, are_fresh}
use Rattle.sqlite_rules.specs.Lists.{Has}
use Rattle.sqlite_schema.specs.declared.schema.Keys.TheVariants.{Enforced}
use Rattle.wgr_sql.specs.Keyed.{IsKeyed}
use Rattle.wgr_sql.specs.Effects.{plain_query}
use Rattle.wgr_sql.proofs.Answers.{answers, map-both}
use Rattle.wgr_sql.proofs.KeyedLemmas.{deleted_keyed, revised, updated_rows}
use Rattle.wgr_sql.proofs.Statements.{Wrote, deletes, inserts}
use Rattle.wgr_sql.proofs.TableLemmas.{fresh_one}
use Rattle.wgr_sql.proofs.Updates.{updates, stored_as}
use Rattle.wgr_sql.proofs.Values.{equal_ints}

same_ints : (m n : ℕ) → int_eq (pos m) (pos n) ≡ nat_eq m n
same_ints m n = grind (arith)

-- column = ?, where both are numbers
pub equal_nats : (m n : ℕ) → is_true (binary (Compare Eq Binary) (Int (pos m)) (Int (pos n))) ≡ nat_eq m n
equal_nats m n = equal_ints (pos m) (pos n) ∙ same_ints m n

pub map_filter : {X Y : Type 0} (f : X → Y) (p : X → Bool) (q : Y → Bool) (xs : List X) → ((x : X) → Has xs x → p x ≡ q (f x)) → map f (filter p xs) ≡ filter q (map f xs)
map_filter f p q [] same = refl
map_filter f p q (x ∷ xs) same = go (p x) (map_filter f p q xs (λ y h. same y (inr h))) ∙ ap (λ b. cond b (f x ∷ filter q (map f xs)) (filter q (map f xs))) (same x (inl refl))
  where
    go : (b : Bool) → map f (filter p xs) ≡ filter q (map f xs) → map f (cond b (x ∷ filter p xs) (filter p xs)) ≡ cond b (f x ∷ filter q (map f xs)) (filter q (map f xs))
    go true later = ap (λ l. f x ∷ l) later
    go false later = later

pub map_alike : {X Y : Type 0} (f g : X → Y) (xs : List X) → ((x : X) → Has xs x → f x ≡ g x) → map f xs ≡ map g xs
map_alike f g [] same = refl
map_alike f g (x ∷ xs) same = rw (same x (inl refl), map_alike f g xs (λ y h. same y (inr h)))

-- what INSERT .. VALUES of one row leaves
pub inserted : (old new : State) (schema : Schema) (schema_is : old.now.schema ≡ schema) (sql : List ℕ) (params : Row) (plain : IsPlain (understood schema sql))
    (at : ℕ) (table : Table) (is_table : slice_get schema.tables at ≡ Some table) (count : ℕ) (ran : Executes sql params old new (Ok count)) (terms : List Term) (width : ℕ)
    → command_of (understood schema sql) ≡ Insert at (Values terms width) → table.is_counted ≡ false
    → ((news : List Row) → works schema Enforced 0 table.tree [] news ≡ [])
    → (row : Row) → (edit_of old.now.trees table [] Chosen 0 (value_rows (stamped table params) width (length terms / width) terms)).news ≡ row ∷ []
    → Wrote old new schema table.tree (put_row row (old.now.trees table.tree)) × (is_taken (old.now.trees table.tree) row ≡ false)
inserted old new schema schema_is sql params plain at table is_table count ran terms width is uncounted none row news =
    let rows = old.now.trees table.tree in
    let done = inserts old new schema schema_is sql params plain at table is_table count ran terms width is uncounted none in
    (subst (λ l. Wrote old new schema table.tree (put_all rows l)) news done.0, fresh_one rows row (subst (λ l. are_fresh rows l ≡ true) news done.1))

-- what DELETE .. WHERE leaves
pub deleted : (old new : State) (schema : Schema) (schema_is : old.now.schema ≡ schema) (sql : List ℕ) (params : Row) (plain : IsPlain (understood schema sql))
    (at : ℕ) (table : Table) (is_table : slice_get schema.tables at ≡ Some table) (count : ℕ) (ran : Executes sql params old new (Ok count)) (terms : List Term)
    → command_of (understood schema sql) ≡ Delete at (record { lets = []; body = plain_query table.tree terms (col 1 0 ∷ []) [] })
    → ((db : Trees) (gone : List ℤ) → works schema Enforced 0 table.tree (map (row_at (db table.tree)) gone) [] ≡ [])
    → IsKeyed (old.now.trees table.tree)
    → Wrote old new schema table.tree (filter (λ r. not (list_all (holds (params ∷ r ∷ [])) terms)) (old.now.trees table.tree))
deleted old new schema schema_is sql params plain at table is_table count ran terms is none keyed =
    let rows = old.now.trees table.tree in
    let done = deletes old new schema schema_is sql params plain at table is_table count ran _ is none in
    let listed = answers table.tree terms (col 1 0 ∷ []) [] old.now.trees params done.0 done.1.answer in
    let ids : ids_of done.0 ≡ map (λ r. id_in (rowid r)) listed.chosen = ap ids_of listed.shown ∙ map-both _ _ listed.chosen in
    let after = deleted_keyed (λ r. list_all (holds (params ∷ r ∷ [])) terms) rows listed.chosen (ids_of done.0) keyed listed.same ids in
    subst (Wrote old new schema table.tree) after done.2

-- what UPDATE .. SET .. WHERE leaves: the rows that pass, each with the places that are set
pub updated : (old new : State) (schema : Schema) (schema_is : old.now.schema ≡ schema) (sql : List ℕ) (params : Row) (plain : IsPlain (understood schema sql))
    (at : ℕ) (table : Table) (is_table : slice_get schema.tables at ≡ Some table) (count : ℕ) (ran : Executes sql params old new (Ok count)) (terms project : List Term)
    → command_of (understood schema sql) ≡ Update at (record { lets = []; body = plain_query table.tree terms project [] })
    → ((db : Trees) (gone : List ℤ) (news : List Row) → works schema Enforced 0 table.tree (map (row_at (db table.tree)) gone) news ≡ [])
    → (change : Row → Row) → ((r : Row) → change r ≡ cast_row table (drop 1 (eval_all project (params ∷ r ∷ [])))) → ((found : List Row) → ids_of (map (λ r. eval_all project (params ∷ r ∷ [])) found) ≡ map (λ r. id_in (rowid r)) found)
    → IsKeyed (old.now.trees table.tree)
    → (rows : List Row) × Wrote old new schema table.tree rows × IsPermutation (revised (λ r. list_all (holds (params ∷ r ∷ [])) terms) change (old.now.trees table.tree)) rows
updated old new schema schema_is sql params plain at table is_table count ran terms project is none change changes ids keyed =
    let before = old.now.trees table.tree in
    let passes = λ (r : Row). list_all (holds (params ∷ r ∷ [])) terms in
    let done = updates old new schema schema_is sql params plain at table is_table count ran _ is none in
    let listed = answers table.tree terms project [] old.now.trees params done.0 done.1.answer in
    let gone : ids_of done.0 ≡ map (λ r. id_in (rowid r)) listed.chosen = ap ids_of listed.shown ∙ ids listed.chosen in
    let news : stored_as table done.0 ≡ map change listed.chosen = ap (stored_as table) listed.shown ∙ map-both _ _ listed.chosen ∙ map_alike _ _ listed.chosen (λ r here. sym (changes r)) in
    (put_all (without_all before (ids_of done.0)) (stored_as table done.0), done.2, IsPermutation-sym _ _ (updated_rows passes change before listed.chosen (ids_of done.0) _ keyed listed.same gone news done.3))
