-- The row of the version is refused by no database that has the register's tables and no row.
use Rattle.std.proofs.Common.{◌≡◌, ℕ, zero, suc, true, false, List, [], ◌∷◌, length, nat_lt, Option, Some, None, IsSome, Err, inl, inr, refl, sym, ap, subst, ◌∙◌, arith, true≢false, length-append}
use Rattle.std.specs.List.{AllByRecursion, list_all}
use Rattle.std.proofs.lemmas.List.Elements.{All-from_recursion}
use Rattle.sqlite.specs.Command.TheVariants.{Insert}
use Rattle.sqlite.specs.declared.error.Error.{Error}
use Rattle.sqlite.specs.Does.{Concludes, Does, OnRows}
use Rattle.sqlite.specs.Edit.{edit_of}
use Rattle.sqlite.specs.Effect.{Database, value_rows}
use Rattle.sqlite.specs.Order.{Row}
use Rattle.sqlite.specs.Rowids.TheVariants.{Chosen}
use Rattle.sqlite.specs.Rows.{Inserts, Task, Written, stamped}
use Rattle.sqlite.specs.Schema.{Schema}
use Rattle.sqlite.specs.Source.TheVariants.{Values}
use Rattle.sqlite.specs.Table.{Table}
use Rattle.sqlite.specs.Tree.{Trees}
use Rattle.sqlite_value.specs.Order.{number}
use Rattle.sqlite_trees.specs.Tree.{rowid, with_tree}
use Rattle.sqlite_trees.specs.View.{IsStorable, IsStorableRow, is_int}
use Rattle.sqlite_sql.specs.Ops.{fits_i64}
use Rattle.std.specs.Float.{NotNan}
use Rattle.sqlite_schema.specs.declared.schema.Constraint.TheVariants.{Datatype, NotNull, Check, PrimaryKey, Unique, ForeignKey}
use Rattle.sqlite_schema.specs.declared.schema.Index.{Index}
use Rattle.sqlite_schema.specs.declared.schema.Keys.TheVariants.{Enforced}
use Rattle.sqlite_schema.specs.declared.schema.Among.TheVariants.{All as AllKeys}
use Rattle.sqlite_schema.specs.Rules.{Refers, passes, references_fit}
use Rattle.sqlite_rules.specs.Action.{Leads, Writes}
use Rattle.sqlite_rules.specs.Edit.{Edit, IsOversized, IsRefused, are_fresh, edited, id_in, left_by}
use Rattle.sqlite_rules.specs.Lists.{Has}
use Rattle.sqlite_rules.specs.declared.error.Refusal.{Refusal}
use Rattle.sqlite_rules.specs.declared.error.Refusal.TheVariants.{Violates, Mismatch, NoRowid, BadReference, TooDeep}
use Rattle.sqlite_rules.proofs.ListLemmas.{all_has}
use Rattle.wgr_sql.specs.Causes.{Refuses, usual}
use Rattle.wgr_columns.specs.Layout.{allowed_table_at, meta_table_at, network_table_at, peer_table_at, reader_table_at, schema_with, second_table_at, tenant_table_at, token_table_at}
use Rattle.wgr_schema.specs.Fresh.{HasBlank, later_tables, reader_schema}
use Rattle.wgr_schema.specs.Upgrade.{say_text}
use Rattle.wgr_schema.proofs.FreshLemmas.{third_row, version_row}
use Rattle.wgr_schema.proofs.Meanings.{reader_is, version_means}
use Rattle.wgr_schema.proofs.RefusalLemmas.{stops_at}
use Rattle.wgr_schema.proofs.UpgradeTexts.{say_values}

abbrev schema : Schema
schema = schema_with later_tables

abbrev meta : Table
meta = meta_table_at 0

-- the edit that puts the row in
abbrev put : Trees → Edit
put db = edit_of db meta [] Chosen 0 (value_rows (stamped meta []) 2 1 say_values)

all_so : (P : Row → Type 0) → ((row : Row) → P row) → (rows : List Row) → AllByRecursion P rows
all_so P each [] = tt
all_so P each (row ∷ rows) = (each row, all_so P each rows)

storable : IsStorable 0 third_row
unfolding lib.Ieee.is_nan
storable = record {
  typed = λ c set. absurd (grind arith);
  columns = (omega arith, omega arith);
  numbers = All-from_recursion (λ v. NotNan (number v)) third_row (tt, (tt, tt));
  short = omega arith;
}

-- no index of the register is of this table
unindexed : AllByRecursion (λ i. i.table ≡ 0 → ⊥) schema.indexes
unindexed = ((λ e. omega (arith, e)), ((λ e. omega (arith, e)), ((λ e. omega (arith, e)), ((λ e. omega (arith, e)), ((λ e. omega (arith, e)), ((λ e. omega (arith, e)), ((λ e. omega (arith, e)), ((λ e. omega (arith, e)), tt))))))))

module _ (limit : Option ℕ) (db : Trees) (blank : AllByRecursion (λ (t : Table). db t.tree ≡ []) schema.tables) where
  abbrev task : Task
  task = record { limit = limit; keys = Enforced; schema = schema; table = meta; params = [] }

  news : (put db).news ≡ third_row ∷ []
  news = version_row db blank.0

  unrefused : (why : Refusal) → IsRefused schema Enforced db (put db) why → ⊥
  unrefused (Violates Datatype) wrong = true≢false (subst (λ l. list_all (passes Datatype schema db meta) l ≡ false) news wrong)
  unrefused (Violates NotNull) wrong = true≢false (subst (λ l. list_all (passes NotNull schema db meta) l ≡ false) news wrong)
  unrefused (Violates Check) wrong = true≢false (subst (λ l. list_all (passes Check schema db meta) l ≡ false) news wrong)
  unrefused (Violates PrimaryKey) wrong = true≢false (subst (λ l. are_fresh l (third_row ∷ []) ≡ false) blank.0 (subst (λ l. are_fresh (left_by db (put db)) l ≡ false) news wrong))
  unrefused (Violates Unique) broken =
      let next = with_tree db 0 (edited db (put db)) in
      let none = λ (t : Table) (e : db t.tree ≡ []). subst (AllByRecursion (λ row. passes Unique schema next t row ≡ true)) (sym e) tt in
      let b = blank.1 in
      broken (all_so _ (λ row. refl) (next 0), (none (tenant_table_at 1) b.0, (none (token_table_at 3) b.1.0, (none (network_table_at 5) b.1.1.0, (none (peer_table_at 8) b.1.1.1.0, (none (allowed_table_at 10) b.1.1.1.1.0, (none (second_table_at 13) b.1.1.1.1.1.0, (none (reader_table_at 14) b.1.1.1.1.1.1.0, tt))))))))
  unrefused (Violates ForeignKey) none = none
  unrefused Mismatch wrong = true≢false (subst (λ l. list_all (λ r. is_int (rowid r)) l ≡ false) news wrong)
  unrefused NoRowid wrong = true≢false (subst (λ l. list_all (λ r. fits_i64 (id_in (rowid r))) l ≡ false) news wrong)
  unrefused BadReference wrong = true≢false (subst (λ l. references_fit schema meta (nat_lt 0 (length l)) false ≡ false) news wrong)
  unrefused TooDeep none = none

  sized : (row : Row) → Has (put db).news row → IsOversized schema meta row → ⊥
  sized row here (inl big) = elim (subst (λ l. Has l row) news here) [
    | inl same ↦ big (subst (IsStorableRow 0) (sym same) (storable, omega arith))
    | inr none ↦ absurd none
  ]
  sized row here (inr (i, listed, own, big)) = all_has (λ (x : Index). x.table ≡ 0 → ⊥) schema.indexes i unindexed listed own

  settled : (n : ℕ) (next : Trees) (why : Option Refusal) → Leads schema Enforced n next [] (Err why) → ⊥
  settled zero next why h = let e = h.1 in cc
  settled (suc n) next why h = omega (arith, ap length h.2, length-append h.0 (h.1 ∷ []))

  written : (why : Option Refusal) → Writes schema Enforced db (put db) (Err why) → ⊥
  written why (inl (reason, refused, is)) = unrefused reason refused
  written why (inr (inl (row, here, big, is))) = sized row here big
  written why (inr (inr (next, applies, (n, leads)))) = settled n next why leads

  inserted : (stop : Option Error) → Inserts task (Values say_values 2) db (Err stop) → IsSome limit
  inserted stop (inl (None, none, is)) = absurd none
  inserted stop (inl (Some e, inl (other, bad), is)) = absurd (true≢false bad)
  inserted stop (inl (Some e, inr (other, limited), is)) = limited
  inserted stop (inr (rows, sourced, inl (s, none, is))) = absurd (let e = none in cc)
  inserted stop (inr (rows, sourced, inr (counter, given, inl (s, (why, writes, so), is)))) =
      absurd (written why (subst (λ l. Writes schema Enforced db (edit_of db meta [] Chosen 0 l) (Err why)) sourced.1 writes))
  inserted stop (inr (rows, sourced, inr (counter, given, inr (mid, edits, inl (s, counts, is))))) = absurd (let e = counts in cc)
  inserted stop (inr (rows, sourced, inr (counter, given, inr (mid, edits, inr (next, counts, gives))))) = absurd (let e = gives in cc)

  -- no reference can be broken
  referred : (trees : Trees) → Refers AllKeys schema trees
  referred trees = (all_so _ (λ row. refl) (trees 0), (all_so _ (λ row. refl) (trees 1), (all_so _ (λ row. refl) (trees 3), (all_so _ (λ row. refl) (trees 5), (all_so _ (λ row. refl) (trees 8), (all_so _ (λ row. refl) (trees 10), (all_so _ (λ row. refl) (trees 13), (all_so _ (λ row. refl) (trees 14), tt))))))))

  concluded : (w : Written) (stop : Option Error) → Concludes task usual None w (Err stop) → ⊥
  concluded w stop (inl (s, (broken, is), so)) = broken (referred w.trees)
  concluded w stop (inr (doubt, tested, inl (s, returns, so))) = let e = returns in cc
  concluded w stop (inr (doubt, tested, inr (rows, returns, gives))) = let e = gives in cc

  done : (stop : Option Error) → OnRows task usual None (Insert 0 (Values say_values 2)) db (Err stop) → IsSome limit
  done stop (inl (s, inserts, is)) = inserted s inserts
  done stop (inr (w, inserts, concludes)) = absurd (concluded w stop concludes)

pub version_is_put : (limit : Option ℕ) (db : Database) → HasBlank reader_schema db → Refuses limit db say_text [] → IsSome limit
version_is_put limit db was refuses =
    let command = Insert 0 (Values say_values 2) in
    let has = was.schema_is ∙ reader_is in
    let it = stops_at schema say_text command version_means limit db has refuses in
    done limit db.trees (subst (λ (s : Schema). AllByRecursion (λ (t : Table). db.trees t.tree ≡ []) s.tables) reader_is was.blank) it.0
    (subst (λ s. Does limit usual [] (record db { schema = s }) say_text None command (Err it.0)) has it.1)
