-- What a new table leaves of the others.
use Rattle.std.proofs.Common.{◌≡◌, ◌≤◌, ◌<◌, ◌+◌, ◌==◌, ◌&&◌, ◌||◌, not, suc, zero, ℕ, List, Bool, true, false, [], ◌∷◌, ◌++◌, codes, filter, length, slice_get, Option, Some, None, option_map, refl, sym, ap, subst, ◌∙◌, arith, inl, inr, if◌then◌else◌}
use Rattle.std.specs.Prelude.{option_and_then, is_some}
use Rattle.std.specs.List.{list_all, list_any, position_from}
use Rattle.std.proofs.lemmas.Bool.{and_parts}
use Rattle.std.proofs.lemmas.Bool.Decides.{nat_tests}
use Rattle.sqlite.specs.Table.{Table}
use Rattle.sqlite.specs.Schema.{Schema}
use Rattle.sqlite.specs.Tree.{Trees}
use Rattle.sqlite.specs.Order.{Row}
use Rattle.sqlite.specs.Does.{lacks_sequence}
use Rattle.sqlite.specs.Effect.{Database, IsDatabase}
use Rattle.sqlite_schema.specs.declared.schema.Index.{Index}
use Rattle.sqlite_schema.specs.Names.{same_name, table_named}
use Rattle.sqlite_catalog.specs.Change.{KeepsRows, automatics, created, is_used, next_tree}
use Rattle.sqlite_catalog.specs.Listing.{IsTableRow, automatic, is_table_row}
use Rattle.sqlite_catalog.proofs.LayoutLemmas.{zipped_left}
use Rattle.sqlite_catalog.proofs.StepLemmas.{table_below, index_below}
use Rattle.sqlite_trees.specs.Objects.{catalog_tree}
use Rattle.sqlite_rules.specs.Lists.{Has}
use Rattle.sqlite_rules.proofs.ListLemmas.{all_has}
use Rattle.wgr_sql.specs.Effects.{CreatesTable}
use Rattle.wgr_sql.specs.Named.{HasTable, is_alone, rows_in, rows_named, tree_named}
use Rattle.wgr_sql.proofs.Creates.{neither, no_table, none_is}
use Rattle.wgr_sql.proofs.NamedLemmas.{has_at}

-- ---- lists that grow

position_later : (p : Table → Bool) (from : ℕ) (ts more : List Table) (at : ℕ) → position_from p from ts ≡ Some at → position_from p from (ts ++ more) ≡ Some at
position_later p from [] more at is = absurd cc
position_later p from (t ∷ ts) more at is = go (p t) (position_later p (from + 1) ts more at) is
  where
    go : (b : Bool) → (position_from p (from + 1) ts ≡ Some at → position_from p (from + 1) (ts ++ more) ≡ Some at) → (if b then Some from else position_from p (from + 1) ts) ≡ Some at → (if b then Some from else position_from p (from + 1) (ts ++ more)) ≡ Some at
    go true later e = e
    go false later e = later e

position_new : (p : Table → Bool) (from : ℕ) (ts : List Table) (t : Table) → position_from p from ts ≡ None → p t ≡ true → position_from p from (ts ++ t ∷ []) ≡ Some (from + length ts)
position_new p from [] t none is = rw is (let e : from ≡ from + 0 = omega arith in ap Some e)
position_new p from (x ∷ ts) t none is = go (p x) (position_new p (from + 1) ts t) none
  where
    go : (b : Bool) → (position_from p (from + 1) ts ≡ None → p t ≡ true → position_from p (from + 1) (ts ++ t ∷ []) ≡ Some (from + 1 + length ts)) → (if b then Some from else position_from p (from + 1) ts) ≡ None
        → (if b then Some from else position_from p (from + 1) (ts ++ t ∷ [])) ≡ Some (from + length (x ∷ ts))
    go true later e = absurd cc
    go false later e = later e is ∙ (let n : from + 1 + length ts ≡ from + length (x ∷ ts) = omega arith in ap Some n)

position_none : {A : Type 0} (p : A → Bool) (from : ℕ) (xs ys : List A) → position_from p from xs ≡ None → list_any p ys ≡ false → position_from p from (xs ++ ys) ≡ None
position_none p from [] [] none free = refl
position_none p from [] (y ∷ ys) none free = let h = neither (p y) (list_any p ys) free in rw h.0 (position_none p (from + 1) [] ys refl h.1)
position_none p from (x ∷ xs) ys none free = go (p x) (position_none p (from + 1) xs ys) none
  where
    go : (b : Bool) → (position_from p (from + 1) xs ≡ None → list_any p ys ≡ false → position_from p (from + 1) (xs ++ ys) ≡ None) → (if b then Some from else position_from p (from + 1) xs) ≡ None
        → (if b then Some from else position_from p (from + 1) (xs ++ ys)) ≡ None
    go true later e = absurd cc
    go false later e = later e free

-- a place that was found is one of the list's
position_there : (p : Table → Bool) (from at : ℕ) (ts : List Table) → position_from p from ts ≡ Some at → (k : ℕ) × (at ≡ from + k) × (is_some (slice_get ts k) ≡ true)
position_there p from at [] is = absurd cc
position_there p from at (t ∷ ts) is = go (p t) (position_there p (from + 1) at ts) is
  where
    go : (b : Bool) → (position_from p (from + 1) ts ≡ Some at → (k : ℕ) × (at ≡ from + 1 + k) × (is_some (slice_get ts k) ≡ true)) → (if b then Some from else position_from p (from + 1) ts) ≡ Some at
        → (k : ℕ) × (at ≡ from + k) × (is_some (slice_get (t ∷ ts) k) ≡ true)
    go true later e = let same : from ≡ at = cc in (0, omega (arith, same), refl)
    go false later e = let it = later e in let far = it.1 in (suc it.0, omega (arith, far), it.2)

get_later : {A : Type 0} (xs more : List A) (at : ℕ) (x : A) → slice_get xs at ≡ Some x → slice_get (xs ++ more) at ≡ Some x
get_later [] more at x is = absurd cc
get_later (y ∷ xs) more zero x is = is
get_later (y ∷ xs) more (suc at) x is = get_later xs more at x is

get_new : {A : Type 0} (xs : List A) (x : A) → slice_get (xs ++ x ∷ []) (length xs) ≡ Some x
get_new [] x = refl
get_new (y ∷ xs) x = get_new xs x

pub all_append : {A : Type 0} (p : A → Bool) (xs ys : List A) → list_all p xs ≡ true → list_all p ys ≡ true → list_all p (xs ++ ys) ≡ true
all_append p [] ys one two = two
all_append p (x ∷ xs) ys one two = let h = and_parts (p x) (list_all p xs) one in rw (h.0, all_append p xs ys h.1 two)

each_from : {A : Type 0} (p : A → Bool) (xs : List A) → ((x : A) → Has xs x → p x ≡ true) → list_all p xs ≡ true
each_from p [] all = refl
each_from p (x ∷ xs) all = rw (all x (inl refl), each_from p xs (λ y later. all y (inr later)))

has_last : {A : Type 0} (xs : List A) (y : A) → Has (xs ++ y ∷ []) y
has_last [] y = inl refl
has_last (x ∷ xs) y = inr (has_last xs y)

-- the new indexes have trees behind the table's
automatics_past : (table : Table) (at tree bound : ℕ) (keys : List (List ℕ)) → bound < tree → list_all (λ (i : Index). not (i.tree == bound)) (automatics table at tree keys) ≡ true
automatics_past table at tree bound [] past = refl
automatics_past table at tree bound (key ∷ keys) past =
    let other : (tree == bound) ≡ false = grind (arith, nat_tests) in
    rw (other, automatics_past table (at + 1) (tree + 1) bound keys (omega arith))

or_right : (a b : Bool) → b ≡ true → (a || b) ≡ true
or_right true b h = refl
or_right false b h = h

-- ---- the schema

-- the table that is made
abbrev pub made : Schema → Table → Table
made schema table = record table { tree = next_tree schema }

module _ (schema : Schema) (table : Table) (first : ℕ) (name : List ℕ) (form : ℕ → Table) (tree_so : (tree : ℕ) → (form tree).tree ≡ tree) where
  -- a table that was there stays
  pub table_kept : HasTable first name form schema → HasTable first name form (created schema table)
  table_kept h =
      let below : h.tree < next_tree schema = subst (λ n. n < next_tree schema) (tree_so h.tree) (table_below schema (form h.tree) (has_at schema.tables h.at (form h.tree) h.there)) in
      let other : (next_tree schema == h.tree) ≡ false = grind (arith, nat_tests) in
      record {
        at = h.at;
        tree = h.tree;
        named = position_later (λ t. same_name t.name name) 0 schema.tables (made schema table ∷ []) h.at h.named;
        there = get_later schema.tables (made schema table ∷ []) h.at (form h.tree) h.there;
        past = h.past;
        low = h.low;
        alone = all_append (is_alone name h.tree) schema.tables (made schema table ∷ []) h.alone (rw other (ap (λ b. b && true) (or_right (same_name table.name name) true refl)));
        unindexed = all_append (λ i. not (i.tree == h.tree)) schema.indexes (automatics (made schema table) 0 (next_tree schema + 1) table.uniques) h.unindexed (automatics_past (made schema table) 0 (next_tree schema + 1) h.tree table.uniques (omega (arith, below)));
      }

  -- so is the table that is made
  pub table_new : (named_so : (tree : ℕ) → (form tree).name ≡ name) → same_name name name ≡ true → table ≡ form 0 → ((tree : ℕ) → record (form 0) { tree = tree } ≡ form tree)
      → is_used schema name ≡ false → first ≤ next_tree schema → next_tree schema < 65536 → HasTable first name form (created schema table)
  table_new named_so itself is shape free past low =
      let this : made schema table ≡ form (next_tree schema) = ap (λ (t : Table). record t { tree = next_tree schema }) is ∙ shape (next_tree schema) in
      let name_is : table.name ≡ name = ap (λ (t : Table). t.name) this ∙ named_so (next_tree schema) in
      let same : same_name table.name name ≡ true = ap (λ l. same_name l name) name_is ∙ itself in
      record {
        at = length schema.tables;
        tree = next_tree schema;
        named = position_new (λ t. same_name t.name name) 0 schema.tables (made schema table) (no_table schema name free) same ∙ (let e : 0 + length schema.tables ≡ length schema.tables = omega arith in ap Some e);
        there = get_new schema.tables (made schema table) ∙ ap Some this;
        past = grind (arith, nat_tests);
        low = grind (arith, nat_tests);
        alone = all_append (is_alone name (next_tree schema)) schema.tables (made schema table ∷ [])
            (each_from (is_alone name (next_tree schema)) schema.tables (λ t here. or_right (same_name t.name name) _ (let below = table_below schema t here in apart t.tree (next_tree schema) below))) (rw same);
        unindexed = all_append (λ i. not (i.tree == next_tree schema)) schema.indexes (automatics (made schema table) 0 (next_tree schema + 1) table.uniques)
            (each_from (λ (i : Index). not (i.tree == next_tree schema)) schema.indexes (λ i here. let below = index_below schema i here in apart i.tree (next_tree schema) below)) (automatics_past (made schema table) 0 (next_tree schema + 1) (next_tree schema) table.uniques (omega arith));
      }
    where
      apart : (a b : ℕ) → a < b → not (a == b) ≡ true
      apart a b below = let other : (a == b) ≡ false = grind (arith, nat_tests) in ap not other

-- the trees of a database's tables are low
tree_low : (db : Database) → IsDatabase db → (t : Table) → Has db.schema.tables t → t.tree < 65536
tree_low db sound t here = (zipped_left IsTableRow (filter is_table_row (db.trees catalog_tree)) db.schema.tables t sound.lists.listed.tables here).2.described.low

pub made_low : (schema : Schema) (table : Table) (old new : Database) → CreatesTable schema table old new → next_tree schema < 65536
made_low schema table old new made_so = tree_low new made_so.sound (made schema table) (subst (λ (s : Schema). Has s.tables (made schema table)) (sym made_so.schema_is) (has_last schema.tables (made schema table)))

-- ---- the rows

pub kept_rows : (tables : List Table) (old new : Trees) (t : Table) → KeepsRows tables old new → Has tables t → new t.tree ≡ old t.tree
kept_rows tables old new t keeps here = all_has (λ (t : Table). new t.tree ≡ old t.tree) tables t keeps here

-- where a table is made, each name finds the rows that it found: none where it finds the new table
module _ (old new : Database) (table : Table) (made_so : CreatesTable old.schema table old new) (name : List ℕ) where
  abbrev tables : List Table
  tables = old.schema.tables ++ made old.schema table ∷ []

  -- the rows of a table that is found, or none
  abbrev rows_at : Trees → Option Table → List Row
  rows_at trees o = rows_in trees (option_map (λ t. t.tree) o)

  -- a name that found nothing
  found_none : table_named old.schema name ≡ None → (b : Bool) → same_name table.name name ≡ b → rows_at new.trees (option_and_then (slice_get tables) (position_from (λ t. same_name t.name name) 0 tables)) ≡ []
  found_none none true is =
      let e : 0 + length old.schema.tables ≡ length old.schema.tables = omega arith in
      ap (λ o. rows_at new.trees (option_and_then (slice_get tables) o)) (position_new (λ t. same_name t.name name) 0 old.schema.tables (made old.schema table) none is ∙ ap Some e)
      ∙ ap (rows_at new.trees) (get_new old.schema.tables (made old.schema table)) ∙ made_so.empty
  found_none none false is =
      ap (λ o. rows_at new.trees (option_and_then (slice_get tables) o)) (position_none (λ t. same_name t.name name) 0 old.schema.tables (made old.schema table ∷ []) none (rw is))

  found_again : (at : ℕ) → table_named old.schema name ≡ Some at → (o : Option Table) → slice_get old.schema.tables at ≡ o → is_some o ≡ true
      → rows_at new.trees (option_and_then (slice_get tables) (position_from (λ t. same_name t.name name) 0 tables)) ≡ rows_at old.trees o
  found_again at named None there is = absurd cc
  found_again at named (Some t) there is =
      ap (λ o. rows_at new.trees (option_and_then (slice_get tables) o)) (position_later (λ t. same_name t.name name) 0 old.schema.tables (made old.schema table ∷ []) at named)
      ∙ ap (rows_at new.trees) (get_later old.schema.tables (made old.schema table ∷ []) at t there) ∙ kept_rows old.schema.tables old.trees new.trees t made_so.others (has_at old.schema.tables at t there)

  pub rows_grown : rows_named new name ≡ rows_named old name
  rows_grown = ap (λ s. rows_in new.trees (tree_named s name)) made_so.schema_is ∙ go (table_named old.schema name) refl
    where
      go : (o : Option ℕ) → table_named old.schema name ≡ o → rows_at new.trees (option_and_then (slice_get tables) (position_from (λ t. same_name t.name name) 0 tables)) ≡ rows_named old name
      go None is = found_none is (same_name table.name name) refl ∙ sym (ap (λ o. rows_at old.trees (option_and_then (slice_get old.schema.tables) o)) is)
      go (Some at) is =
          let it = position_there (λ t. same_name t.name name) 0 at old.schema.tables is in
          let far = it.1 in
          let same : it.0 ≡ at = omega (arith, far) in
          found_again at is (slice_get old.schema.tables at) refl (subst (λ n. is_some (slice_get old.schema.tables n) ≡ true) same it.2) ∙ sym (ap (λ o. rows_at old.trees (option_and_then (slice_get old.schema.tables) o)) is)

-- ---- a free name stays free

any_automatic : (p : Index → Bool) (table : Table) (at tree : ℕ) (keys : List (List ℕ)) → ((at : ℕ) (key : List ℕ) (tree : ℕ) → p (automatic table at key tree) ≡ false) → list_any p (automatics table at tree keys) ≡ false
any_automatic p table at tree [] none = refl
any_automatic p table at tree (key ∷ keys) none = rw (none at key tree, any_automatic p table (at + 1) (tree + 1) keys none)

pub free_kept : (schema : Schema) (table : Table) (name : List ℕ) → same_name table.name name ≡ false → ((at : ℕ) (key : List ℕ) (tree : ℕ) → same_name (automatic (made schema table) at key tree).name name ≡ false) → is_used schema name ≡ false
    → is_used (created schema table) name ≡ false
free_kept schema table name other others free =
    let first = neither _ _ free in
    let both = neither _ _ first.0 in
    let tables = position_none (λ t. same_name t.name name) 0 schema.tables (made schema table ∷ []) (none_is _ both.0) (rw other) in
    let indexes = position_none (λ (i : Index). same_name i.name name) 0 schema.indexes (automatics (made schema table) 0 (next_tree schema + 1) table.uniques) (none_is _ both.1) (any_automatic (λ i. same_name i.name name) (made schema table) 0 (next_tree schema + 1) table.uniques others) in
    rw (tables, indexes, first.1)

-- ---- no table is lacking for the counters

any_append : {A : Type 0} (p : A → Bool) (xs : List A) (y : A) → p y ≡ false → list_any p (xs ++ y ∷ []) ≡ list_any p xs
any_append p [] y none = rw none
any_append p (x ∷ xs) y none = rw (any_append p xs y none)

pub sequence_kept : (schema : Schema) (table : Table) → table.is_counted ≡ false → lacks_sequence schema ≡ false → lacks_sequence (created schema table) ≡ false
sequence_kept schema table uncounted whole =
    go (list_any (λ (t : Table). t.is_counted) schema.tables) (table_named schema (codes "sqlite_sequence")) refl (any_append (λ (t : Table). t.is_counted) schema.tables (made schema table) uncounted) whole
  where
    there : (at : ℕ) → is_some (slice_get schema.tables at) ≡ true → is_some (slice_get (schema.tables ++ made schema table ∷ []) at) ≡ true
    there at h = found (slice_get schema.tables at) refl h
      where
        found : (o : Option Table) → slice_get schema.tables at ≡ o → is_some o ≡ true → is_some (slice_get (schema.tables ++ made schema table ∷ []) at) ≡ true
        found None is h = absurd cc
        found (Some t) is h = ap is_some (get_later schema.tables (made schema table ∷ []) at t is)

    go : (b : Bool) (o : Option ℕ) → table_named schema (codes "sqlite_sequence") ≡ o → list_any (λ (t : Table). t.is_counted) (schema.tables ++ made schema table ∷ []) ≡ b → (b && not (is_some (option_and_then (slice_get schema.tables) o))) ≡ false
        → lacks_sequence (created schema table) ≡ false
    go false o is counted whole = rw counted
    go true None is counted whole = absurd cc
    go true (Some at) is counted whole =
        rw (position_later (λ t. same_name t.name (codes "sqlite_sequence")) 0 schema.tables (made schema table ∷ []) at is, there at (yes _ whole), counted)
      where
        yes : (b : Bool) → (true && not b) ≡ false → b ≡ true
        yes true h = refl
        yes false h = absurd cc
