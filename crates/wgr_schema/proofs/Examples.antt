-- Schemas with a table of somebody's own behind the register's.
use Rattle.std.proofs.Common.{◌≡◌, [], ◌∷◌, codes, Some, None, true, false, slice_get, refl, sym, ap, subst, ◌∙◌, true≢false}
use Rattle.std.specs.Fmt.{digits}
use Rattle.std.specs.List.{list_all}
use Rattle.sqlite.specs.Kind.TheVariants.{Integer}
use Rattle.sqlite.specs.Table.{Table}
use Rattle.sqlite_schema.specs.Names.{same_name, table_named}
use Rattle.sqlite_catalog.specs.Change.{created, is_used}
use Rattle.wgr_sql.specs.Named.{is_alone, tree_named}
use Rattle.wgr_columns.specs.Layout.{AreOthersApart, HasReader, Others, column_of, index_of, reader_table_at, schema_with, second_table_at, table_of}
use Rattle.wgr_schema.specs.Versions.{AreFree, HasTablesOf}
use Rattle.wgr_schema.specs.declared.version.Version.TheVariants.{One, Three}

abbrev own : Table
own = table_of (codes "billing") 13 (Some 0) (0 ∷ []) [] (column_of (codes "id") Integer false ∷ [])

abbrev before : Others
before = record { tables = own ∷ []; indexes = []; views = [] }

abbrev after : Others
after = record { tables = own ∷ second_table_at 14 ∷ reader_table_at 15 ∷ []; indexes = index_of (codes "sqlite_autoindex_reader_1") 16 15 (1 ∷ []) true ∷ []; views = [] }

-- its names are free for the later tables
free_before : AreFree One (schema_with before)
unfolding same_name
free_before = (refl, refl)

-- they come behind it, in trees after its own
made_after : created (created (schema_with before) (second_table_at 0)) (reader_table_at 0) ≡ schema_with after
unfolding digits
made_after = refl

apart_after : AreOthersApart after
unfolding same_name
apart_after = record { tables = refl; unreferred = refl; indexes = refl }

has_after : HasTablesOf Three (schema_with after)
unfolding same_name
has_after = (
  record { at = 7; tree = 14; named = refl; there = refl; past = refl; low = refl; alone = refl; unindexed = refl },
  record { at = 8; tree = 15; named = refl; there = refl; past = refl; low = refl; alone = refl; unindexed = refl },
)

-- its own rows are found where they were
own_stays : (tree_named (schema_with before) (codes "billing") ≡ Some 13) × (tree_named (schema_with after) (codes "billing") ≡ Some 13)
unfolding same_name
own_stays = (refl, refl)

-- a table `reader` in the tree of another is none
abbrev shared : Others
shared = record { tables = own ∷ reader_table_at 13 ∷ []; indexes = []; views = [] }

none_shared : HasReader (schema_with shared) → ⊥
unfolding same_name
none_shared h =
    let place : Some 7 ≡ Some h.at = h.named in
    let at : 7 ≡ h.at = cc in
    let here : Some (reader_table_at 13) ≡ Some (reader_table_at h.tree) = subst (λ n. slice_get (schema_with shared).tables n ≡ Some (reader_table_at h.tree)) (sym at) h.there in
    let form : reader_table_at 13 ≡ reader_table_at h.tree = cc in
    let tree : 13 ≡ h.tree = ap (λ (t : Table). t.tree) form in
    true≢false (sym h.alone ∙ sym (ap (λ n. list_all (is_alone (codes "reader") n) (schema_with shared).tables) tree))

-- a view takes the name, too
abbrev viewed : Others
viewed = record {
  tables = [];
  indexes = [];
  views = record { name = codes "Second"; tree = 13; sql = codes "CREATE VIEW Second AS SELECT id AS network, port AS family, lo, length FROM network"; foreign = None; binds = false; is_bound = false } ∷ [];
}

taken_by_view : is_used (schema_with viewed) (codes "second") ≡ true
unfolding same_name
taken_by_view = refl

no_table_viewed : table_named (schema_with viewed) (codes "second") ≡ None
unfolding same_name
no_table_viewed = refl
