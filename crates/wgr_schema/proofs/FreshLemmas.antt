-- The register that was made.
use Rattle.std.proofs.Common.{◌≡◌, ℕ, pos, List, [], ◌∷◌, Ok, codes, map, refl, sym, ap, subst, ◌∙◌, inl, inr}
use Rattle.sqlite.specs.declared.types.Value.TheVariants.{Null, Int}
use Rattle.sqlite.specs.Order.{Row}
use Rattle.sqlite.specs.Edit.{edit_of}
use Rattle.sqlite.specs.Effect.{Database, value_rows}
use Rattle.sqlite.specs.Rows.{stamped}
use Rattle.sqlite.specs.Rowids.TheVariants.{Chosen}
use Rattle.sqlite.specs.State.{State, Executes}
use Rattle.sqlite.specs.Tree.{Trees}
use Rattle.sqlite_value.specs.Order.{column}
use Rattle.sqlite_trees.specs.Tree.{put_row}
use Rattle.sqlite_rules.specs.Lists.{Has}
use Rattle.sqlite_schema.specs.Names.{same_name}
use Rattle.wgr_model.specs.RowLaws.{no_rows}
use Rattle.wgr_sql.specs.Named.{rows_in, rows_named, tree_named}
use Rattle.wgr_sql.proofs.RowLemmas.{inserted}
use Rattle.wgr_sql.proofs.TableLemmas.{cast_null, cast_int, apart}
use Rattle.wgr_columns.specs.Layout.{HasReader, HasSecond, meta_table_at, schema_with}
use Rattle.wgr_columns.specs.Decode.{AreReaders, AreSeconds, AreWritten, AreTrees, HasLater, tables_of, number_at, network_numbers, peer_numbers, allowed_numbers, allowed_addresses, meta_in, tenant_in, token_in, network_in, peer_in, allowed_in, reader_in, second_in}
use Rattle.wgr_tables.proofs.WrittenLemmas.{written_put}
use Rattle.wgr_schema.specs.Fresh.{HasBlank, IsFresh, later_tables, reader_schema}
use Rattle.wgr_schema.specs.Upgrade.{say_text}
use Rattle.wgr_schema.proofs.Meanings.{reader_is, version_means}
use Rattle.wgr_schema.proofs.UpgradeTexts.{say_values}

abbrev pub third_row : Row
third_row = Int (pos 3) ∷ Null ∷ []

pub version_row : (db : Trees) → db 0 ≡ [] → (edit_of db (meta_table_at 0) [] Chosen 0 (value_rows (stamped (meta_table_at 0) []) 2 1 say_values)).news ≡ third_row ∷ []
version_row db none = rw (none, cast_null, cast_int (pos 3))

pub none_written : (numbers addresses families : List ℕ) → AreWritten numbers addresses families []
none_written numbers addresses families = record {
  keyed = record { ints = λ r none. absurd none; once = λ r s none. absurd none };
  numbers_are = λ r none. absurd none;
  addresses_are = λ r none. absurd none;
  families_are = λ r none. absurd none;
}

pub third_written : AreWritten (0 ∷ []) [] [] (third_row ∷ [])
third_written = written_put (0 ∷ []) [] [] third_row [] refl refl
    (record { number_is = λ p h. elim h [ inl e ↦ subst (λ x. column third_row x ≡ Int (pos (number_at third_row x))) (sym e) refl | inr none ↦ absurd none ]; address_is = λ p none. absurd none; family_is = λ p none. absurd none }) (none_written (0 ∷ []) [] [])

-- the rows of the tables
record Rows (db : Database) : Type 0 where
  meta : db.trees 0 ≡ third_row ∷ []
  tenants : db.trees 1 ≡ []
  tokens : db.trees 3 ≡ []
  networks : db.trees 5 ≡ []
  peers : db.trees 8 ≡ []
  allowed : db.trees 10 ≡ []
  seconds : db.trees 13 ≡ []
  readers : db.trees 14 ≡ []

written_trees : (db : Database) → Rows db → AreTrees db.trees
written_trees db is = record {
  meta = subst (AreWritten (0 ∷ []) [] []) (sym is.meta) third_written;
  tenants = subst (AreWritten (0 ∷ []) [] []) (sym is.tenants) (none_written (0 ∷ []) [] []);
  tokens = subst (AreWritten (2 ∷ []) [] []) (sym is.tokens) (none_written (2 ∷ []) [] []);
  networks = subst (AreWritten network_numbers (5 ∷ []) (4 ∷ [])) (sym is.networks) (none_written network_numbers (5 ∷ []) (4 ∷ []));
  peers = subst (AreWritten peer_numbers [] []) (sym is.peers) (none_written peer_numbers [] []);
  allowed = subst (AreWritten allowed_numbers allowed_addresses (2 ∷ [])) (sym is.allowed) (none_written allowed_numbers allowed_addresses (2 ∷ []));
  statuses = λ r here. absurd (subst (λ l. Has l r) is.peers here);
  kinds = λ r here. absurd (subst (λ l. Has l r) is.allowed here);
}

-- the later tables are found by their names
module _ (db : Database) (has : db.schema ≡ schema_with later_tables) (is : Rows db) where
  second_there : HasSecond db.schema
  unfolding same_name
  second_there = subst HasSecond (sym has) (record { at = 6; tree = 13; named = refl; there = refl; past = refl; low = refl; alone = refl; unindexed = refl })

  reader_there : HasReader db.schema
  unfolding same_name
  reader_there = subst HasReader (sym has) (record { at = 7; tree = 14; named = refl; there = refl; past = refl; low = refl; alone = refl; unindexed = refl })

  no_seconds : rows_named db (codes "second") ≡ []
  unfolding same_name
  no_seconds = ap (λ s. rows_in db.trees (tree_named s (codes "second"))) has ∙ is.seconds

  no_readers : rows_named db (codes "reader") ≡ []
  unfolding same_name
  no_readers = ap (λ s. rows_in db.trees (tree_named s (codes "reader"))) has ∙ is.readers

  has_later : HasLater db
  has_later = record {
    second = second_there;
    reader = reader_there;
    seconds = subst AreSeconds (sym no_seconds) (none_written _ _ _);
    readers = subst AreReaders (sym no_readers) (none_written _ _ _);
  }

  none_read : tables_of db ≡ no_rows
  none_read = let seconds = no_seconds in let readers = no_readers in λ k. record {
    meta = map meta_in (is.meta k);
    tenants = map tenant_in (is.tenants k);
    tokens = map token_in (is.tokens k);
    networks = map network_in (is.networks k);
    seconds = map second_in (seconds k);
    readers = map reader_in (readers k);
    peers = map peer_in (is.peers k);
    allowed = map allowed_in (is.allowed k);
  }

pub fresh_made : (old new : State) → HasBlank reader_schema old.now → (count : ℕ) → Executes say_text [] old new (Ok count) → IsFresh new.now
fresh_made old new was count ran =
    let schema = schema_with later_tables in
    let b = was.blank in
    let done = inserted old new schema (was.schema_is ∙ reader_is) say_text [] version_means.plain 0 (meta_table_at 0) refl count ran say_values 2 version_means.command_is refl (λ news. refl) third_row (version_row old.now.trees b.0) in
    let stays = done.0.edits.others in
    let rows : Rows new.now = record {
      meta = done.0.edits.rows ∙ ap (put_row third_row) b.0;
      tenants = stays 1 (λ same. absurd cc) (apart schema 1 refl) ∙ b.1.0;
      tokens = stays 3 (λ same. absurd cc) (apart schema 3 refl) ∙ b.1.1.0;
      networks = stays 5 (λ same. absurd cc) (apart schema 5 refl) ∙ b.1.1.1.0;
      peers = stays 8 (λ same. absurd cc) (apart schema 8 refl) ∙ b.1.1.1.1.0;
      allowed = stays 10 (λ same. absurd cc) (apart schema 10 refl) ∙ b.1.1.1.1.1.0;
      seconds = stays 13 (λ same. absurd cc) (apart schema 13 refl) ∙ b.1.1.1.1.1.1.0;
      readers = stays 14 (λ same. absurd cc) (apart schema 14 refl) ∙ b.1.1.1.1.1.1.1.0;
    } in
    record {
      schema_is = done.0.edits.schema_is;
      register = record {
        others = later_tables;
        schema_is = done.0.edits.schema_is;
        apart = record { tables = refl; unreferred = refl; indexes = refl };
        sound = done.0.sound;
        written = written_trees new.now rows;
        later = λ _. has_later new.now done.0.edits.schema_is rows;
      };
      rows = none_read new.now done.0.edits.schema_is rows;
    }
