-- Rows of tokens that only read are good exactly where they are consistent.
use Rattle.std.proofs.Common.{◌≡◌, ◌↔◌, ℕ, codes, true, List, [], ◌∷◌, map, refl, sym, ap, subst, ◌∙◌}
use Rattle.std.specs.List.{AllByRecursion, list_any}
use Rattle.sqlite.specs.Effect.{Database, IsDatabase}
use Rattle.sqlite.specs.Order.{Row}
use Rattle.sqlite_value.specs.Order.{column}
use Rattle.sqlite.specs.declared.types.Value.TheVariants.{Blob}
use Rattle.sqlite_trees.proofs.ListLemmas.{all-map, all_from_map}
use Rattle.sqlite_rules.specs.Lists.{Has}
use Rattle.sqlite_rules.proofs.ListLemmas.{all_has, all_from, some_has}
use Rattle.wgr_model.specs.Consistent.{IsDigest, has_digest}
use Rattle.wgr_model.specs.Register.{Bytes, Token, is_same}
use Rattle.wgr_model.proofs.LookLemmas.{same_exact}
use Rattle.wgr_sql.specs.Named.{rows_in, rows_named}
use Rattle.wgr_sql.proofs.Answers.{map-both}
use Rattle.wgr_sql.proofs.NamedLemmas.{has_at, tree_is}
use Rattle.wgr_sql.proofs.Values.{blob_at}
use Rattle.wgr_columns.specs.Layout.{HasReader, first_free_tree, reader_table_at}
use Rattle.wgr_columns.specs.Decode.{bytes_at, reader_in, token_in}
use Rattle.wgr_columns.specs.Fields.{IsDigestAt, IsIntegerAt}
use Rattle.wgr_checks.specs.Laws.{AreConsistentReaders}
use Rattle.wgr_checks.specs.ReaderRows.{AreGoodReaders, AreOfThese}
use Rattle.wgr_checks.specs.TokenRows.{HaveOwnDigests}
use Rattle.wgr_checks.proofs.TokenLaws.{keyed_by_rowids, rowids_apart}

abbrev Digest : Row → Bytes
Digest r = bytes_at r 1

-- a digest is one of the tokens' digests
among_is : (tokens : List Row) (d : Bytes) → has_digest (map token_in tokens) d ≡ list_any (is_same d) (map Digest tokens)
among_is tokens d = ap (list_any (is_same d)) (map-both token_in (λ (t : Token). t.digest) tokens)

all_told : (tokens : List Row) (ds : List Bytes) → AreOfThese (map Digest tokens) ds → AllByRecursion (λ d. has_digest (map token_in tokens) d ≡ true) ds
all_told tokens [] all = tt
all_told tokens (d ∷ ds) all = (among_is tokens d ∙ all.0, all_told tokens ds all.1)

all_back : (tokens : List Row) (ds : List Bytes) → AllByRecursion (λ d. has_digest (map token_in tokens) d ≡ true) ds → AreOfThese (map Digest tokens) ds
all_back tokens [] all = tt
all_back tokens (d ∷ ds) all = (sym (among_is tokens d) ∙ all.0, all_back tokens ds all.1)

pub good_are : (tokens rows : List Row) → AreGoodReaders tokens rows → AreConsistentReaders tokens rows
good_are tokens rows good = record {
  written = record {
    keyed = keyed_by_rowids rows good.own_rowids;
    numbers_are = λ r here p none. absurd none;
    addresses_are = λ r here p none. absurd none;
    families_are = λ r here p none. absurd none;
  };
  apart = good.of_tokens.digests;
  among = all_told tokens (map reader_in rows) good.of_tokens.among;
}

-- one of the tokens' digests is a digest
is_digest : (tokens : List Row) (d : Bytes) → HaveOwnDigests tokens → list_any (is_same d) (map Digest tokens) ≡ true → IsDigest d
is_digest tokens d own any =
    let found = some_has (is_same d) (map Digest tokens) any in
    let each = all-map IsDigest Digest tokens (all_from (λ r. IsDigest (Digest r)) tokens (λ r here. (all_has (λ x. IsDigestAt x 1) tokens r own.each here).1)) in
    subst IsDigest (sym (same_exact d found.0 found.2)) (all_has IsDigest (map Digest tokens) found.0 each found.1)

back : (tokens rows : List Row) → ((r : Row) → Has rows r → column r 1 ≡ Blob (Digest r)) → HaveOwnDigests tokens → AreConsistentReaders tokens rows → AreGoodReaders tokens rows
back tokens rows blobs own consistent =
    let among = all_back tokens (map reader_in rows) consistent.among in
    let each = all_from_map (λ d. list_any (is_same d) (map Digest tokens) ≡ true) Digest rows among in
    record {
      own_rowids = record { each = all_from (λ r. IsIntegerAt r 0) rows consistent.written.keyed.ints; rowids = rowids_apart rows consistent.written.keyed.once consistent.apart };
      of_tokens = record {
        each = all_from (λ r. IsDigestAt r 1) rows (λ r here. (blobs r here, is_digest tokens (Digest r) own (all_has (λ x. list_any (is_same (Digest x)) (map Digest tokens) ≡ true) rows r each here)));
        digests = consistent.apart;
        among = among;
      };
    }

reader_tree : (tree : ℕ) → (reader_table_at tree).tree ≡ tree
reader_tree tree = refl

pub good_readers_are : (db : Database) → HasReader db.schema → IsDatabase db → HaveOwnDigests (db.trees 3)
    → AreGoodReaders (db.trees 3) (rows_named db (codes "reader")) ↔ AreConsistentReaders (db.trees 3) (rows_named db (codes "reader"))
good_readers_are db h sound own =
    let table : rows_named db (codes "reader") ≡ db.trees h.tree = ap (rows_in db.trees) (tree_is first_free_tree (codes "reader") reader_table_at reader_tree db.schema h) in
    let blobs : (r : Row) → Has (rows_named db (codes "reader")) r → column r 1 ≡ Blob (Digest r) = λ r here. blob_at db.schema db.trees sound (reader_table_at h.tree) (has_at db.schema.tables h.at (reader_table_at h.tree) h.there) r (subst (λ l. Has l r) table here) 0 _ refl refl refl refl refl in
    (good_are (db.trees 3) (rows_named db (codes "reader")), back (db.trees 3) (rows_named db (codes "reader")) blobs own)
