-- What the statements on `reader` do, and show.
use Rattle.std.proofs.Common.{◌≡◌, ◌+◌, ◌<◌, ℕ, suc, zero, List, [], ◌∷◌, codes, length, map, filter, get_or, is_lt, not, ◌==◌, ◌&&◌, ◌||◌, cond, Bool, true, false, Ok, IsPermutation, IsSorted, refl, sym, ap, ap₂, subst, ◌∙◌, inl, inr, arith}
use Rattle.std.specs.List.{list_all, list_any}
use Rattle.std.specs.Ordering.{nat_cmp}
use Rattle.std.specs.Cmp.Lexicographic.{slice_cmp}
use Rattle.std.proofs.lemmas.List.{get_or-map}
use Rattle.std.proofs.lemmas.List.Sorted.{IsPermutation-map, IsPermutation-sym, length_permutation}
use Rattle.std.proofs.Math.ListN.{length-map}
use Rattle.std.proofs.lemmas.Bool.Decides.{nat_tests}
use Rattle.sqlite.specs.declared.types.Value.TheVariants.{Null, Int, Blob}
use Rattle.sqlite.specs.Order.{Row}
use Rattle.sqlite_value.specs.Order.{column, value_cmp}
use Rattle.sqlite_value.specs.declared.keys.Key.{Key}
use Rattle.sqlite_value.proofs.OrderLemmas.{then-Equal, value_cmp-Blob}
use Rattle.sqlite.specs.Collation.TheVariants.{Binary}
use Rattle.sqlite.specs.Command.TheVariants.{Select}
use Rattle.sqlite.specs.Edit.{edit_of}
use Rattle.sqlite.specs.Effect.{Database, value_rows}
use Rattle.sqlite.specs.Ops.{binary, is_true}
use Rattle.sqlite.specs.Program.{overlay}
use Rattle.sqlite.specs.Listing.{understood}
use Rattle.sqlite.specs.Rowids.TheVariants.{Chosen}
use Rattle.sqlite.specs.Rows.{stamped}
use Rattle.sqlite.specs.Schema.{Schema}
use Rattle.sqlite.specs.State.{State, Executes, Shown}
use Rattle.sqlite.specs.Term.{Term, col, eval_all, holds, lit}
use Rattle.sqlite.proofs.Callers.{IsPlain, reads_as}
use Rattle.sqlite_rules.proofs.ListLemmas.{has_filtered}
use Rattle.sqlite_rules.specs.Edit.{next_rowid, row_at}
use Rattle.sqlite_rules.specs.Lists.{Has}
use Rattle.sqlite_schema.specs.declared.schema.Keys.TheVariants.{Enforced}
use Rattle.sqlite_sql.specs.declared.ops.BinaryOp.TheVariants.{Compare}
use Rattle.sqlite_sql.specs.declared.ops.CompareOp.TheVariants.{Eq}
use Rattle.sqlite_trees.specs.Tree.{put_row}
use Rattle.wgr_model.specs.Register.{Bytes, is_same}
use Rattle.wgr_model.specs.Rows.{Tables}
use Rattle.wgr_model.proofs.LookLemmas.{is_same_sym}
use Rattle.wgr_sql.specs.Causes.{AsksPlainly, IsAnswered, IsWriting}
use Rattle.wgr_sql.specs.Effects.{Lists, passing, plain_query}
use Rattle.wgr_sql.specs.Named.{Holds, rows_named}
use Rattle.wgr_sql.specs.Steps.{Makes}
use Rattle.wgr_sql.proofs.Answers.{answers, map-both}
use Rattle.wgr_sql.proofs.Comparisons.{accepts_is}
use Rattle.wgr_sql.proofs.Compiles.{Compiles, command_is, given, plain, understood_is, unlisted, writes}
use Rattle.wgr_sql.proofs.KeyedLemmas.{has_moved}
use Rattle.wgr_sql.proofs.NamedLemmas.{has_at, holds as table_holds}
use Rattle.wgr_sql.proofs.RowLemmas.{deleted, inserted, map_alike, map_filter}
use Rattle.wgr_sql.proofs.TableLemmas.{cast_null, put_one}
use Rattle.wgr_sql.proofs.UnreferredLemmas.{works_none}
use Rattle.wgr_sql.proofs.Values.{and_true, blob_at}
use Rattle.wgr_columns.specs.Decode.{AreReaders, bytes_at, reader_in, tables_of}
use Rattle.wgr_columns.specs.Layout.{HasReader, first_free_tree, reader_table_at}
use Rattle.wgr_columns.specs.Stored.{AreStored}
use Rattle.wgr_columns.proofs.Statements.{equal_to, never_refused, rising}
use Rattle.wgr_tables.proofs.SameBytes.{same_blobs}
use Rattle.wgr_tables.proofs.WrittenLemmas.{IsWritten, written_filter, written_put}
use Rattle.wgr_entries.specs.Readers.{AreReadersOf, ReaderComes, ReaderGoes, ShowReader, stored_reader}
use Rattle.wgr_entries.specs.ThirdVersion.{IsThirdRegister}
use Rattle.wgr_entries.proofs.ReaderRows.{reader_tree, register_after, rows_are, tables_after, unreferred}
use Rattle.wgr_entries.proofs.ReaderTexts.{digest_compiles, digest_text, digests_compile, digests_text, drop_reader, drop_reader_text, insert_reader, insert_reader_text, reader_values}

reader_there : (schema : Schema) (h : HasReader schema) → Holds schema (codes "reader") h.at (reader_table_at h.tree)
reader_there schema h = table_holds first_free_tree (codes "reader") reader_table_at reader_tree schema h

-- ---- what comes and goes

written_reader : (r : Row) → IsWritten [] [] [] r
written_reader r = record { number_is = λ p none. elim none [ ]; address_is = λ p none. elim none [ ]; family_is = λ p none. elim none [ ] }

module _ (old : Database) (start : IsThirdRegister old) where
  abbrev h : HasReader old.schema
  h = (start.register.later start.third).reader

  good_rows : AreReaders (old.trees h.tree)
  good_rows = subst AreReaders (rows_are old h) (start.register.later start.third).readers

  -- each row has a digest
  pub digest_is : (r : Row) → Has (old.trees h.tree) r → column r 1 ≡ Blob (bytes_at r 1)
  digest_is r here = blob_at old.schema old.trees start.register.sound (reader_table_at h.tree) (has_at old.schema.tables h.at (reader_table_at h.tree) h.there) r here 0 _ refl refl refl refl refl

  -- WHERE digest = ?1
  pub digest_passes : (digest : Bytes) (r : Row) → Has (old.trees h.tree) r → list_all (holds ((Blob digest ∷ []) ∷ r ∷ [])) (equal_to 1 0 ∷ []) ≡ is_same digest (reader_in r)
  digest_passes digest r here =
      ap (λ v. is_true (binary (Compare Eq Binary) v (Blob digest)) && true) (digest_is r here) ∙ and_true _ ∙ same_blobs (bytes_at r 1) digest ∙ is_same_sym (bytes_at r 1) digest

pub reader_came : (old new : State) (start : IsThirdRegister old.now) (digest : Bytes) (count : ℕ) → Executes insert_reader_text (Blob digest ∷ []) old new (Ok count) → Makes IsThirdRegister tables_of (ReaderComes digest) old.now new.now
reader_came old new start digest count ran =
    let name = codes "reader" in
    let schema = old.now.schema in
    let h = (start.register.later start.third).reader in
    let table = reader_table_at h.tree in
    let rows = old.now.trees h.tree in
    let params : Row = Blob digest ∷ [] in
    let row : Row = Int (next_rowid rows) ∷ Blob digest ∷ [] in
    let means = insert_reader schema h.at h.tree (reader_there schema h) in
    let news : (edit_of old.now.trees table [] Chosen 0 (value_rows (stamped table params) 2 1 reader_values)).news ≡ row ∷ [] = rw cast_null in
    let done = inserted old new schema refl insert_reader_text params (plain schema insert_reader_text _ 1 means) h.at table h.there count ran reader_values 2 (command_is schema insert_reader_text _ 1 means) refl
    (λ news. works_none name h.tree schema h.alone Enforced 0 [] news (unreferred old.now start.register)) row news in
    let after = put_row row rows in
    let here = rows_are old.now h in
    record {
      sound = register_after old.now new.now start after done.0.edits done.0.sound (written_put [] [] [] row rows refl done.1 (written_reader row) (good_rows old.now start));
      schema = done.0.edits.schema_is;
      made = (
        map reader_in after,
        subst (λ l. IsPermutation (digest ∷ map reader_in l) (map reader_in after)) (sym here) (IsPermutation-map reader_in (row ∷ rows) after (put_one row rows done.1)),
        tables_after old.now new.now start after done.0.edits,
      );
    }

pub reader_gone : (old new : State) (start : IsThirdRegister old.now) (digest : Bytes) (count : ℕ) → Executes drop_reader_text (Blob digest ∷ []) old new (Ok count) → Makes IsThirdRegister tables_of (ReaderGoes digest) old.now new.now
reader_gone old new start digest count ran =
    let name = codes "reader" in
    let schema = old.now.schema in
    let h = (start.register.later start.third).reader in
    let table = reader_table_at h.tree in
    let rows = old.now.trees h.tree in
    let params : Row = Blob digest ∷ [] in
    let p = λ (r : Row). list_all (holds (params ∷ r ∷ [])) (equal_to 1 0 ∷ []) in
    let means = drop_reader schema h.at h.tree (reader_there schema h) in
    let good = good_rows old.now start in
    let done = deleted old new schema refl drop_reader_text params (plain schema drop_reader_text _ 1 means) h.at table h.there count ran (equal_to 1 0 ∷ []) (command_is schema drop_reader_text _ 1 means)
    (λ db gone. works_none name h.tree schema h.alone Enforced 0 (map (row_at (db h.tree)) gone) [] (unreferred old.now start.register)) good.keyed in
    let after = filter (λ r. not (p r)) rows in
    let kept : map reader_in after ≡ filter (λ d. not (is_same digest d)) (map reader_in (rows_named old.now name)) =
    map_filter reader_in (λ r. not (p r)) (λ d. not (is_same digest d)) rows (λ r here. ap not (digest_passes old.now start digest r here)) ∙ ap (λ l. filter (λ d. not (is_same digest d)) (map reader_in l)) (sym (rows_are old.now h)) in
    record {
      sound = register_after old.now new.now start after done.edits done.sound (written_filter [] [] [] (λ r. not (p r)) rows good);
      schema = done.edits.schema_is;
      made = tables_after old.now new.now start after done.edits ∙ ap (λ l. record (tables_of old.now) { readers = l }) kept;
    }

-- ---- what is shown

abbrev reader_places : List Term
reader_places = lit Null ∷ col 1 1 ∷ []

module _ (old new : State) (text : List ℕ) (params : Row) (tree : ℕ) (terms : List Term) (order : List (Term × Key)) (names : List (List ℕ)) (count : ℕ)
    (means : Compiles old.now.schema text (Select (record { lets = []; body = plain_query tree terms reader_places order }) names) count) (rows : List Row) (shown : Shown text params old new rows) where
  listing : Lists terms reader_places order params (old.now.trees tree) rows
  listing =
      let schema = old.now.schema in
      answers tree terms reader_places order old.now.trees params rows (reads_as text params old new schema refl _ (command_is schema text _ count means) (plain schema text _ count means) (unlisted schema text _ count means) rows shown).answer

  readers_are : map reader_in rows ≡ map reader_in listing.chosen
  readers_are = ap (map reader_in) listing.shown ∙ map-both (λ r. eval_all reader_places (params ∷ r ∷ [])) reader_in listing.chosen

  -- those that pass
  passed : (q : Bytes → Bool) → ((r : Row) → Has (old.now.trees tree) r → list_all (holds (params ∷ r ∷ [])) terms ≡ q (reader_in r)) → IsPermutation (filter q (map reader_in (old.now.trees tree))) (map reader_in rows)
  passed q passes =
      let table = old.now.trees tree in
      let typed : map reader_in (passing terms params table) ≡ filter q (map reader_in table) = map_filter reader_in (λ r. list_all (holds (params ∷ r ∷ [])) terms) q table passes in
      subst (IsPermutation (filter q (map reader_in table))) (sym readers_are) (subst (λ x. IsPermutation x (map reader_in listing.chosen)) typed (IsPermutation-map reader_in _ _ listing.same))

  from_table : (r : Row) → Has listing.chosen r → Has (old.now.trees tree) r
  from_table r here = (has_filtered (λ x. list_all (holds (params ∷ x ∷ [])) terms) (old.now.trees tree) r (has_moved listing.chosen _ r (IsPermutation-sym _ _ listing.same) here)).0

  -- each is stored as it is read
  stored_so : ((r : Row) → Has (old.now.trees tree) r → column r 1 ≡ Blob (bytes_at r 1)) → AreStored stored_reader reader_in rows
  stored_so digests =
      listing.shown ∙ map_alike (λ r. eval_all reader_places (params ∷ r ∷ [])) (λ r. stored_reader (reader_in r)) listing.chosen (λ r here. ap (λ v. Null ∷ v ∷ []) (digests r (from_table r here)))
      ∙ sym (map-both reader_in stored_reader listing.chosen) ∙ ap (map stored_reader) (sym readers_are)

has_place : {X : Type 0} (xs : List X) (k : ℕ) (d : X) → k < length xs → Has xs (get_or xs k d)
has_place [] k d low = absurd (omega (arith, low))
has_place (x ∷ xs) zero d low = inl refl
has_place (x ∷ xs) (suc k) d low = inr (has_place xs k d (omega (arith, low)))

-- rows in the order of their digests
rising_digests : (rows : List Row) → ((r : Row) → Has rows r → column r 1 ≡ Blob (bytes_at r 1)) → IsSorted (λ a b. value_cmp (column a 1) (column b 1)) rows → IsSorted (slice_cmp nat_cmp) (map reader_in rows)
rising_digests xs digests sorted k d low high =
    let long : k + 1 < length xs = omega (arith, high, length-map xs reader_in) in
    let short : k < length xs = omega (arith, long) in
    let x = get_or xs k [] in
    let y = get_or xs (k + 1) [] in
    let compared : value_cmp (column y 1) (column x 1) ≡ slice_cmp nat_cmp (bytes_at y 1) (bytes_at x 1) =
    ap₂ value_cmp (digests y (has_place xs (k + 1) [] long)) (digests x (has_place xs k [] short)) ∙ value_cmp-Blob (bytes_at y 1) (bytes_at x 1) in
    ap₂ (λ a b. is_lt (slice_cmp nat_cmp a b)) (get_or-map reader_in xs (k + 1) [] d long) (get_or-map reader_in xs k [] d short) ∙ ap is_lt (sym compared) ∙ sorted k [] low long

all_pass : {A : Type 0} (xs : List A) → filter (λ _. true) xs ≡ xs
all_pass [] = refl
all_pass (x ∷ xs) = ap (λ ys. x ∷ ys) (all_pass xs)

module _ (old new : State) (start : IsThirdRegister old.now) (rows : List Row) where
  abbrev there : HasReader old.now.schema
  there = (start.register.later start.third).reader

  pub reader_listed : (digest : Bytes) → Shown digest_text (Blob digest ∷ []) old new rows → ShowReader digest (tables_of old.now) rows
  reader_listed digest shown =
      subst (λ l. IsPermutation (filter (is_same digest) (map reader_in l)) (map reader_in rows)) (sym (rows_are old.now there))
      (passed old new digest_text (Blob digest ∷ []) there.tree (equal_to 1 0 ∷ []) [] _ 1 (digest_compiles old.now.schema there.at there.tree (reader_there old.now.schema there)) rows shown (is_same digest) (digest_passes old.now start digest))

  module _ (shown : Shown digests_text [] old new rows) where
    abbrev means_all : Compiles old.now.schema digests_text (Select (record { lets = []; body = plain_query there.tree [] reader_places (rising 1 ∷ []) }) (codes "NULL" ∷ codes "digest" ∷ [])) 0
    means_all = digests_compile old.now.schema there.at there.tree (reader_there old.now.schema there)

    abbrev list_of : Lists [] reader_places (rising 1 ∷ []) [] (old.now.trees there.tree) rows
    list_of = listing old new digests_text [] there.tree [] (rising 1 ∷ []) _ 0 means_all rows shown

    pub readers_stored : AreStored stored_reader reader_in rows
    readers_stored = stored_so old new digests_text [] there.tree [] (rising 1 ∷ []) _ 0 means_all rows shown (digest_is old.now start)

    pub readers_listed : AreReadersOf (tables_of old.now) (map reader_in rows)
    readers_listed = record {
      same =
          subst (λ l. IsPermutation (map reader_in l) (map reader_in rows)) (sym (rows_are old.now there))
          (subst (λ l. IsPermutation l (map reader_in rows)) (all_pass (map reader_in (old.now.trees there.tree)))
          (passed old new digests_text [] there.tree [] (rising 1 ∷ []) _ 0 means_all rows shown (λ _. true) (λ r here. refl)));
      sorted =
          subst (IsSorted (slice_cmp nat_cmp)) (sym (readers_are old new digests_text [] there.tree [] (rising 1 ∷ []) _ 0 means_all rows shown))
          (rising_digests list_of.chosen (λ r here. digest_is old.now start r (from_table old new digests_text [] there.tree [] (rising 1 ∷ []) _ 0 means_all rows shown r here))
          (λ k d low high. sym (ap is_lt (then-Equal (value_cmp (column (get_or list_of.chosen (k + 1) d) 1) (column (get_or list_of.chosen k d) 1)))) ∙ list_of.sorted k d low high));
    }

-- ---- the statements are answered, or write

module _ (schema : Schema) (h : HasReader schema) where
  pub reader_plain : IsPlain (understood schema digest_text)
  reader_plain = plain schema digest_text _ 1 (digest_compiles schema h.at h.tree (reader_there schema h))

  pub readers_plain : IsPlain (understood schema digests_text)
  readers_plain = plain schema digests_text _ 0 (digests_compile schema h.at h.tree (reader_there schema h))

  pub reader_answered : (digest : Bytes) → IsAnswered schema digest_text (Blob digest ∷ [])
  reader_answered digest =
      let there = reader_there schema h in
      let means = digest_compiles schema h.at h.tree there in
      let params : Row = Blob digest ∷ [] in
      let fine = accepts_is schema (codes "reader") h.at (reader_table_at h.tree) there (equal_to 1 0 ∷ []) reader_places [] params refl in
      record {
        given = given schema digest_text _ 1 means params refl;
        unlisted = unlisted schema digest_text _ 1 means;
        plain = subst (AsksPlainly schema params) (sym (understood_is schema digest_text _ 1 means)) (λ limit trees e refused. never_refused _ fine limit (overlay trees [] h.tree) refused);
      }

  pub readers_answered : IsAnswered schema digests_text []
  readers_answered =
      let there = reader_there schema h in
      let means = digests_compile schema h.at h.tree there in
      let fine = accepts_is schema (codes "reader") h.at (reader_table_at h.tree) there [] reader_places (rising 1 ∷ []) [] refl in
      record {
        given = given schema digests_text _ 0 means [] refl;
        unlisted = unlisted schema digests_text _ 0 means;
        plain = subst (AsksPlainly schema []) (sym (understood_is schema digests_text _ 0 means)) (λ limit trees e refused. never_refused _ fine limit (overlay trees [] h.tree) refused);
      }

  pub insert_reader_writes : (digest : Bytes) → IsWriting schema insert_reader_text (Blob digest ∷ [])
  insert_reader_writes digest = writes schema insert_reader_text _ 1 (insert_reader schema h.at h.tree (reader_there schema h)) tt refl (Blob digest ∷ []) refl

  pub drop_reader_writes : (digest : Bytes) → IsWriting schema drop_reader_text (Blob digest ∷ [])
  drop_reader_writes digest = writes schema drop_reader_text _ 1 (drop_reader schema h.at h.tree (reader_there schema h)) tt refl (Blob digest ∷ []) refl

-- ---- whether a token only reads

-- some element passes where some is left by the filter
any_left : {A : Type 0} (p : A → Bool) (xs : List A) → list_any p xs ≡ not (length (filter p xs) == 0)
any_left p [] = refl
any_left p (x ∷ xs) = go (p x) (any_left p xs)
  where
    go : (b : Bool) → list_any p xs ≡ not (length (filter p xs) == 0) → (b || list_any p xs) ≡ not (length (cond b (x ∷ filter p xs) (filter p xs)) == 0)
    go true later = let more : (length (x ∷ filter p xs) == 0) ≡ false = grind (arith, nat_tests) in rw more refl
    go false later = later

pub any_shown : (t : Tables) (digest : Bytes) (rows : List Row) (long : ℕ) (none : Bool) → none ≡ (long == 0) → long ≡ length rows → ShowReader digest t rows → not none ≡ list_any (is_same digest) t.readers
any_shown t digest rows long none is same shows =
    let many : long ≡ length (filter (is_same digest) t.readers) = same ∙ sym (length-map rows reader_in) ∙ length_permutation _ _ shows in
    ap not (is ∙ ap (λ n. n == 0) many) ∙ sym (any_left (is_same digest) t.readers)
