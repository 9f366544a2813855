-- The statement that sets the next number of a network.
use Rattle.std.proofs.Common.{◌≡◌, ℕ, pos, List, [], ◌∷◌, map, drop, nat_eq, unsigned_abs, Bool, true, false, cond, ◌&&◌, Ok, IsPermutation, refl, sym, ap, subst, ◌∙◌, inl, inr}
use Rattle.std.specs.List.{list_all}
use Rattle.std.proofs.lemmas.List.Sorted.{IsPermutation-map}
use Rattle.sqlite.specs.declared.types.Value.{Value}
use Rattle.sqlite.specs.declared.types.Value.TheVariants.{Int, Text, Blob}
use Rattle.sqlite.specs.Order.{Row}
use Rattle.sqlite.specs.Cast.{cast}
use Rattle.sqlite.specs.Kind.TheVariants as kind
use Rattle.sqlite.specs.Collation.TheVariants.{Binary}
use Rattle.sqlite.specs.Ops.{binary, is_true}
use Rattle.sqlite_sql.specs.declared.ops.BinaryOp.TheVariants.{Compare}
use Rattle.sqlite_sql.specs.declared.ops.CompareOp.TheVariants.{Eq}
use Rattle.sqlite_rules.specs.Cast.{cast_row}
use Rattle.sqlite.specs.Term.{Term, col, eval_all, holds}
use Rattle.sqlite_trees.specs.Tree.{rowid}
use Rattle.sqlite_rules.specs.Edit.{id_in}
use Rattle.sqlite_rules.specs.Lists.{Has}
use Rattle.sqlite_value.specs.Order.{column, bytes}
use Rattle.sqlite.specs.Effect.{Database, IsDatabase}
use Rattle.sqlite.specs.Schema.{Schema}
use Rattle.sqlite.specs.State.{State, Executes}
use Rattle.wgr_model.specs.Rows.{with_next, family_number}
use Rattle.wgr_columns.specs.Layout.{network_table_at, schema_with}
use Rattle.wgr_columns.specs.Decode.{IsRegister, network_in, network_numbers, number_at, bytes_at, number_of, bytes_of, family_of}
use Rattle.wgr_tables.specs.TableSteps.{NextSets}
use Rattle.wgr_tables.proofs.Made.{Made}
use Rattle.wgr_tables.proofs.Meanings.{by_id, next_terms, set_next_text, set_next_means}
use Rattle.wgr_sql.proofs.KeyedLemmas.{revised}
use Rattle.wgr_sql.proofs.TableLemmas.{cast_int}
use Rattle.wgr_sql.proofs.Answers.{map-both}
use Rattle.wgr_sql.proofs.RowLemmas.{equal_nats, map_alike}
use Rattle.wgr_tables.proofs.EditLemmas.{networks_after, register_networks}
use Rattle.wgr_tables.proofs.WriteLemmas.{rows_updated}
use Rattle.wgr_tables.proofs.WrittenLemmas.{IsWritten, written_revised}
use Rattle.wgr_sql.proofs.TextLemmas.{text_at}
use Rattle.wgr_sql.proofs.Values.{and_true}

cast_same : (v : Value) → v ≡ Int (pos (unsigned_abs (id_in v))) → cast kind.Integer v ≡ v
cast_same v is = ap (cast kind.Integer) is ∙ cast_int _ ∙ sym is

text_same : (v : Value) → v ≡ Text (bytes v) → bytes (cast kind.Text v) ≡ bytes v
text_same v is = ap (λ x. bytes (cast kind.Text x)) is

abbrev project : List Term
project = col 1 0 ∷ col 1 0 ∷ next_terms

module _ (db : Database) (register : IsRegister db) (i n : ℕ) where
  abbrev given : Row
  given = Int (pos i) ∷ Int (pos n) ∷ []

  abbrev change : Row → Row
  change r = cast_row (network_table_at 5) (drop 1 (eval_all project (given ∷ r ∷ [])))

  abbrev passes : Row → Bool
  passes r = list_all (holds (given ∷ r ∷ [])) by_id

  abbrev rows : List Row
  rows = db.trees 5

  abbrev schema : Schema
  schema = schema_with register.others

  listed : Has schema.tables (network_table_at 5)
  listed = inr (inr (inr (inl refl)))

  sound : IsDatabase (record { schema = schema; trees = db.trees })
  sound = subst (λ s. IsDatabase (record { schema = s; trees = db.trees })) register.schema_is register.sound

  same_at : (r : Row) → Has rows r → (p : ℕ) → Has network_numbers p → cast kind.Integer (column r p) ≡ column r p
  same_at r here p at = cast_same (column r p) (register.written.networks.numbers_are r here p at)

  pub stays : (r : Row) → Has rows r → rowid (change r) ≡ rowid r
  stays r here = same_at r here 0 (inl refl)

  passes_is : (r : Row) → Has rows r → passes r ≡ nat_eq (number_at r 0) i
  passes_is r here = ap (λ v. is_true (binary (Compare Eq Binary) v (Int (pos i))) && true) (register.written.networks.numbers_are r here 0 (inl refl)) ∙ and_true _ ∙ equal_nats (number_at r 0) i

  changed : (r : Row) → Has rows r → network_in (change r) ≡ record (network_in r) { next = n }
  changed r here =
      let number = λ (p : ℕ) (at : Has network_numbers p). ap (λ v. unsigned_abs (id_in v)) (same_at r here p at) in
      let id = number 0 (inl refl) in
      let tenant = number 2 (inr (inl refl)) in
      let family = number 4 (inr (inr (inl refl))) in
      let length = number 6 (inr (inr (inr (inl refl)))) in
      let port = number 8 (inr (inr (inr (inr (inl refl))))) in
      let capacity = number 10 (inr (inr (inr (inr (inr (inl refl)))))) in
      let name = text_same (column r 3) (text_at schema db.trees sound (network_table_at 5) listed r here 2 _ refl refl refl refl refl) in
      let host = text_same (column r 7) (text_at schema db.trees sound (network_table_at 5) listed r here 6 _ refl refl refl refl refl) in
      let next : unsigned_abs (id_in (cast kind.Integer (Int (pos n)))) ≡ n = ap (λ v. unsigned_abs (id_in v)) (cast_int (pos n)) in
      λ k. record {
        id = id k;
        tenant = tenant k;
        name = name k;
        pool = record { address = record { family = family_of (family k); number = number_of (bytes (column r 5)) }; length = length k };
        host = host k;
        port = port k;
        server = (network_in r).server;
        capacity = capacity k;
        next = next k;
      }

  natural : (r : Row) → Has rows r → (p : ℕ) → Has network_numbers p → column (change r) p ≡ Int (pos (number_at (change r) p))
  natural r here p at = go p at
    where
      kept : (v w : Value) → w ≡ v → v ≡ Int (pos (unsigned_abs (id_in v))) → w ≡ Int (pos (unsigned_abs (id_in w)))
      kept v w same is = subst (λ x. x ≡ Int (pos (unsigned_abs (id_in x)))) (sym same) is

      go : (p : ℕ) → Has network_numbers p → column (change r) p ≡ Int (pos (number_at (change r) p))
      go p (inl e) = subst (λ x. column (change r) x ≡ Int (pos (number_at (change r) x))) (sym e) (kept _ _ (same_at r here 0 (inl refl)) (register.written.networks.numbers_are r here 0 (inl refl)))
      go p (inr (inl e)) = subst (λ x. column (change r) x ≡ Int (pos (number_at (change r) x))) (sym e) (kept _ _ (same_at r here 2 (inr (inl refl))) (register.written.networks.numbers_are r here 2 (inr (inl refl))))
      go p (inr (inr (inl e))) = subst (λ x. column (change r) x ≡ Int (pos (number_at (change r) x))) (sym e) (kept _ _ (same_at r here 4 (inr (inr (inl refl)))) (register.written.networks.numbers_are r here 4 (inr (inr (inl refl)))))
      go p (inr (inr (inr (inl e)))) = subst (λ x. column (change r) x ≡ Int (pos (number_at (change r) x))) (sym e) (kept _ _ (same_at r here 6 (inr (inr (inr (inl refl))))) (register.written.networks.numbers_are r here 6 (inr (inr (inr (inl refl))))))
      go p (inr (inr (inr (inr (inl e))))) = subst (λ x. column (change r) x ≡ Int (pos (number_at (change r) x))) (sym e) (kept _ _ (same_at r here 8 (inr (inr (inr (inr (inl refl)))))) (register.written.networks.numbers_are r here 8 (inr (inr (inr (inr (inl refl)))))))
      go p (inr (inr (inr (inr (inr (inl e)))))) = subst (λ x. column (change r) x ≡ Int (pos (number_at (change r) x))) (sym e) (kept _ _ (same_at r here 10 (inr (inr (inr (inr (inr (inl refl))))))) (register.written.networks.numbers_are r here 10 (inr (inr (inr (inr (inr (inl refl))))))))
      go p (inr (inr (inr (inr (inr (inr (inl e))))))) = subst (λ x. column (change r) x ≡ Int (pos (number_at (change r) x))) (sym e) (kept (Int (pos n)) _ (cast_int (pos n)) refl)
      go p (inr (inr (inr (inr (inr (inr (inr none))))))) = elim none [ ]

  pub written_row : (r : Row) → Has rows r → IsWritten network_numbers (5 ∷ []) (4 ∷ []) (change r)
  written_row r here = record {
    number_is = natural r here;
    address_is = λ p at. elim at [ inl e ↦ subst (λ x. column (change r) x ≡ Blob (bytes_of (number_of (bytes_at (change r) x)))) (sym e) (register.written.networks.addresses_are r here 5 (inl refl)) | inr none ↦ elim none [ ] ];
    family_is = λ p at. elim at [ inl e ↦ subst (λ x. number_at (change r) x ≡ family_number (family_of (number_at (change r) x))) (sym e) (family_kept r here) | inr none ↦ elim none [ ] ];
  }
    where
      family_kept : (r : Row) → Has rows r → number_at (change r) 4 ≡ family_number (family_of (number_at (change r) 4))
      family_kept r here = subst (λ v. unsigned_abs (id_in v) ≡ family_number (family_of (unsigned_abs (id_in v)))) (sym (same_at r here 4 (inr (inr (inl refl))))) (register.written.networks.families_are r here 4 (inl refl))

  pub decoded : map network_in (revised passes change rows) ≡ map (with_next i n) (map network_in rows)
  decoded = map-both (λ r. cond (passes r) (change r) r) network_in rows ∙ map_alike _ _ rows each ∙ sym (map-both network_in (with_next i n) rows)
    where
      each : (r : Row) → Has rows r → network_in (cond (passes r) (change r) r) ≡ with_next i n (network_in r)
      each r here = go (passes r) ∙ ap (λ b. cond b (record (network_in r) { next = n }) (network_in r)) (passes_is r here)
        where
          go : (b : Bool) → network_in (cond b (change r) r) ≡ cond b (record (network_in r) { next = n }) (network_in r)
          go true = changed r here
          go false = refl

pub next_set : (old new : State) (register : IsRegister old.now) (i n count : ℕ) → Executes set_next_text (Int (pos i) ∷ Int (pos n) ∷ []) old new (Ok count) → Made (NextSets i n) old.now new.now
next_set old new register i n count ran =
    let params = given old.now register i n in
    let table = old.now.trees 5 in
    let p = passes old.now register i n in
    let to = change old.now register i n in
    let done = rows_updated old new register set_next_text params count ran 3 (network_table_at 5) refl refl by_id project (set_next_means register.others) to (λ r. refl) (λ found. map-both _ _ found) register.written.networks.keyed in
    let after = written_revised network_numbers (5 ∷ []) (4 ∷ []) p to table done.0 done.2 (stays old.now register i n) (written_row old.now register i n) register.written.networks in
    record {
      schema = done.1.edits.schema_is ∙ sym register.schema_is;
      sound = register_networks old.now new.now done.0 register done.1.sound done.1.edits after;
      made = (
        map network_in done.0,
        subst (λ l. IsPermutation l (map network_in done.0)) (decoded old.now register i n) (IsPermutation-map network_in _ _ done.2),
        networks_after old.now new.now done.0 register done.1.sound done.1.edits,
      );
    }
