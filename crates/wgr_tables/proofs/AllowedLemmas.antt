-- The statements on prefixes that lead to a peer.
use Rattle.std.proofs.Common.{◌≡◌, ◌⊎◌, ◌<◌, ◌^◌, ℕ, pos, List, [], ◌∷◌, map, nat_eq, bytes_eq, Bool, true, false, not, ◌&&◌, Ok, IsPermutation, refl, sym, ap, subst, ◌∙◌, inl, inr, arith, true≢false}
use Rattle.std.specs.List.{list_all}
use Rattle.std.specs.Ordering.{is_eq}
use Rattle.std.proofs.lemmas.List.Sorted.{IsPermutation-map}
use Rattle.sqlite.specs.declared.types.Value.{Value}
use Rattle.sqlite.specs.declared.types.Value.TheVariants.{Int, Text, Blob}
use Rattle.sqlite.specs.Order.{Row}
use Rattle.sqlite_value.specs.Order.{column, bytes}
use Rattle.sqlite.specs.Collation.TheVariants.{Binary}
use Rattle.sqlite.specs.Ops.{binary, is_true}
use Rattle.sqlite_sql.specs.declared.ops.BinaryOp.TheVariants.{Compare}
use Rattle.sqlite_sql.specs.declared.ops.CompareOp.TheVariants.{Eq}
use Rattle.sqlite.specs.Edit.{edit_of}
use Rattle.sqlite.specs.Rowids.TheVariants.{Chosen}
use Rattle.sqlite.specs.Rows.{stamped}
use Rattle.sqlite.specs.Term.{holds}
use Rattle.sqlite.specs.State.{State, Executes}
use Rattle.sqlite.specs.Effect.{IsDatabase, value_rows}
use Rattle.sqlite_trees.specs.Tree.{rowid, put_row}
use Rattle.sqlite_rules.specs.Edit.{id_in, next_rowid}
use Rattle.sqlite_rules.specs.Lists.{Has}
use Rattle.wgr_text.specs.Prefix.{PrefixValue}
use Rattle.wgr_model.specs.Rows.{family_number, last_of, allowed_row, allowed_key, same_allowed, peer_id}
use Rattle.wgr_model.proofs.GatherLemmas.{eqb_self}
use Rattle.wgr_model.proofs.CollectLemmas.{from_map}
use Rattle.sqlite_value.specs.Order.{value_cmp}
use Rattle.sqlite_value.specs.Keys.{plain}
use Rattle.sqlite_schema.specs.Rules.{agree, differ}
use Rattle.wgr_tables.proofs.UniqueLemmas.{from_model, differ_ints, allowed_apart, agree_four, four}
use Rattle.sqlite.specs.Command.TheVariants.{Insert}
use Rattle.sqlite.specs.Source.TheVariants.{Values}
use Rattle.wgr_columns.specs.Layout.{Others, schema_with, allowed_table_at}
use Rattle.wgr_columns.specs.Decode.{IsKindAt, IsRegister, tables_of, allowed_in, number_at, bytes_at, bytes_of, number_of, family_of, address_kind, route_kind, allowed_numbers, allowed_addresses}
use Rattle.wgr_tables.specs.TableSteps.{AllowedComes, RouteGoes, is_route_at}
use Rattle.wgr_columns.proofs.ByteLemmas.{number_back}
use Rattle.wgr_columns.proofs.FieldLemmas.{family_back}
use Rattle.wgr_sql.proofs.KeyedLemmas.{has_moved, not_taken}
use Rattle.wgr_sql.proofs.RowLemmas.{equal_nats, map_filter}
use Rattle.wgr_tables.proofs.EditLemmas.{allowed_after, register_allowed}
use Rattle.wgr_tables.proofs.Made.{Made}
use Rattle.wgr_tables.proofs.WriteLemmas.{rows_deleted, row_inserted}
use Rattle.wgr_tables.proofs.WrittenLemmas.{IsWritten, each_filter, each_put, written_filter, written_put}
use Rattle.wgr_tables.proofs.Meanings.{drop_route_text, drop_route_means, of_route, allowed_values}
use Rattle.wgr_columns.proofs.Statements.{Means}
use Rattle.wgr_sql.proofs.TableLemmas.{cast_null, cast_int, put_one}
use Rattle.wgr_sql.proofs.TextLemmas.{text_at, equal_texts}
use Rattle.wgr_sql.proofs.Values.{and_true, equal_blob, equal_itself}

left_four : (a b c d : Bool) → (a && (b && (c && d))) ≡ (a && b && c && d)
left_four true true true d = refl
left_four true true false d = refl
left_four true false c d = refl
left_four false b c d = refl

pub eqb_true : (m n : ℕ) → nat_eq m n ≡ true → m ≡ n
eqb_true m n e = grind (arith)

-- two blobs of numbers are equal where the numbers are
pub equal_spelled : (m n : ℕ) → number_of (bytes_of m) ≡ m → number_of (bytes_of n) ≡ n → is_true (binary (Compare Eq Binary) (Blob (bytes_of m)) (Blob (bytes_of n))) ≡ nat_eq m n
equal_spelled m n p q = go (nat_eq m n) refl
  where
    go : (b : Bool) → nat_eq m n ≡ b → is_true (binary (Compare Eq Binary) (Blob (bytes_of m)) (Blob (bytes_of n))) ≡ nat_eq m n
    go true e = let same : m ≡ n = eqb_true m n e in subst (λ k. is_true (binary (Compare Eq Binary) (Blob (bytes_of m)) (Blob (bytes_of k))) ≡ nat_eq m n) same (equal_itself (bytes_of m) ∙ sym e)
    go false e = different (is_true (binary (Compare Eq Binary) (Blob (bytes_of m)) (Blob (bytes_of n)))) refl
      where
        different : (b : Bool) → is_true (binary (Compare Eq Binary) (Blob (bytes_of m)) (Blob (bytes_of n))) ≡ b → is_true (binary (Compare Eq Binary) (Blob (bytes_of m)) (Blob (bytes_of n))) ≡ nat_eq m n
        different true h = let same : m ≡ n = sym p ∙ ap (λ v. number_of (bytes v)) (equal_blob (Blob (bytes_of m)) (bytes_of n) h) ∙ q in absurd (true≢false (sym (eqb_self m) ∙ ap (nat_eq m) same ∙ e))
        different false h = h ∙ sym e

spelled_back : (v : Value) → v ≡ Blob (bytes_of (number_of (bytes v))) → number_of (bytes_of (number_of (bytes v))) ≡ number_of (bytes v)
spelled_back v is = sym (ap (λ x. number_of (bytes x)) is)

-- a row of `allowed`, as the table stores it
abbrev pub stored_allowed : List Row → List ℕ → ℕ → PrefixValue → ℕ → ℕ → Row
stored_allowed rows kind network p hi peer = Int (next_rowid rows) ∷ Int (pos network) ∷ Int (pos (family_number p.address.family)) ∷ Blob (bytes_of p.address.number) ∷ Int (pos p.length) ∷ Blob (bytes_of hi) ∷ Int (pos peer) ∷ Text kind ∷ []

stored_is : (rows : List Row) (kind : List ℕ) (network : ℕ) (p : PrefixValue) (hi number : ℕ) → p.address.number < 2 ^ 128 → hi < 2 ^ 128 → hi ≡ (last_of p).number
    → allowed_in (stored_allowed rows kind network p hi (peer_id network number)) ≡ allowed_row network (bytes_eq kind route_kind) p number
stored_is rows kind network p hi number low high last =
    let family = family_back p.address.family in
    let first = number_back p.address.number low in
    let end = number_back hi high ∙ last in
    λ k. record {
      network = network;
      prefix = record { address = record { family = family k; number = first k }; length = p.length };
      last = record { family = family k; number = end k };
      peer = peer_id network number;
      is_route = bytes_eq kind route_kind;
    }

stored_written : (rows : List Row) (kind : List ℕ) (network : ℕ) (p : PrefixValue) (hi peer : ℕ) → p.address.number < 2 ^ 128 → hi < 2 ^ 128 → IsWritten allowed_numbers allowed_addresses (2 ∷ []) (stored_allowed rows kind network p hi peer)
stored_written rows kind network p hi peer low high = record { number_is = numbers; address_is = addresses; family_is = families }
  where
    new : Row
    new = stored_allowed rows kind network p hi peer

    numbers : (q : ℕ) → Has allowed_numbers q → column new q ≡ Int (pos (number_at new q))
    numbers q (inl e) = subst (λ x. column new x ≡ Int (pos (number_at new x))) (sym e) refl
    numbers q (inr (inl e)) = subst (λ x. column new x ≡ Int (pos (number_at new x))) (sym e) refl
    numbers q (inr (inr (inl e))) = subst (λ x. column new x ≡ Int (pos (number_at new x))) (sym e) refl
    numbers q (inr (inr (inr (inl e)))) = subst (λ x. column new x ≡ Int (pos (number_at new x))) (sym e) refl
    numbers q (inr (inr (inr (inr none)))) = elim none [ ]

    addresses : (q : ℕ) → Has allowed_addresses q → column new q ≡ Blob (bytes_of (number_of (bytes_at new q)))
    addresses q (inl e) = subst (λ x. column new x ≡ Blob (bytes_of (number_of (bytes_at new x)))) (sym e) (ap (λ n. Blob (bytes_of n)) (sym (number_back p.address.number low)))
    addresses q (inr (inl e)) = subst (λ x. column new x ≡ Blob (bytes_of (number_of (bytes_at new x)))) (sym e) (ap (λ n. Blob (bytes_of n)) (sym (number_back hi high)))
    addresses q (inr (inr none)) = elim none [ ]

    families : (q : ℕ) → Has (2 ∷ []) q → number_at new q ≡ family_number (family_of (number_at new q))
    families q (inl e) = subst (λ x. number_at new x ≡ family_number (family_of (number_at new x))) (sym e) (ap family_number (sym (family_back p.address.family)))
    families q (inr none) = elim none [ ]

pub route_gone : (old new : State) (register : IsRegister old.now) (network : ℕ) (p : PrefixValue) (count : ℕ) → p.address.number < 2 ^ 128
    → Executes drop_route_text (Int (pos network) ∷ Int (pos (family_number p.address.family)) ∷ Blob (bytes_of p.address.number) ∷ Int (pos p.length) ∷ []) old new (Ok count)
    → Made (RouteGoes network p) old.now new.now
route_gone old new register network p count low ran =
    let rows = old.now.trees 10 in
    let q = λ (r : Row). list_all (holds (params ∷ r ∷ [])) of_route in
    let done = rows_deleted old new register drop_route_text params count ran 5 (allowed_table_at 10) refl refl of_route (drop_route_means register.others) register.written.allowed.keyed in
    record {
      schema = done.edits.schema_is ∙ sym register.schema_is;
      sound = register_allowed old.now new.now _ register done.sound done.edits (written_filter allowed_numbers allowed_addresses (2 ∷ []) (λ r. not (q r)) rows register.written.allowed)
          (each_filter (λ r. IsKindAt r 7) (λ r. not (q r)) rows register.written.kinds);
      made = allowed_after old.now new.now _ register done.sound done.edits
          ∙ ap (λ l. record (tables_of old.now) { allowed = l }) (map_filter allowed_in (λ r. not (q r)) (λ it. not (is_route_at network p it)) rows (λ r here. ap not (passes r here)));
    }
  where
    params : Row
    params = Int (pos network) ∷ Int (pos (family_number p.address.family)) ∷ Blob (bytes_of p.address.number) ∷ Int (pos p.length) ∷ []

    sound : IsDatabase (record { schema = schema_with register.others; trees = old.now.trees })
    sound = subst (λ s. IsDatabase (record { schema = s; trees = old.now.trees })) register.schema_is register.sound

    kind_is : (r : Row) → Has (old.now.trees 10) r → is_true (binary (Compare Eq Binary) (column r 7) (Text route_kind)) ≡ bytes_eq (bytes_at r 7) route_kind
    kind_is r here = ap (λ v. is_true (binary (Compare Eq Binary) v (Text route_kind))) (text_at (schema_with register.others) old.now.trees sound (allowed_table_at 10) (inr (inr (inr (inr (inr (inl refl)))))) r here 6 _ refl refl refl refl refl) ∙ equal_texts (bytes_at r 7) route_kind

    passes : (r : Row) → Has (old.now.trees 10) r → list_all (holds (params ∷ r ∷ [])) of_route ≡ is_route_at network p (allowed_in r)
    passes r here =
        let good = register.written.allowed in
        let span = good.addresses_are r here 3 (inl refl) in
        let at = λ (v : Value) (place : ℕ). is_true (binary (Compare Eq Binary) (column r place) v) in
        let one : at (Int (pos network)) 1 ≡ nat_eq (number_at r 1) network = ap (λ v. is_true (binary (Compare Eq Binary) v (Int (pos network)))) (good.numbers_are r here 1 (inl refl)) ∙ equal_nats (number_at r 1) network in
        let two : at (Int (pos (family_number p.address.family))) 2 ≡ nat_eq (family_number (family_of (number_at r 2))) (family_number p.address.family) =
        ap (λ v. is_true (binary (Compare Eq Binary) v (Int (pos (family_number p.address.family))))) (good.numbers_are r here 2 (inr (inl refl))) ∙ equal_nats (number_at r 2) _ ∙ ap (λ n. nat_eq n (family_number p.address.family)) (good.families_are r here 2 (inl refl)) in
        let three : at (Blob (bytes_of p.address.number)) 3 ≡ nat_eq (number_of (bytes_at r 3)) p.address.number =
        ap (λ v. is_true (binary (Compare Eq Binary) v (Blob (bytes_of p.address.number)))) span ∙ equal_spelled _ _ (spelled_back (column r 3) span) (number_back p.address.number low) in
        let four : at (Int (pos p.length)) 4 ≡ nat_eq (number_at r 4) p.length = ap (λ v. is_true (binary (Compare Eq Binary) v (Int (pos p.length)))) (good.numbers_are r here 4 (inr (inr (inl refl)))) ∙ equal_nats (number_at r 4) p.length in
        λ k. one k && (two k && (three k && (four k && (and_true (is_true (binary (Compare Eq Binary) (column r 7) (Text route_kind))) ∙ kind_is r here) k)))

abbrev allowed_params : ℕ → PrefixValue → ℕ → ℕ → Row
allowed_params network p hi peer = Int (pos network) ∷ Int (pos (family_number p.address.family)) ∷ Blob (bytes_of p.address.number) ∷ Int (pos p.length) ∷ Blob (bytes_of hi) ∷ Int (pos peer) ∷ []

abbrev IsKind : List ℕ → Type 0
IsKind kind = (kind ≡ address_kind) ⊎ (kind ≡ route_kind)

kind_written : (kind : List ℕ) → IsKind kind → (Text kind ≡ Text address_kind) ⊎ (Text kind ≡ Text route_kind)
kind_written kind (inl is) = inl (ap Text is)
kind_written kind (inr is) = inr (ap Text is)

-- a row of either kind
pub allowed_came : (kind text : List ℕ) → IsKind kind → ((others : Others) → Means others text (Insert 5 (Values (allowed_values kind) 8)))
    → (old new : State) (register : IsRegister old.now) (network : ℕ) (p : PrefixValue) (hi number count : ℕ) → p.address.number < 2 ^ 128 → hi < 2 ^ 128 → hi ≡ (last_of p).number
    → Executes text (allowed_params network p hi (peer_id network number)) old new (Ok count)
    → Made (AllowedComes (allowed_row network (bytes_eq kind route_kind) p number)) old.now new.now
allowed_came kind text is_kind means old new register network p hi number count low high last ran =
    let peer = peer_id network number in
    let rows = old.now.trees 10 in
    let row = stored_allowed rows kind network p hi peer in
    let news : (edit_of old.now.trees (allowed_table_at 10) [] Chosen 0 (value_rows (stamped (allowed_table_at 10) (allowed_params network p hi peer)) 8 1 (allowed_values kind))).news ≡ row ∷ [] =
    rw (cast_null, cast_int (pos network), cast_int (pos (family_number p.address.family)), cast_int (pos p.length), cast_int (pos peer)) in
    let done = row_inserted old new register text (allowed_params network p hi peer) count ran 5 (allowed_table_at 10) refl refl (allowed_values kind) 8 (means register.others) refl row news in
    let same = stored_is rows kind network p hi number low high last in
    record {
      schema = done.0.edits.schema_is ∙ sym register.schema_is;
      sound = register_allowed old.now new.now _ register done.0.sound done.0.edits (written_put allowed_numbers allowed_addresses (2 ∷ []) row rows refl done.1 (stored_written rows kind network p hi peer low high) register.written.allowed)
          (each_put (λ r. IsKindAt r 7) row rows done.1 (kind_written kind is_kind) register.written.kinds);
      made = (
        map allowed_in (put_row row rows),
        subst (λ x. IsPermutation (x ∷ map allowed_in rows) (map allowed_in (put_row row rows))) same (IsPermutation-map allowed_in _ _ (put_one row rows done.1)),
        allowed_after old.now new.now _ register done.0.sound done.0.edits,
        λ a here.
            let at = from_map allowed_in rows a here in
            let r = at.0 in
            let there = from_model rows r at.1 in
            let old_id = register.written.allowed.keyed.ints r there in
            let moved = has_moved (row ∷ rows) (put_row row rows) in
            let perm = put_one row rows done.1 in
            let sound_new : IsDatabase (record { schema = schema_with register.others; trees = new.now.trees }) = subst (λ s. IsDatabase (record { schema = s; trees = new.now.trees })) done.0.edits.schema_is done.0.sound in
            let new_here : Has (new.now.trees 10) row = subst (λ l. Has l row) (sym done.0.edits.rows) (moved row perm (inl refl)) in
            let old_here : Has (new.now.trees 10) r = subst (λ l. Has l r) (sym done.0.edits.rows) (moved r perm (inr there)) in
            let cmp : is_eq (value_cmp (Int (id_in (rowid r))) (Int (next_rowid rows))) ≡ false = ap (λ v. is_eq (value_cmp v (Int (next_rowid rows)))) (sym old_id) ∙ not_taken rows row r done.1 there in
            let apart : differ (rowid r) (rowid row) ≡ true = ap (λ v. differ v (rowid row)) old_id ∙ differ_ints _ _ cmp in
            ap (λ x. same_allowed (allowed_key x) (allowed_key (allowed_row network (bytes_eq kind route_kind) p number))) (sym at.2)
            ∙ sym (agrees r there) ∙ allowed_apart register.others new.now.trees sound_new row r new_here old_here apart,
      );
    }
  where
    agrees : (r : Row) → Has (old.now.trees 10) r → agree plain four r four (stored_allowed (old.now.trees 10) kind network p hi (peer_id network number)) ≡ same_allowed (allowed_key (allowed_in r)) (allowed_key (allowed_row network (bytes_eq kind route_kind) p number))
    agrees r here =
        let good = register.written.allowed in
        let span = good.addresses_are r here 3 (inl refl) in
        let at = λ (v : Value) (place : ℕ). is_true (binary (Compare Eq Binary) (column r place) v) in
        let one : at (Int (pos network)) 1 ≡ nat_eq (number_at r 1) network = ap (λ v. is_true (binary (Compare Eq Binary) v (Int (pos network)))) (good.numbers_are r here 1 (inl refl)) ∙ equal_nats (number_at r 1) network in
        let two : at (Int (pos (family_number p.address.family))) 2 ≡ nat_eq (family_number (family_of (number_at r 2))) (family_number p.address.family) =
        ap (λ v. is_true (binary (Compare Eq Binary) v (Int (pos (family_number p.address.family))))) (good.numbers_are r here 2 (inr (inl refl))) ∙ equal_nats (number_at r 2) _ ∙ ap (λ n. nat_eq n (family_number p.address.family)) (good.families_are r here 2 (inl refl)) in
        let three : at (Blob (bytes_of p.address.number)) 3 ≡ nat_eq (number_of (bytes_at r 3)) p.address.number =
        ap (λ v. is_true (binary (Compare Eq Binary) v (Blob (bytes_of p.address.number)))) span ∙ equal_spelled _ _ (spelled_back (column r 3) span) (number_back p.address.number low) in
        let length_same : at (Int (pos p.length)) 4 ≡ nat_eq (number_at r 4) p.length = ap (λ v. is_true (binary (Compare Eq Binary) v (Int (pos p.length)))) (good.numbers_are r here 4 (inr (inr (inl refl)))) ∙ equal_nats (number_at r 4) p.length in
        agree_four r (stored_allowed (old.now.trees 10) kind network p hi (peer_id network number)) ∙ (λ k. one k && (two k && (three k && (and_true (at (Int (pos p.length)) 4) ∙ length_same) k))) ∙ left_four (nat_eq (number_at r 1) network) (nat_eq (family_number (family_of (number_at r 2))) (family_number p.address.family)) (nat_eq (number_of (bytes_at r 3)) p.address.number) (nat_eq (number_at r 4) p.length)
