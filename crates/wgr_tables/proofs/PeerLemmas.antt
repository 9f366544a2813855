-- The statement that adds the row of a peer.
use Rattle.std.proofs.Common.{◌≡◌, ℕ, pos, [], ◌∷◌, map, nat_eq, Bool, true, false, Option, Some, None, Ok, IsPermutation, refl, sym, ap, subst, ◌∙◌, inl, inr, arith, true≢false}
use Rattle.std.specs.Ordering.{is_eq}
use Rattle.std.proofs.lemmas.List.Sorted.{IsPermutation-map}
use Rattle.std.proofs.lemmas.Cmp.{tied_itself}
use Rattle.sqlite.specs.declared.types.Value.TheVariants.{Int, Text, Blob}
use Rattle.sqlite.specs.Order.{Row}
use Rattle.sqlite_value.specs.Order.{column, value_cmp}
use Rattle.sqlite_value.proofs.OrderLemmas.{value_cmp_total}
use Rattle.sqlite.specs.Edit.{edit_of}
use Rattle.sqlite.specs.Rowids.TheVariants.{Chosen}
use Rattle.sqlite.specs.Rows.{stamped}
use Rattle.sqlite.specs.Values.{bound}
use Rattle.sqlite.specs.Effect.{value_rows}
use Rattle.sqlite.specs.State.{State, Executes}
use Rattle.sqlite_trees.specs.Tree.{Trees, rowid, put_row}
use Rattle.sqlite_rules.specs.Lists.{Has}
use Rattle.wgr_peers.specs.declared.peer.Status.{Status}
use Rattle.wgr_model.specs.Rows.{PeerRow}
use Rattle.wgr_model.proofs.CollectLemmas.{from_map}
use Rattle.wgr_sql.proofs.KeyedLemmas.{not_taken}
use Rattle.wgr_sql.proofs.TableLemmas.{cast_null, cast_int, put_one}
use Rattle.wgr_columns.specs.Layout.{peer_table_at}
use Rattle.wgr_columns.specs.Decode.{IsRegister, IsStatusRow, peer_in, number_at, peer_numbers}
use Rattle.wgr_columns.specs.Stored.{stored_peer}
use Rattle.wgr_columns.specs.Parameters.{status_value}
use Rattle.wgr_tables.specs.TableSteps.{PeerRowComes}
use Rattle.wgr_tables.proofs.EditLemmas.{peers_after, register_peers}
use Rattle.wgr_tables.proofs.Made.{Made}
use Rattle.wgr_tables.proofs.Meanings.{insert_peer_text, insert_peer_means, peer_values}
use Rattle.wgr_tables.proofs.UniqueLemmas.{from_model}
use Rattle.wgr_tables.proofs.WriteLemmas.{row_inserted}
use Rattle.wgr_tables.proofs.WrittenLemmas.{IsWritten, each_put, written_put}

-- the parameters of a peer's row
abbrev pub peer_params : PeerRow → Row
peer_params p = Int (pos p.id) ∷ Int (pos p.network) ∷ Blob p.key.0 ∷ Text p.label ∷ Int (pos p.until) ∷ Int (pos p.keepalive) ∷ bound (status_value (λ s. s.handshake) p.status ∷ status_value (λ s. s.received) p.status ∷ status_value (λ s. s.sent) p.status ∷ [])

stored_is : (p : PeerRow) (s : Option Status) → peer_in (stored_peer (record p { status = s })) ≡ record p { status = s }
stored_is p None = refl
stored_is p (Some s) = refl

news_are : (trees : Trees) (p : PeerRow) (s : Option Status) → (edit_of trees (peer_table_at 8) [] Chosen 0 (value_rows (stamped (peer_table_at 8) (peer_params (record p { status = s }))) 10 1 peer_values)).news ≡ stored_peer (record p { status = s }) ∷ []
news_are trees p None = rw (cast_null, cast_int (pos p.id), cast_int (pos p.network), cast_int (pos p.until), cast_int (pos p.keepalive))
news_are trees p (Some s) = rw (cast_null, cast_int (pos p.id), cast_int (pos p.network), cast_int (pos p.until), cast_int (pos p.keepalive), cast_int (pos s.handshake), cast_int (pos s.received), cast_int (pos s.sent))

stored_written : (p : PeerRow) → IsWritten peer_numbers [] [] (stored_peer p)
stored_written p = record { number_is = numbers; address_is = λ q none. elim none [ ]; family_is = λ q none. elim none [ ] }
  where
    new : Row
    new = stored_peer p

    numbers : (q : ℕ) → Has peer_numbers q → column new q ≡ Int (pos (number_at new q))
    numbers q (inl e) = subst (λ x. column new x ≡ Int (pos (number_at new x))) (sym e) refl
    numbers q (inr (inl e)) = subst (λ x. column new x ≡ Int (pos (number_at new x))) (sym e) refl
    numbers q (inr (inr (inl e))) = subst (λ x. column new x ≡ Int (pos (number_at new x))) (sym e) refl
    numbers q (inr (inr (inr (inl e)))) = subst (λ x. column new x ≡ Int (pos (number_at new x))) (sym e) refl
    numbers q (inr (inr (inr (inr none)))) = elim none [ ]

status_written : (p : PeerRow) (s : Option Status) → IsStatusRow (stored_peer (record p { status = s }))
status_written p None = inr (refl, refl, refl)
status_written p (Some s) = inl (refl, refl, refl)

untied : (m n : ℕ) → is_eq (value_cmp (Int (pos m)) (Int (pos n))) ≡ false → nat_eq m n ≡ false
untied m n h = go (nat_eq m n) refl
  where
    go : (b : Bool) → nat_eq m n ≡ b → nat_eq m n ≡ false
    go false e = e
    go true e = absurd (let same : m ≡ n = grind (arith) in true≢false (sym (ap is_eq (tied_itself value_cmp_total (Int (pos n)))) ∙ subst (λ k. is_eq (value_cmp (Int (pos k)) (Int (pos n))) ≡ false) same h))

pub peer_came : (old new : State) (register : IsRegister old.now) (p : PeerRow) (count : ℕ) → Executes insert_peer_text (peer_params p) old new (Ok count) → Made (PeerRowComes p) old.now new.now
peer_came old new register p count ran =
    let rows = old.now.trees 8 in
    let row = stored_peer p in
    let done = row_inserted old new register insert_peer_text (peer_params p) count ran 4 (peer_table_at 8) refl refl peer_values 10 (insert_peer_means register.others) refl row (news_are old.now.trees p p.status) in
    record {
      schema = done.0.edits.schema_is ∙ sym register.schema_is;
      sound = register_peers old.now new.now _ register done.0.sound done.0.edits (written_put peer_numbers [] [] row rows refl done.1 (stored_written p) register.written.peers)
          (each_put IsStatusRow row rows done.1 (status_written p p.status) register.written.statuses);
      made = (
        map peer_in (put_row row rows),
        subst (λ x. IsPermutation (x ∷ map peer_in rows) (map peer_in (put_row row rows))) (stored_is p p.status) (IsPermutation-map peer_in _ _ (put_one row rows done.1)),
        peers_after old.now new.now _ register done.0.sound done.0.edits,
        λ a here.
            let at = from_map peer_in rows a here in
            let there = from_model rows at.0 at.1 in
            let id = register.written.peers.numbers_are at.0 there 0 (inl refl) in
            ap (λ (x : PeerRow). nat_eq x.id p.id) (sym at.2) ∙ untied (number_at at.0 0) p.id (ap (λ v. is_eq (value_cmp v (rowid row))) (sym id) ∙ not_taken rows row at.0 done.1 there),
      );
    }
