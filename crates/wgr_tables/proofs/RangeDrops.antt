-- Rows of a range of peers that are taken away.
use Rattle.std.proofs.Common.{◌≡◌, ℕ, pos, [], ◌∷◌, nat_eq, nat_le, bytes_eq, not, ◌&&◌, Ok, refl, ap, subst, ◌∙◌, inl, inr, arith, sym}
use Rattle.std.specs.List.{list_all}
use Rattle.std.specs.Ordering.{is_ge, is_le}
use Rattle.sqlite.specs.declared.types.Value.TheVariants.{Int, Text}
use Rattle.sqlite.specs.Order.{Row}
use Rattle.sqlite_value.specs.Order.{column}
use Rattle.sqlite_value.proofs.OrderLemmas.{value_cmp-Int}
use Rattle.sqlite.specs.Collation.TheVariants.{Binary}
use Rattle.sqlite.specs.Ops.{binary, is_true}
use Rattle.sqlite_sql.specs.declared.ops.BinaryOp.TheVariants.{Compare}
use Rattle.sqlite_sql.specs.declared.ops.CompareOp.TheVariants.{Eq, Ge, Le, Ne}
use Rattle.sqlite.specs.Term.{holds}
use Rattle.sqlite.specs.State.{State, Executes}
use Rattle.sqlite_rules.specs.Lists.{Has}
use Rattle.sqlite.specs.Effect.{IsDatabase}
use Rattle.std.specs.Ordering.{int_cmp}
use Rattle.wgr_sql.proofs.RowLemmas.{equal_nats, map_filter}
use Rattle.wgr_sql.proofs.TextLemmas.{text_at, differ_texts}
use Rattle.wgr_sql.proofs.Values.{and_true, truth_of}
use Rattle.wgr_columns.specs.Layout.{schema_with, peer_table_at, allowed_table_at}
use Rattle.wgr_columns.specs.Decode.{IsKindAt, IsRegister, IsStatusRow, tables_of, peer_in, allowed_in, number_at, bytes_at, route_kind, peer_numbers, allowed_numbers, allowed_addresses}
use Rattle.wgr_tables.specs.TableSteps.{PeersGo, AllowedGoes, is_peer_within, is_address_within}
use Rattle.wgr_tables.proofs.Made.{Made}
use Rattle.wgr_tables.proofs.EditLemmas.{peers_after, register_peers, allowed_after, register_allowed}
use Rattle.wgr_tables.proofs.WriteLemmas.{rows_deleted}
use Rattle.wgr_tables.proofs.WrittenLemmas.{each_filter, written_filter}
use Rattle.wgr_tables.proofs.Meanings.{drop_peer_range_text, drop_peer_range_means, of_peer_range, drop_address_range_text, drop_address_range_means, of_address_range}

-- column >= ?, where both are numbers
at_least : (m n : ℕ) → is_true (binary (Compare Ge Binary) (Int (pos m)) (Int (pos n))) ≡ nat_le n m
unfolding binary
at_least m n = truth_of _ ∙ ap is_ge (value_cmp-Int (pos m) (pos n)) ∙ same m n
  where
    same : (m n : ℕ) → is_ge (int_cmp (pos m) (pos n)) ≡ nat_le n m
    same m n = grind (arith)

-- column <= ?
at_most : (m n : ℕ) → is_true (binary (Compare Le Binary) (Int (pos m)) (Int (pos n))) ≡ nat_le m n
unfolding binary
at_most m n = truth_of _ ∙ ap is_le (value_cmp-Int (pos m) (pos n)) ∙ same m n
  where
    same : (m n : ℕ) → is_le (int_cmp (pos m) (pos n)) ≡ nat_le m n
    same m n = grind (arith)

pub peers_gone : (old new : State) (register : IsRegister old.now) (network first last count : ℕ) → Executes drop_peer_range_text (Int (pos network) ∷ Int (pos first) ∷ Int (pos last) ∷ []) old new (Ok count) → Made (PeersGo network first last) old.now new.now
peers_gone old new register network first last count ran =
    let params = Int (pos network) ∷ Int (pos first) ∷ Int (pos last) ∷ [] in
    let rows = old.now.trees 8 in
    let p = λ (r : Row). list_all (holds (params ∷ r ∷ [])) of_peer_range in
    let done = rows_deleted old new register drop_peer_range_text params count ran 4 (peer_table_at 8) refl refl of_peer_range (drop_peer_range_means register.others) register.written.peers.keyed in
    record {
      schema = done.edits.schema_is ∙ sym register.schema_is;
      sound = register_peers old.now new.now _ register done.sound done.edits (written_filter peer_numbers [] [] (λ r. not (p r)) rows register.written.peers)
          (each_filter IsStatusRow (λ r. not (p r)) rows register.written.statuses);
      made = peers_after old.now new.now _ register done.sound done.edits
          ∙ ap (λ l. record (tables_of old.now) { peers = l }) (map_filter peer_in (λ r. not (p r)) (λ it. not (is_peer_within network first last it)) rows (λ r here. ap not (passes r here)));
    }
  where
    passes : (r : Row) → Has (old.now.trees 8) r → list_all (holds ((Int (pos network) ∷ Int (pos first) ∷ Int (pos last) ∷ []) ∷ r ∷ [])) of_peer_range ≡ is_peer_within network first last (peer_in r)
    passes r here =
        let id = register.written.peers.numbers_are r here 0 (inl refl) in
        let one : is_true (binary (Compare Eq Binary) (column r 2) (Int (pos network))) ≡ nat_eq (number_at r 2) network = ap (λ v. is_true (binary (Compare Eq Binary) v (Int (pos network)))) (register.written.peers.numbers_are r here 2 (inr (inl refl))) ∙ equal_nats (number_at r 2) network in
        let two : is_true (binary (Compare Ge Binary) (column r 0) (Int (pos first))) ≡ nat_le first (number_at r 0) = ap (λ v. is_true (binary (Compare Ge Binary) v (Int (pos first)))) id ∙ at_least (number_at r 0) first in
        let three : is_true (binary (Compare Le Binary) (column r 0) (Int (pos last))) ≡ nat_le (number_at r 0) last = ap (λ v. is_true (binary (Compare Le Binary) v (Int (pos last)))) id ∙ at_most (number_at r 0) last in
        λ k. one k && (two k && (and_true (is_true (binary (Compare Le Binary) (column r 0) (Int (pos last)))) ∙ three) k)

pub addresses_gone : (old new : State) (register : IsRegister old.now) (network first last count : ℕ) → Executes drop_address_range_text (Int (pos network) ∷ Int (pos first) ∷ Int (pos last) ∷ []) old new (Ok count)
    → Made (AllowedGoes (is_address_within network first last)) old.now new.now
addresses_gone old new register network first last count ran =
    let params = Int (pos network) ∷ Int (pos first) ∷ Int (pos last) ∷ [] in
    let rows = old.now.trees 10 in
    let p = λ (r : Row). list_all (holds (params ∷ r ∷ [])) of_address_range in
    let done = rows_deleted old new register drop_address_range_text params count ran 5 (allowed_table_at 10) refl refl of_address_range (drop_address_range_means register.others) register.written.allowed.keyed in
    record {
      schema = done.edits.schema_is ∙ sym register.schema_is;
      sound = register_allowed old.now new.now _ register done.sound done.edits (written_filter allowed_numbers allowed_addresses (2 ∷ []) (λ r. not (p r)) rows register.written.allowed)
          (each_filter (λ r. IsKindAt r 7) (λ r. not (p r)) rows register.written.kinds);
      made = allowed_after old.now new.now _ register done.sound done.edits
          ∙ ap (λ l. record (tables_of old.now) { allowed = l }) (map_filter allowed_in (λ r. not (p r)) (λ it. not (is_address_within network first last it)) rows (λ r here. ap not (passes r here)));
    }
  where
    sound : IsDatabase (record { schema = schema_with register.others; trees = old.now.trees })
    sound = subst (λ s. IsDatabase (record { schema = s; trees = old.now.trees })) register.schema_is register.sound

    kind_is : (r : Row) → Has (old.now.trees 10) r → is_true (binary (Compare Ne Binary) (column r 7) (Text route_kind)) ≡ not (bytes_eq (bytes_at r 7) route_kind)
    kind_is r here = ap (λ v. is_true (binary (Compare Ne Binary) v (Text route_kind))) (text_at (schema_with register.others) old.now.trees sound (allowed_table_at 10) (inr (inr (inr (inr (inr (inl refl)))))) r here 6 _ refl refl refl refl refl) ∙ differ_texts (bytes_at r 7) route_kind

    passes : (r : Row) → Has (old.now.trees 10) r → list_all (holds ((Int (pos network) ∷ Int (pos first) ∷ Int (pos last) ∷ []) ∷ r ∷ [])) of_address_range ≡ is_address_within network first last (allowed_in r)
    passes r here =
        let peer = register.written.allowed.numbers_are r here 6 (inr (inr (inr (inl refl)))) in
        let one : is_true (binary (Compare Eq Binary) (column r 1) (Int (pos network))) ≡ nat_eq (number_at r 1) network = ap (λ v. is_true (binary (Compare Eq Binary) v (Int (pos network)))) (register.written.allowed.numbers_are r here 1 (inl refl)) ∙ equal_nats (number_at r 1) network in
        let two : is_true (binary (Compare Ge Binary) (column r 6) (Int (pos first))) ≡ nat_le first (number_at r 6) = ap (λ v. is_true (binary (Compare Ge Binary) v (Int (pos first)))) peer ∙ at_least (number_at r 6) first in
        let three : is_true (binary (Compare Le Binary) (column r 6) (Int (pos last))) ≡ nat_le (number_at r 6) last = ap (λ v. is_true (binary (Compare Le Binary) v (Int (pos last)))) peer ∙ at_most (number_at r 6) last in
        λ k. one k && (two k && (three k && (and_true (is_true (binary (Compare Ne Binary) (column r 7) (Text route_kind))) ∙ kind_is r here) k))
