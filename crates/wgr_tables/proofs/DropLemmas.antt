-- Rows that are taken away.
use Rattle.std.proofs.Common.{◌≡◌, ℕ, pos, [], ◌∷◌, nat_eq, bytes_eq, true, not, ◌&&◌, Ok, refl, ap, ap₂, subst, ◌∙◌, inl, inr, sym}
use Rattle.std.specs.List.{list_all}
use Rattle.sqlite.specs.declared.types.Value.TheVariants.{Int, Text}
use Rattle.sqlite.specs.Order.{Row}
use Rattle.sqlite_value.specs.Order.{column}
use Rattle.sqlite.specs.Collation.TheVariants.{Binary}
use Rattle.sqlite.specs.Ops.{binary, is_true}
use Rattle.sqlite_sql.specs.declared.ops.BinaryOp.TheVariants.{Compare}
use Rattle.sqlite_sql.specs.declared.ops.CompareOp.TheVariants.{Eq, Ne}
use Rattle.sqlite.specs.Term.{holds}
use Rattle.sqlite.specs.State.{State, Executes}
use Rattle.sqlite_rules.specs.Lists.{Has}
use Rattle.sqlite.specs.Effect.{IsDatabase}
use Rattle.wgr_columns.specs.Layout.{schema_with, peer_table_at, allowed_table_at}
use Rattle.wgr_columns.specs.Decode.{IsKindAt, IsRegister, IsStatusRow, tables_of, peer_in, allowed_in, number_at, bytes_at, route_kind, peer_numbers, allowed_numbers, allowed_addresses}
use Rattle.wgr_tables.specs.TableSteps.{PeerGoes, AllowedGoes, is_peer, is_of_peer, is_address_of}
use Rattle.wgr_tables.proofs.Made.{Made}
use Rattle.wgr_sql.proofs.RowLemmas.{equal_nats, map_filter}
use Rattle.wgr_tables.proofs.EditLemmas.{peers_after, register_peers, allowed_after, register_allowed}
use Rattle.wgr_tables.proofs.WriteLemmas.{rows_deleted}
use Rattle.wgr_tables.proofs.WrittenLemmas.{each_filter, written_filter}
use Rattle.wgr_tables.proofs.Meanings.{drop_peer_text, drop_peer_means, of_peer_row, drop_allowed_text, drop_allowed_means, of_peer, drop_address_text, drop_address_means, of_address}
use Rattle.wgr_sql.proofs.TextLemmas.{text_at, differ_texts}
use Rattle.wgr_sql.proofs.Values.{and_true}

pub peer_gone : (old new : State) (register : IsRegister old.now) (network id count : ℕ) → Executes drop_peer_text (Int (pos network) ∷ Int (pos id) ∷ []) old new (Ok count) → Made (PeerGoes network id) old.now new.now
peer_gone old new register network id count ran =
    let params = Int (pos network) ∷ Int (pos id) ∷ [] in
    let rows = old.now.trees 8 in
    let p = λ (r : Row). list_all (holds (params ∷ r ∷ [])) of_peer_row in
    let done = rows_deleted old new register drop_peer_text params count ran 4 (peer_table_at 8) refl refl of_peer_row (drop_peer_means register.others) register.written.peers.keyed in
    record {
      schema = done.edits.schema_is ∙ sym register.schema_is;
      sound = register_peers old.now new.now _ register done.sound done.edits (written_filter peer_numbers [] [] (λ r. not (p r)) rows register.written.peers)
          (each_filter IsStatusRow (λ r. not (p r)) rows register.written.statuses);
      made = peers_after old.now new.now _ register done.sound done.edits
          ∙ ap (λ l. record (tables_of old.now) { peers = l }) (map_filter peer_in (λ r. not (p r)) (λ it. not (is_peer network id it)) rows (λ r here. ap not (passes r here)));
    }
  where
    passes : (r : Row) → Has (old.now.trees 8) r → list_all (holds ((Int (pos network) ∷ Int (pos id) ∷ []) ∷ r ∷ [])) of_peer_row ≡ is_peer network id (peer_in r)
    passes r here =
        ap₂ (λ x y. is_true (binary (Compare Eq Binary) x (Int (pos network))) && (is_true (binary (Compare Eq Binary) y (Int (pos id))) && true)) (register.written.peers.numbers_are r here 2 (inr (inl refl))) (register.written.peers.numbers_are r here 0 (inl refl))
        ∙ ap₂ (λ x y. x && y) (equal_nats (number_at r 2) network) (and_true _ ∙ equal_nats (number_at r 0) id)

pub allowed_gone : (old new : State) (register : IsRegister old.now) (network id count : ℕ) → Executes drop_allowed_text (Int (pos network) ∷ Int (pos id) ∷ []) old new (Ok count) → Made (AllowedGoes (is_of_peer network id)) old.now new.now
allowed_gone old new register network id count ran =
    let params = Int (pos network) ∷ Int (pos id) ∷ [] in
    let rows = old.now.trees 10 in
    let p = λ (r : Row). list_all (holds (params ∷ r ∷ [])) of_peer in
    let done = rows_deleted old new register drop_allowed_text params count ran 5 (allowed_table_at 10) refl refl of_peer (drop_allowed_means register.others) register.written.allowed.keyed in
    record {
      schema = done.edits.schema_is ∙ sym register.schema_is;
      sound = register_allowed old.now new.now _ register done.sound done.edits (written_filter allowed_numbers allowed_addresses (2 ∷ []) (λ r. not (p r)) rows register.written.allowed)
          (each_filter (λ r. IsKindAt r 7) (λ r. not (p r)) rows register.written.kinds);
      made = allowed_after old.now new.now _ register done.sound done.edits
          ∙ ap (λ l. record (tables_of old.now) { allowed = l }) (map_filter allowed_in (λ r. not (p r)) (λ it. not (is_of_peer network id it)) rows (λ r here. ap not (passes r here)));
    }
  where
    passes : (r : Row) → Has (old.now.trees 10) r → list_all (holds ((Int (pos network) ∷ Int (pos id) ∷ []) ∷ r ∷ [])) of_peer ≡ is_of_peer network id (allowed_in r)
    passes r here =
        ap₂ (λ x y. is_true (binary (Compare Eq Binary) x (Int (pos network))) && (is_true (binary (Compare Eq Binary) y (Int (pos id))) && true)) (register.written.allowed.numbers_are r here 1 (inl refl)) (register.written.allowed.numbers_are r here 6 (inr (inr (inr (inl refl)))))
        ∙ ap₂ (λ x y. x && y) (equal_nats (number_at r 1) network) (and_true _ ∙ equal_nats (number_at r 6) id)

pub address_gone : (old new : State) (register : IsRegister old.now) (network id count : ℕ) → Executes drop_address_text (Int (pos network) ∷ Int (pos id) ∷ []) old new (Ok count) → Made (AllowedGoes (is_address_of network id)) old.now new.now
address_gone old new register network id count ran =
    let params = Int (pos network) ∷ Int (pos id) ∷ [] in
    let rows = old.now.trees 10 in
    let p = λ (r : Row). list_all (holds (params ∷ r ∷ [])) of_address in
    let done = rows_deleted old new register drop_address_text params count ran 5 (allowed_table_at 10) refl refl of_address (drop_address_means register.others) register.written.allowed.keyed in
    record {
      schema = done.edits.schema_is ∙ sym register.schema_is;
      sound = register_allowed old.now new.now _ register done.sound done.edits (written_filter allowed_numbers allowed_addresses (2 ∷ []) (λ r. not (p r)) rows register.written.allowed)
          (each_filter (λ r. IsKindAt r 7) (λ r. not (p r)) rows register.written.kinds);
      made = allowed_after old.now new.now _ register done.sound done.edits
          ∙ ap (λ l. record (tables_of old.now) { allowed = l }) (map_filter allowed_in (λ r. not (p r)) (λ it. not (is_address_of network id it)) rows (λ r here. ap not (passes r here)));
    }
  where
    sound : IsDatabase (record { schema = schema_with register.others; trees = old.now.trees })
    sound = subst (λ s. IsDatabase (record { schema = s; trees = old.now.trees })) register.schema_is register.sound

    kind_is : (r : Row) → Has (old.now.trees 10) r → is_true (binary (Compare Ne Binary) (column r 7) (Text route_kind)) ≡ not (bytes_eq (bytes_at r 7) route_kind)
    kind_is r here = ap (λ v. is_true (binary (Compare Ne Binary) v (Text route_kind))) (text_at (schema_with register.others) old.now.trees sound (allowed_table_at 10) (inr (inr (inr (inr (inr (inl refl)))))) r here 6 _ refl refl refl refl refl) ∙ differ_texts (bytes_at r 7) route_kind

    passes : (r : Row) → Has (old.now.trees 10) r → list_all (holds ((Int (pos network) ∷ Int (pos id) ∷ []) ∷ r ∷ [])) of_address ≡ is_address_of network id (allowed_in r)
    passes r here =
        let at = λ (n place : ℕ). is_true (binary (Compare Eq Binary) (column r place) (Int (pos n))) in
        let one : at network 1 ≡ nat_eq (number_at r 1) network = ap (λ v. is_true (binary (Compare Eq Binary) v (Int (pos network)))) (register.written.allowed.numbers_are r here 1 (inl refl)) ∙ equal_nats (number_at r 1) network in
        let two : at id 6 ≡ nat_eq (number_at r 6) id = ap (λ v. is_true (binary (Compare Eq Binary) v (Int (pos id)))) (register.written.allowed.numbers_are r here 6 (inr (inr (inr (inl refl))))) ∙ equal_nats (number_at r 6) id in
        λ k. one k && (two k && (and_true (is_true (binary (Compare Ne Binary) (column r 7) (Text route_kind))) ∙ kind_is r here) k)
