-- Rows that go.
use Rattle.std.proofs.Common.{◌≡◌, ◌↔◌, ℕ, pos, List, [], ◌∷◌, nat_eq, Bool, true, false, not, ◌&&◌, Ok, refl, sym, ap, subst, ◌∙◌, inl, inr}
use Rattle.std.specs.List.{filter, list_all}
use Rattle.std.proofs.lemmas.List.Sorted.{IsPermutation-refl}
use Rattle.sqlite.specs.declared.types.Value.TheVariants.{Int, Blob}
use Rattle.sqlite.specs.Order.{Row}
use Rattle.sqlite.specs.Collation.TheVariants.{Binary}
use Rattle.sqlite.specs.Ops.{binary, is_true}
use Rattle.sqlite_sql.specs.declared.ops.BinaryOp.TheVariants.{Compare}
use Rattle.sqlite_sql.specs.declared.ops.CompareOp.TheVariants.{Eq}
use Rattle.sqlite.specs.Term.{holds}
use Rattle.sqlite.specs.Effect.{IsDatabase}
use Rattle.sqlite.specs.State.{State, Executes}
use Rattle.sqlite_rules.specs.Lists.{Has}
use Rattle.wgr_model.specs.Laws as model
use Rattle.wgr_model.specs.Register.{Bytes, is_same}
use Rattle.wgr_model.specs.Rows.{PeerRow, AllowedRow, Tables, AreKeyed}
use Rattle.wgr_model.specs.RowRules.{Removes}
use Rattle.wgr_model.proofs.GatherLemmas.{in_filter}
use Rattle.wgr_model.proofs.LookLemmas.{is_same_sym}
use Rattle.wgr_model.proofs.OrderLemmas.{from_filter}
use Rattle.wgr_sql.proofs.RowLemmas.{equal_nats, map_filter}
use Rattle.wgr_sql.proofs.Values.{and_true, blob_at}
use Rattle.wgr_columns.specs.Layout.{schema_with, token_table_at, network_table_at, peer_table_at, allowed_table_at}
use Rattle.wgr_columns.specs.Decode.{IsKindAt, IsStatusRow, IsRegister, tables_of, token_in, network_in, peer_in, allowed_in, number_at, bytes_at, network_numbers, peer_numbers, allowed_numbers, allowed_addresses}
use Rattle.wgr_tables.proofs.EditLemmas.{tokens_after, register_tokens, networks_after, register_networks, peers_after, register_peers, allowed_after, register_allowed}
use Rattle.wgr_tables.proofs.LeftRows.{rows_keyed, not_true, not_false}
use Rattle.wgr_tables.proofs.Made.{Made}
use Rattle.wgr_tables.proofs.SameBytes.{same_blobs}
use Rattle.wgr_tables.proofs.WriteLemmas.{rows_deleted}
use Rattle.wgr_tables.proofs.WrittenLemmas.{each_filter, written_filter}
use Rattle.wgr_entries.specs.OrderSteps.{NetworkAllowedGoes, NetworkGoes, NetworkRowGoes, NetworkPeersGo, TokenRowGoes}
use Rattle.wgr_entries.proofs.Meanings.{drop_token_text, drop_token_means, drop_allowed_text, drop_allowed_means, drop_peers_text, drop_peers_means, drop_network_text, drop_network_means, at_place}

pub token_gone : (old new : State) (register : IsRegister old.now) (digest : Bytes) (count : ℕ) → Executes drop_token_text (Blob digest ∷ []) old new (Ok count) → Made (TokenRowGoes digest) old.now new.now
token_gone old new register digest count ran =
    let params : Row = Blob digest ∷ [] in
    let rows = old.now.trees 3 in
    let p = λ (r : Row). list_all (holds (params ∷ r ∷ [])) (at_place 1) in
    let done = rows_deleted old new register drop_token_text params count ran 2 (token_table_at 3) refl refl (at_place 1) (drop_token_means register.others) register.written.tokens.keyed in
    record {
      schema = done.edits.schema_is ∙ sym register.schema_is;
      sound = register_tokens old.now new.now _ register done.sound done.edits (written_filter (2 ∷ []) [] [] (λ r. not (p r)) rows register.written.tokens);
      made = tokens_after old.now new.now _ register done.sound done.edits
          ∙ ap (λ l. record (tables_of old.now) { tokens = l }) (map_filter token_in (λ r. not (p r)) (λ x. not (is_same digest x.digest)) rows (λ r here. ap not (passes r here)));
    }
  where
    sound : IsDatabase (record { schema = schema_with register.others; trees = old.now.trees })
    sound = subst (λ s. IsDatabase (record { schema = s; trees = old.now.trees })) register.schema_is register.sound

    passes : (r : Row) → Has (old.now.trees 3) r → list_all (holds ((Blob digest ∷ []) ∷ r ∷ [])) (at_place 1) ≡ is_same digest (bytes_at r 1)
    passes r here =
        ap (λ v. is_true (binary (Compare Eq Binary) v (Blob digest)) && true) (blob_at (schema_with register.others) old.now.trees sound (token_table_at 3) (inr (inr (inl refl))) r here 0 _ refl refl refl refl refl)
        ∙ and_true _ ∙ same_blobs (bytes_at r 1) digest ∙ is_same_sym (bytes_at r 1) digest

module _ (old new : State) (register : IsRegister old.now) (id count : ℕ) where
  abbrev params : Row
  params = Int (pos id) ∷ []

  pub allowed_gone : Executes drop_allowed_text params old new (Ok count) → Made (NetworkAllowedGoes id) old.now new.now
  allowed_gone ran =
      let rows = old.now.trees 10 in
      let p = λ (r : Row). list_all (holds (params ∷ r ∷ [])) (at_place 1) in
      let done = rows_deleted old new register drop_allowed_text params count ran 5 (allowed_table_at 10) refl refl (at_place 1) (drop_allowed_means register.others) register.written.allowed.keyed in
      record {
        schema = done.edits.schema_is ∙ sym register.schema_is;
        sound = register_allowed old.now new.now _ register done.sound done.edits (written_filter allowed_numbers allowed_addresses (2 ∷ []) (λ r. not (p r)) rows register.written.allowed)
            (each_filter (λ r. IsKindAt r 7) (λ r. not (p r)) rows register.written.kinds);
        made = allowed_after old.now new.now _ register done.sound done.edits
            ∙ ap (λ l. record (tables_of old.now) { allowed = l }) (map_filter allowed_in (λ r. not (p r)) (λ a. not (nat_eq a.network id)) rows
            (λ r here. ap not (ap (λ v. is_true (binary (Compare Eq Binary) v (Int (pos id))) && true) (register.written.allowed.numbers_are r here 1 (inl refl)) ∙ and_true _ ∙ equal_nats (number_at r 1) id)));
      }

  pub peers_gone : Executes drop_peers_text params old new (Ok count) → Made (NetworkPeersGo id) old.now new.now
  peers_gone ran =
      let rows = old.now.trees 8 in
      let p = λ (r : Row). list_all (holds (params ∷ r ∷ [])) (at_place 2) in
      let done = rows_deleted old new register drop_peers_text params count ran 4 (peer_table_at 8) refl refl (at_place 2) (drop_peers_means register.others) register.written.peers.keyed in
      record {
        schema = done.edits.schema_is ∙ sym register.schema_is;
        sound = register_peers old.now new.now _ register done.sound done.edits (written_filter peer_numbers [] [] (λ r. not (p r)) rows register.written.peers)
            (each_filter IsStatusRow (λ r. not (p r)) rows register.written.statuses);
        made = peers_after old.now new.now _ register done.sound done.edits
            ∙ ap (λ l. record (tables_of old.now) { peers = l }) (map_filter peer_in (λ r. not (p r)) (λ a. not (nat_eq a.network id)) rows
            (λ r here. ap not (ap (λ v. is_true (binary (Compare Eq Binary) v (Int (pos id))) && true) (register.written.peers.numbers_are r here 2 (inr (inl refl))) ∙ and_true _ ∙ equal_nats (number_at r 2) id)));
      }

  pub network_gone : Executes drop_network_text params old new (Ok count) → Made (NetworkRowGoes id) old.now new.now
  network_gone ran =
      let rows = old.now.trees 5 in
      let p = λ (r : Row). list_all (holds (params ∷ r ∷ [])) (at_place 0) in
      let done = rows_deleted old new register drop_network_text params count ran 3 (network_table_at 5) refl refl (at_place 0) (drop_network_means register.others) register.written.networks.keyed in
      record {
        schema = done.edits.schema_is ∙ sym register.schema_is;
        sound = register_networks old.now new.now _ register done.sound done.edits (written_filter network_numbers (5 ∷ []) (4 ∷ []) (λ r. not (p r)) rows register.written.networks);
        made = networks_after old.now new.now _ register done.sound done.edits
            ∙ ap (λ l. record (tables_of old.now) { networks = l }) (map_filter network_in (λ r. not (p r)) (λ w. not (nat_eq w.id id)) rows
            (λ r here. ap not (ap (λ v. is_true (binary (Compare Eq Binary) v (Int (pos id))) && true) (register.written.networks.numbers_are r here 0 (inl refl)) ∙ and_true _ ∙ equal_nats (number_at r 0) id)));
      }

-- the three take all rows of the network away
pub network_removed : (id : ℕ) (t u : Tables) → AreKeyed t → NetworkGoes id t u → Removes id t u
network_removed id t u keyed (m, first, (n, second, third)) =
    subst (Removes id t) (sym whole) (record {
      meta = refl;
      tenants = refl;
      tokens = refl;
      networks = IsPermutation-refl _;
      seconds = refl;
      readers = refl;
      peers = λ a. left (λ (p : PeerRow). nat_eq p.network id) t.peers a;
      allowed = λ a. left (λ (p : AllowedRow). nat_eq p.network id) t.allowed a;
      keyed = let k = rows_keyed (λ p. nat_eq p.network id) (λ a. nat_eq a.network id) t keyed in record { peer_keys = k.peer_keys; allowed_keys = k.allowed_keys; address_keys = k.address_keys };
    })
  where
    whole : u ≡ record t { networks = filter (λ w. not (nat_eq w.id id)) t.networks; peers = filter (λ p. not (nat_eq p.network id)) t.peers; allowed = filter (λ a. not (nat_eq a.network id)) t.allowed }
    whole = third ∙ ap (λ (x : Tables). record x { networks = filter (λ w. not (nat_eq w.id id)) x.networks }) (second ∙ ap (λ (x : Tables). record x { peers = filter (λ p. not (nat_eq p.network id)) x.peers }) first)

    left : {A : Type 0} (gone : A → Bool) (rows : List A) (a : A) → model.Has (filter (λ x. not (gone x)) rows) a ↔ (model.Has rows a × (gone a ≡ false))
    left gone rows a = (
      (λ h. let f = from_filter (λ x. not (gone x)) rows a h in (f.0, not_false (gone a) f.1)),
      (λ h. in_filter (λ x. not (gone x)) rows a h.0 (not_true (gone a) h.1)),
    )
