-- What the rows of a sound register are, table by table.
use Rattle.std.proofs.Common.{◌≡◌, ◌≤◌, ℕ, codes, pos, Bool, true, false, List, [], ◌∷◌, length, map, nat_eq, refl, sym, ap, subst, ◌∙◌, inl, inr, arith, true≢false}
use Rattle.std.specs.List.{AllByRecursion, IsDistinct, list_any}
use Rattle.std.specs.Ordering.{int_eq}
use Rattle.std.proofs.lemmas.Bool.{false_from_ne_true}
use Rattle.std.proofs.lemmas.List.Sorted.{IsPermutation-sym}
use Rattle.std.proofs.Math.ListN.{length-map}
use Rattle.sqlite.specs.Effect.{Database, IsDatabase}
use Rattle.sqlite.specs.Order.{Row}
use Rattle.sqlite_value.specs.Order.{column}
use Rattle.sqlite_trees.proofs.ListLemmas.{all-map, all_from_map}
use Rattle.sqlite_rules.specs.Edit.{id_in}
use Rattle.sqlite_rules.specs.Lists as rules
use Rattle.sqlite_rules.proofs.ListLemmas.{all_from, all_has, some_from}
use Rattle.wgr_pool.proofs.PrefixLemmas.{nat_eq_is}
use Rattle.wgr_model.specs.Consistent.{IsDigest, IsNetworkEntry}
use Rattle.wgr_model.specs.Register.{Token, is_same}
use Rattle.wgr_model.specs.Laws.{Has}
use Rattle.wgr_model.specs.Rows.{NetworkRow, PeerRow, Tables, allowed_key, network_entry_of, number_in, same_allowed, same_pair}
use Rattle.wgr_model.proofs.CollectLemmas.{from_map, has_map}
use Rattle.wgr_model.proofs.GatherLemmas.{eqb_self}
use Rattle.wgr_model.proofs.SameLemmas.{has_permutation}
use Rattle.wgr_sql.specs.Named.{rows_named}
use Rattle.wgr_sql.proofs.Answers.{map-both}
use Rattle.wgr_columns.specs.Decode.{AreTrees, allowed_in, bytes_at, network_in, number_at, peer_in, second_in, tables_of, tenant_in, token_in}
use Rattle.wgr_core.specs.Network.{NetworkValue}
use Rattle.wgr_tables.specs.Stored.{IsStored}
use Rattle.wgr_tables.proofs.RouteRests.{allowed_self}
use Rattle.wgr_tables.proofs.UniqueLemmas.{from_model, to_model}
use Rattle.wgr_schema.specs.Versions.{IsOfVersion}
use Rattle.wgr_schema.specs.declared.version.Version.TheVariants.{Three}
use Rattle.wgr_schema.proofs.VersionLemmas.{meta_read}
use Rattle.wgr_columns.specs.LaidOut.{IsLaidOut}
use Rattle.wgr_columns.specs.Fields.{IsDigestAt, IsIntegerAt}
use Rattle.wgr_columns.specs.Layout.{schema_with, token_table_at}
use Rattle.wgr_sql.proofs.Values.{blob_at}
use Rattle.wgr_checks.specs.Laws.{HasGoodValues}
use Rattle.wgr_checks.specs.TenantRows.{AreGoodTenants, AreIdsOf}
use Rattle.wgr_checks.specs.TokenRows.{AreGoodTokens, HaveOwnDigests}
use Rattle.wgr_checks.specs.NetworkRows.{AreGoodNetworks}
use Rattle.wgr_checks.proofs.TenantLaws.{good_is, sound}
use Rattle.wgr_checks.proofs.NetworkLaws.{good_networks_are}
use Rattle.wgr_checks.proofs.TokenLaws.{good_tokens_are}
use Rattle.wgr_checks.proofs.ReaderLaws.{good_readers_are}
use Rattle.wgr_checks.specs.ReaderRows.{AreGoodReaders}
use Rattle.wgr_checks.proofs.TokenLemmas.{int_is}
use Rattle.wgr_checks.specs.PeerRows.{AreWrittenPeers, IsPeerRow}
use Rattle.wgr_checks.specs.AllowedRows.{AreWrittenAllowed, IsAllowedRow}
use Rattle.wgr_opening.specs.Good.{AreLaterGood, HasSoundRows, StoresNetwork, as_third}
use Rattle.wgr_opening.specs.Whole.{AreWhole, IsThere}
use Rattle.wgr_opening.proofs.ConsistentLemmas.{consistent_is_whole, network_entry, pair_self}

-- where no row stands twice, what tells the rows apart is told apart with them
keys_apart : {A B C : Type 0} (f : A → B) (e : B → B → Bool) → ((b : B) → e b b ≡ true) → (g : A → C) (d : C → C → Bool) → (xs : List A) → ((x y : A) → rules.Has xs x → rules.Has xs y → d (g x) (g y) ≡ true → x ≡ y) → IsDistinct e (map f xs) → IsDistinct d (map g xs)
unfolding IsDistinct
keys_apart f e itself g d [] once apart = tt
keys_apart f e itself g d (x ∷ xs) once apart = (
  all-map (λ y. d (g x) y ≡ false) g xs (all_from (λ y. d (g x) (g y) ≡ false) xs (λ y here. false_from_ne_true _ (λ same.
      let one = once x y (inl refl) (inr here) same in
      let other = all_has (λ z. e (f x) (f z) ≡ false) xs y (all_from_map (λ z. e (f x) z ≡ false) f xs apart.0) here in
      true≢false (sym (itself (f x)) ∙ ap (λ z. e (f x) (f z)) one ∙ other)))),
  keys_apart f e itself g d xs (λ a b h k. once a b (inr h) (inr k)) apart.1,
)

-- of `meta` a network's rows say nothing
pub stored_third : (t : Tables) (id : ℕ) (n : NetworkValue) → IsStored t id n → IsStored (as_third t) id n
stored_third t id n told = record { row = told.row; there = told.there; id_is = told.id_is; value = told.value; rules = told.rules; forms = told.forms; host = told.host; peers = told.peers; addresses = told.addresses; routes = told.routes }

stored_before : (t : Tables) (id : ℕ) (n : NetworkValue) → IsStored (as_third t) id n → IsStored t id n
stored_before t id n told = record { row = told.row; there = told.there; id_is = told.id_is; value = told.value; rules = told.rules; forms = told.forms; host = told.host; peers = told.peers; addresses = told.addresses; routes = told.routes }

none_from : {A B : Type 0} (f : A → B) (xs : List A) → map f xs ≡ [] → xs ≡ []
none_from f [] none = refl
none_from f (x ∷ xs) none = absurd (let e = none in cc)

module _ (db : Database) (good : HasSoundRows db) where
  abbrev t : Tables
  t = as_third (tables_of db)

  laid : IsLaidOut db.schema
  laid = record { others = good.register.others; schema_is = good.register.schema_is; apart = good.register.apart }

  database : IsDatabase db
  database = good.register.sound

  abbrev written : AreTrees db.trees
  written = good.register.written

  whole : AreWhole t
  whole = consistent_is_whole t good.consistent

  pub good_tenants : AreGoodTenants (db.trees 1)
  good_tenants = (good_is db laid database).1 (record { written = written.tenants; each = whole.tenants.each; ids = whole.tenants.ids; names = whole.tenants.names })

  pub few_tenants : length (db.trees 1) ≤ 65536
  few_tenants = subst (λ n. n ≤ 65536) (length-map (db.trees 1) tenant_in) whole.tenants.few

  pub good_tokens : (ids : List ℕ) → AreIdsOf (db.trees 1) ids → AreGoodTokens ids (db.trees 3)
  good_tokens ids are = (good_tokens_are db laid database good_tenants ids are).1
      (record { written = written.tokens; each = whole.tokens.each; digests = whole.tokens.digests; owners = whole.tokens.owners; few = whole.tokens.few })

  settled : (w : NetworkRow) → IsNetworkEntry (network_entry_of t w) → HasGoodValues w
  settled w is = record { id = is.id; name = is.name; pool = is.rules.pool; host = is.host; port = is.rules.port; server = is.forms.0; capacity = is.rules.capacity; next = omega (arith, is.rules.next.1) }

  pub good_networks : (ids : List ℕ) → AreIdsOf (db.trees 1) ids → AreGoodNetworks ids (db.trees 5)
  good_networks ids are = (good_networks_are db laid database good_tenants ids are).1 (record {
    written = written.networks;
    each = all_from HasGoodValues t.networks (λ w here. settled w (network_entry t good.consistent w (to_model t.networks w here)));
    ids = whole.networks.ids;
    slots = whole.networks.slots;
    endpoints = whole.networks.endpoints;
    pools = whole.networks.pools;
    owners = whole.networks.owners;
    few = whole.networks.few;
  })

  module _ (ids : List ℕ) (are : AreIdsOf (db.trees 5) ids) where
    among : (owner : ℕ) → IsThere t owner → list_any (λ id. nat_eq owner id) ids ≡ true
    among owner (w, here, same) =
        let listed = subst (λ l. Has l w.id) (map-both network_in (λ (x : NetworkRow). x.id) (db.trees 5)) (has_map (λ (x : NetworkRow). x.id) t.networks w here) in
        let there = has_permutation (map (λ r. number_at r 0) (db.trees 5)) ids w.id are.same listed in
        some_from (λ id. nat_eq owner id) ids w.id (from_model ids w.id there) (subst (λ i. nat_eq i w.id ≡ true) same (eqb_self w.id))

    peer_row_is : (r : Row) → rules.Has (db.trees 8) r → IsPeerRow r
    peer_row_is r here =
        let number = written.peers.numbers_are r here in
        record { id = number 0 (inl refl); network = number 2 (inr (inl refl)); until = number 5 (inr (inr (inl refl))); keepalive = number 6 (inr (inr (inr (inl refl)))); status = written.statuses r here }

    peer_once : (x y : Row) → rules.Has (db.trees 8) x → rules.Has (db.trees 8) y → nat_eq (number_at x 0) (number_at y 0) ≡ true → x ≡ y
    peer_once x y h k same = written.peers.keyed.once x y h k
        (ap id_in (written.peers.numbers_are x h 0 (inl refl)) ∙ ap (λ n. pos n) (nat_eq_is (number_at x 0) (number_at y 0) same) ∙ sym (ap id_in (written.peers.numbers_are y k 0 (inl refl))))

    pub written_peers : AreWrittenPeers ids (db.trees 8)
    written_peers = record {
      each = all_from IsPeerRow (db.trees 8) peer_row_is;
      ids = keys_apart (λ r. (number_at r 2, number_in (number_at r 2) (number_at r 0))) same_pair pair_self (λ r. number_at r 0) nat_eq (db.trees 8) peer_once
          (subst (IsDistinct same_pair) (map-both peer_in (λ (p : PeerRow). (p.network, number_in p.network p.id)) (db.trees 8)) good.consistent.rows.keyed.peer_keys);
      among = all-map (λ owner. list_any (λ id. nat_eq owner id) ids ≡ true) (λ r. number_at r 2) (db.trees 8)
          (all_from (λ r. list_any (λ id. nat_eq (number_at r 2) id) ids ≡ true) (db.trees 8) (λ r here. among (number_at r 2) (whole.peers (peer_in r) (has_map peer_in (db.trees 8) r (to_model (db.trees 8) r here)))));
    }

    allowed_row_is : (r : Row) → rules.Has (db.trees 10) r → IsAllowedRow r
    allowed_row_is r here =
        let number = written.allowed.numbers_are r here in
        let address = written.allowed.addresses_are r here in
        record {
          network = number 1 (inl refl);
          family = (number 2 (inr (inl refl)), written.allowed.families_are r here 2 (inl refl));
          lo = address 3 (inl refl);
          length = number 4 (inr (inr (inl refl)));
          hi = address 5 (inr (inl refl));
          peer = number 6 (inr (inr (inr (inl refl))));
          kind = written.kinds r here;
        }

    pub written_allowed : AreWrittenAllowed ids (db.trees 10)
    written_allowed = record {
      own_rowids = record {
        each = all_from (λ r. IsIntegerAt r 0) (db.trees 10) written.allowed.keyed.ints;
        rowids = keys_apart (λ r. allowed_key (allowed_in r)) same_allowed allowed_self (λ r. id_in (column r 0)) int_eq (db.trees 10)
            (λ x y h k same. written.allowed.keyed.once x y h k (int_is (id_in (column x 0)) (id_in (column y 0)) same))
            (subst (IsDistinct same_allowed) (map-both allowed_in allowed_key (db.trees 10)) good.consistent.rows.keyed.allowed_keys);
      };
      each = all_from IsAllowedRow (db.trees 10) allowed_row_is;
      among = all-map (λ owner. list_any (λ id. nat_eq owner id) ids ≡ true) (λ r. number_at r 1) (db.trees 10)
          (all_from (λ r. list_any (λ id. nat_eq (number_at r 1) id) ids ≡ true) (db.trees 10) (λ r here. among (number_at r 1) (whole.allowed (allowed_in r) (has_map allowed_in (db.trees 10) r (to_model (db.trees 10) r here)))));
    }

    stored_at : (id : ℕ) → StoresNetwork t id → StoresNetwork (tables_of db) id
    stored_at id told = (told.0, stored_before (tables_of db) id told.0 told.1)

    pub all_told : AllByRecursion (StoresNetwork (tables_of db)) ids
    all_told = all_from (StoresNetwork (tables_of db)) ids (λ id here. stored_at id (
        let listed = has_permutation ids (map (λ r. number_at r 0) (db.trees 5)) id (IsPermutation-sym (map (λ r. number_at r 0) (db.trees 5)) ids are.same) (to_model ids id here) in
        let row = from_map (λ (r : Row). number_at r 0) (db.trees 5) id listed in
        subst (StoresNetwork t) row.2 (whole.stored (network_in row.0) (has_map network_in (db.trees 5) row.0 row.1))))

  pub no_seconds : rows_named db (codes "second") ≡ []
  no_seconds = none_from second_in (rows_named db (codes "second")) whole.seconds

  -- the digests of its tokens are good
  pub own_digests : HaveOwnDigests (db.trees 3)
  own_digests =
      let each = all_from_map (λ t. IsDigest t.digest) token_in (db.trees 3) whole.tokens.each in
      record {
        few = subst (λ n. n ≤ 65536) (length-map (db.trees 3) token_in) whole.tokens.few;
        each = all_from (λ r. IsDigestAt r 1) (db.trees 3) (λ r here. (
          blob_at (schema_with laid.others) db.trees (sound db laid database) (token_table_at 3) (inr (inr (inl refl))) r here 0 _ refl refl refl refl refl,
          all_has (λ x. IsDigest (bytes_at x 1)) (db.trees 3) r each here,
        ));
        digests = subst (IsDistinct is_same) (map-both token_in (λ (t : Token). t.digest) (db.trees 3)) whole.tokens.digests;
      }

  -- one of the third version has the table of tokens that only read
  pub later_good : IsOfVersion Three db → AreLaterGood db
  later_good third = record {
    seconds = no_seconds;
    readers = (good_readers_are db third.2.1 database own_digests).1 (record {
      written = (good.register.later (meta_read Three db third.1)).readers;
      apart = whole.readers.digests;
      among = whole.readers.tokens;
    });
  }

-- where there is none that only reads, nothing is asked of the tokens
pub none_reads : (tokens rows : List Row) → rows ≡ [] → AreGoodReaders tokens rows
unfolding IsDistinct
none_reads tokens rows none = subst (AreGoodReaders tokens) (sym none) (record { own_rowids = record { each = tt; rowids = tt }; of_tokens = record { each = tt; digests = tt; among = tt } })
