-- Rows that are whole are those of a consistent register.
use Rattle.std.proofs.Common.{◌≡◌, ◌≤◌, ℕ, Bool, true, false, not, ◌&&◌, List, [], ◌∷◌, map, filter, nat_eq, refl, sym, ap, ap₂, subst, ◌∙◌, inl, inr, true≢false, IsPermutation}
use Rattle.std.specs.List.{AllByRecursion, IsDistinct}
use Rattle.std.proofs.lemmas.List.Sorted.{IsPermutation-map, IsPermutation-refl, IsPermutation-sym}
use Rattle.std.proofs.lemmas.Map.Keys.{IsDistinct-IsPermutation}
use Rattle.std.proofs.Math.ListN.{length-map}
use Rattle.wgr_core.specs.Forms.{HasForms}
use Rattle.wgr_core.specs.Network.{IsNetwork, NetworkValue}
use Rattle.wgr_model.specs.Consistent.{IsConsistent, IsNetworkEntry, endpoint, has_tenant, overlaps, pool_of, same_endpoint, same_slot, slot}
use Rattle.wgr_model.specs.Laws.{Has}
use Rattle.wgr_model.specs.Register.{NetworkEntry}
use Rattle.wgr_model.specs.Rows.{AllowedRow, AreKeyed, AreRowsOf, NetworkRow, PeerRow, Tables, address_row, allowed_key, allowed_rows, network_entry_of, network_row, number_in, peer_row, peer_rows, register_of, route_row, same_allowed, same_pair}
use Rattle.wgr_model.proofs.CollectLemmas.{from_append, from_flat, from_map, has_flat, has_left, has_map, has_right}
use Rattle.wgr_model.proofs.ExistLemmas.{peers_apart, owners_apart, addresses_apart, routes_apart, kinds_apart, pair_by_id}
use Rattle.wgr_model.proofs.GatherLemmas.{eqb_self, in_filter, map_map}
use Rattle.wgr_model.proofs.HolderLemmas.{one_or_apart}
use Rattle.wgr_model.proofs.OrderLemmas.{from_filter}
use Rattle.wgr_model.proofs.SameLemmas.{at_has, eqb_sym, has_permutation}
use Rattle.wgr_tables.specs.Stored.{IsStored}
use Rattle.wgr_tables.proofs.LoadLemmas.{network_is_read}
use Rattle.wgr_model.specs.RowLaws.{AreConsistent}
use Rattle.wgr_opening.specs.Whole.{AreWhole, IsNamed, IsThere}
use Rattle.wgr_opening.proofs.ApartLemmas.{by_parts, filter_both}

-- ---- keys read the same both ways

pair_sym : (a b : ℕ × ℕ) → same_pair a b ≡ same_pair b a
pair_sym a b = ap₂ (λ x y. x && y) (eqb_sym a.0 b.0) (eqb_sym a.1 b.1)

allowed_sym : (a b : ℕ × ℕ × ℕ × ℕ) → same_allowed a b ≡ same_allowed b a
allowed_sym a b = λ i. eqb_sym a.0 b.0 i && eqb_sym a.1 b.1 i && eqb_sym a.2 b.2 i && eqb_sym a.3 b.3 i

apart_in : {A B : Type 0} (e : B → B → Bool) → ((x y : B) → e x y ≡ e y x) → (f : A → B) (xs ys : List A) → IsPermutation xs ys → IsDistinct e (map f ys) → IsDistinct e (map f xs)
apart_in e flips f xs ys p u = IsDistinct-IsPermutation e flips (map f ys) (map f xs) (IsPermutation-map f ys xs (IsPermutation-sym xs ys p)) u

-- ---- the rows of one network

abbrev peers_at : Tables → ℕ → List PeerRow
peers_at t i = filter (λ p. nat_eq p.network i) t.peers

abbrev addresses_at : Tables → ℕ → List AllowedRow
addresses_at t i = filter (λ a. nat_eq a.network i && not a.is_route) t.allowed

abbrev routes_at : Tables → ℕ → List AllowedRow
routes_at t i = filter (λ a. a.is_route && nat_eq a.network i) t.allowed

-- a network of this id, of whichever tenant
abbrev held : ℕ → NetworkValue → NetworkEntry
held i n = record { id = i; tenant = 0; name = []; network = n }

module _ (t : Tables) (i : ℕ) (n : NetworkValue) (told : IsStored t i n) where
  own_peers_apart : IsDistinct same_pair (map (λ p. (p.network, number_in p.network p.id)) (peers_at t i))
  own_peers_apart = apart_in same_pair pair_sym (λ p. (p.network, number_in p.network p.id)) (peers_at t i) (map (peer_row i) n.peers) told.peers (peers_apart (held i n) told.rules)

  own_owners_apart : IsDistinct same_pair (map (λ a. (a.network, a.peer)) (addresses_at t i))
  own_owners_apart = apart_in same_pair pair_sym (λ a. (a.network, a.peer)) (addresses_at t i) (map (address_row i) n.peers) told.addresses (owners_apart (held i n) told.rules)

  own_addresses_apart : IsDistinct same_allowed (map allowed_key (addresses_at t i))
  own_addresses_apart = apart_in same_allowed allowed_sym allowed_key (addresses_at t i) (map (address_row i) n.peers) told.addresses (addresses_apart (held i n) told.rules)

  own_routes_apart : IsDistinct same_allowed (map allowed_key (routes_at t i))
  own_routes_apart = apart_in same_allowed allowed_sym allowed_key (routes_at t i) (map (route_row i) n.routes) told.routes (routes_apart (held i n) told.rules)

  address_and_route : (a b : AllowedRow) → Has (addresses_at t i) a → Has (routes_at t i) b → same_allowed (allowed_key a) (allowed_key b) ≡ false
  address_and_route a b at there = kinds_apart (held i n) told.rules a b (has_permutation (addresses_at t i) (map (address_row i) n.peers) a told.addresses at) (has_permutation (routes_at t i) (map (route_row i) n.routes) b told.routes there)

-- ---- all rows

-- the part of a row of `allowed`: those of its network and of its kind
abbrev part_of : Bool → ℕ → AllowedRow → Bool
part_of true i b = b.is_route && nat_eq b.network i
part_of false i b = nat_eq b.network i && not b.is_route

of_own_part : (a : AllowedRow) → part_of a.is_route a.network a ≡ true
of_own_part a = go a.is_route refl where
  go : (r : Bool) → a.is_route ≡ r → part_of r a.network a ≡ true
  go true e = ap₂ (λ x y. x && y) e (eqb_self a.network)
  go false e = ap₂ (λ x y. x && not y) (eqb_self a.network) e

by_network : (a b : AllowedRow) → nat_eq b.network a.network ≡ false → same_allowed (allowed_key a) (allowed_key b) ≡ false
by_network a b other = ap (λ x. x && nat_eq (allowed_key a).1 (allowed_key b).1 && nat_eq (allowed_key a).2 (allowed_key b).2 && nat_eq (allowed_key a).3 (allowed_key b).3) (eqb_sym a.network b.network ∙ other)

module _ (t : Tables) (whole : AreWhole t) where
  -- what the rows of a network that is there tell
  at : (i : ℕ) → IsThere t i → (n : NetworkValue) × IsStored t i n
  at i there = let found = whole.stored there.0 there.1 in (found.0, subst (λ j. IsStored t j found.0) there.2 found.1)

  peer_keys : IsDistinct same_pair (map (λ p. (p.network, number_in p.network p.id)) t.peers)
  peer_keys = by_parts same_pair (λ (p : PeerRow). (p.network, number_in p.network p.id)) (λ a b. nat_eq b.network a.network) (λ a. eqb_self a.network) t.peers
      (λ a here. let told = at a.network (whole.peers a here) in own_peers_apart t a.network told.0 told.1)
      (λ a b here there other. pair_by_id a.network b.network (number_in a.network a.id) (number_in b.network b.id) (eqb_sym a.network b.network ∙ other))

  address_keys : IsDistinct same_pair (map (λ a. (a.network, a.peer)) (filter (λ a. not a.is_route) t.allowed))
  address_keys = by_parts same_pair (λ (a : AllowedRow). (a.network, a.peer)) (λ a b. nat_eq b.network a.network) (λ a. eqb_self a.network) (filter (λ a. not a.is_route) t.allowed)
      (λ a here.
      let told = at a.network (whole.allowed a (from_filter (λ x. not x.is_route) t.allowed a here).0) in
      subst (λ rows. IsDistinct same_pair (map (λ (x : AllowedRow). (x.network, x.peer)) rows)) (sym (filter_both (λ (x : AllowedRow). nat_eq x.network a.network) (λ x. not x.is_route) t.allowed)) (own_owners_apart t a.network told.0 told.1))
      (λ a b here there other. pair_by_id a.network b.network a.peer b.peer (eqb_sym a.network b.network ∙ other))

  part_apart : (r : Bool) (i : ℕ) → IsThere t i → IsDistinct same_allowed (map allowed_key (filter (part_of r i) t.allowed))
  part_apart true i there = let told = at i there in own_routes_apart t i told.0 told.1
  part_apart false i there = let told = at i there in own_addresses_apart t i told.0 told.1

  parts_apart : (a b : AllowedRow) → Has t.allowed a → Has t.allowed b → part_of a.is_route a.network b ≡ false → same_allowed (allowed_key a) (allowed_key b) ≡ false
  parts_apart a b here there other = by_kind a.is_route b.is_route refl refl (nat_eq b.network a.network) refl where
    told : (n : NetworkValue) × IsStored t a.network n
    told = at a.network (whole.allowed a here)

    by_kind : (r s : Bool) → a.is_route ≡ r → b.is_route ≡ s → (same : Bool) → nat_eq b.network a.network ≡ same → same_allowed (allowed_key a) (allowed_key b) ≡ false
    by_kind r s e f false apart = by_network a b apart
    by_kind true true e f true one = absurd (true≢false (sym (ap₂ (λ x y. x && y) f one) ∙ sym (ap (λ k. part_of k a.network b) e) ∙ other))
    by_kind false false e f true one = absurd (true≢false (sym (ap₂ (λ x y. x && not y) one f) ∙ sym (ap (λ k. part_of k a.network b) e) ∙ other))
    by_kind false true e f true one = address_and_route t a.network told.0 told.1 a b
        (in_filter (λ x. nat_eq x.network a.network && not x.is_route) t.allowed a here (ap₂ (λ x y. x && not y) (eqb_self a.network) e))
        (in_filter (λ x. x.is_route && nat_eq x.network a.network) t.allowed b there (ap₂ (λ x y. x && y) f one))
    by_kind true false e f true one = allowed_sym (allowed_key a) (allowed_key b) ∙ address_and_route t a.network told.0 told.1 b a
        (in_filter (λ x. nat_eq x.network a.network && not x.is_route) t.allowed b there (ap₂ (λ x y. x && not y) one f))
        (in_filter (λ x. x.is_route && nat_eq x.network a.network) t.allowed a here (ap₂ (λ x y. x && y) e (eqb_self a.network)))

  keyed : AreKeyed t
  keyed = record {
    peer_keys = peer_keys;
    allowed_keys = by_parts same_allowed allowed_key (λ a. part_of a.is_route a.network) of_own_part t.allowed (λ a here. part_apart a.is_route a.network (whole.allowed a here)) parts_apart;
    address_keys = address_keys;
  }

  -- ---- each network, as it is read

  module _ (w : NetworkRow) (here : Has t.networks w) where
    told_at : (n : NetworkValue) × IsStored t w.id n
    told_at = whole.stored w here

    row_is : told_at.1.row ≡ w
    row_is = elim (one_or_apart (λ (x : NetworkRow). x.id) nat_eq eqb_sym t.networks told_at.1.row w whole.networks.ids told_at.1.there here) [
      | inl one ↦ one
      | inr other ↦ absurd (true≢false (sym (eqb_self w.id) ∙ sym (ap (λ i. nat_eq i w.id) told_at.1.id_is) ∙ other))
    ]

    is_read : told_at.0 ≡ (network_entry_of t w).network
    is_read = network_is_read t w w.id refl keyed told_at.0.peers told_at.0.routes told_at.0
        (record { value = told_at.1.value ∙ ap (λ r. record { pool = r.pool; host = r.host; port = r.port; server = r.server; capacity = r.capacity; next = r.next; peers = told_at.0.peers; routes = told_at.0.routes }) row_is; peers = IsPermutation-refl told_at.0.peers; routes = IsPermutation-refl told_at.0.routes; rules = told_at.1.rules })
        told_at.1.peers told_at.1.addresses told_at.1.routes

    network_entry : IsNetworkEntry (network_entry_of t w)
    network_entry =
        let named = at_has IsNamed t.networks w whole.networks.each here in
        record { id = named.id; name = named.name; host = named.host; forms = subst HasForms is_read told_at.1.forms; rules = subst IsNetwork is_read told_at.1.rules }

    peers_there : IsPermutation (peers_at t w.id) (peer_rows (network_entry_of t w))
    peers_there = subst (λ (n : NetworkValue). IsPermutation (peers_at t w.id) (map (peer_row w.id) n.peers)) is_read told_at.1.peers

    addresses_there : IsPermutation (addresses_at t w.id) (map (address_row w.id) (network_entry_of t w).network.peers)
    addresses_there = subst (λ (n : NetworkValue). IsPermutation (addresses_at t w.id) (map (address_row w.id) n.peers)) is_read told_at.1.addresses

    routes_there : IsPermutation (routes_at t w.id) (map (route_row w.id) (network_entry_of t w).network.routes)
    routes_there = subst (λ (n : NetworkValue). IsPermutation (routes_at t w.id) (map (route_row w.id) n.routes)) is_read told_at.1.routes

    own_peer : (a : PeerRow) → Has (peer_rows (network_entry_of t w)) a → Has t.peers a
    own_peer a k = (from_filter (λ p. nat_eq p.network w.id) t.peers a (has_permutation (peer_rows (network_entry_of t w)) (peers_at t w.id) a (IsPermutation-sym (peers_at t w.id) (peer_rows (network_entry_of t w)) peers_there) k)).0

    own_allowed : (a : AllowedRow) → Has (allowed_rows (network_entry_of t w)) a → Has t.allowed a
    own_allowed a k = elim (from_append (map (address_row w.id) (network_entry_of t w).network.peers) (map (route_row w.id) (network_entry_of t w).network.routes) a k) [
      | inl l ↦ (from_filter (λ x. nat_eq x.network w.id && not x.is_route) t.allowed a (has_permutation (map (address_row w.id) (network_entry_of t w).network.peers) (addresses_at t w.id) a (IsPermutation-sym (addresses_at t w.id) (map (address_row w.id) (network_entry_of t w).network.peers) addresses_there) l)).0
      | inr l ↦ (from_filter (λ x. x.is_route && nat_eq x.network w.id) t.allowed a (has_permutation (map (route_row w.id) (network_entry_of t w).network.routes) (routes_at t w.id) a (IsPermutation-sym (routes_at t w.id) (map (route_row w.id) (network_entry_of t w).network.routes) routes_there) l)).0
    ]

    peer_here : (a : PeerRow) → Has t.peers a → w.id ≡ a.network → Has (peer_rows (network_entry_of t w)) a
    peer_here a k is = has_permutation (peers_at t w.id) (peer_rows (network_entry_of t w)) a peers_there (in_filter (λ p. nat_eq p.network w.id) t.peers a k (subst (λ i. nat_eq a.network i ≡ true) (sym is) (eqb_self a.network)))

    allowed_here : (a : AllowedRow) → Has t.allowed a → w.id ≡ a.network → Has (allowed_rows (network_entry_of t w)) a
    allowed_here a k is = go a.is_route refl where
      mine : nat_eq a.network w.id ≡ true
      mine = subst (λ i. nat_eq a.network i ≡ true) (sym is) (eqb_self a.network)

      go : (r : Bool) → a.is_route ≡ r → Has (allowed_rows (network_entry_of t w)) a
      go true e = has_right (map (address_row w.id) (network_entry_of t w).network.peers) (map (route_row w.id) (network_entry_of t w).network.routes) a
          (has_permutation (routes_at t w.id) (map (route_row w.id) (network_entry_of t w).network.routes) a routes_there (in_filter (λ x. x.is_route && nat_eq x.network w.id) t.allowed a k (ap₂ (λ x y. x && y) e mine)))
      go false e = has_left (map (address_row w.id) (network_entry_of t w).network.peers) (map (route_row w.id) (network_entry_of t w).network.routes) a
          (has_permutation (addresses_at t w.id) (map (address_row w.id) (network_entry_of t w).network.peers) a addresses_there (in_filter (λ x. nat_eq x.network w.id && not x.is_route) t.allowed a k (ap₂ (λ x y. x && not y) mine e)))

  -- ---- the register

  network_entries : List NetworkEntry
  network_entries = map (network_entry_of t) t.networks

  held_all : (P : NetworkEntry → Type 0) → ((w : NetworkRow) → Has t.networks w → P (network_entry_of t w)) → AllByRecursion P (map (network_entry_of t) t.networks)
  held_all P each = go t.networks each where
    go : (ws : List NetworkRow) → ((w : NetworkRow) → Has ws w → P (network_entry_of t w)) → AllByRecursion P (map (network_entry_of t) ws)
    go [] each = tt
    go (w ∷ ws) each = (each w (inl refl), go ws (λ x k. each x (inr k)))

  consistent : IsConsistent (register_of t)
  consistent = record {
    names = whole.tenants.names;
    ids = whole.tenants.ids;
    digests = whole.tokens.digests;
    readers = whole.readers.digests;
    slots = subst (IsDistinct same_slot) (sym (map_map (network_entry_of t) slot t.networks)) whole.networks.slots;
    network_ids = subst (IsDistinct nat_eq) (sym (map_map (network_entry_of t) (λ h. h.id) t.networks)) whole.networks.ids;
    endpoints = subst (IsDistinct same_endpoint) (sym (map_map (network_entry_of t) endpoint t.networks)) whole.networks.endpoints;
    pools = subst (IsDistinct overlaps) (sym (map_map (network_entry_of t) pool_of t.networks)) whole.networks.pools;
    token_tenants = whole.tokens.owners;
    reader_tokens = whole.readers.tokens;
    network_tenants = held_all (λ h. has_tenant t.tenants h.tenant ≡ true) (λ w here. at_has (λ x. has_tenant t.tenants x.tenant ≡ true) t.networks w whole.networks.owners here);
    tenants = whole.tenants.each;
    tokens = whole.tokens.each;
    networks = held_all IsNetworkEntry network_entry;
    few_tenants = whole.tenants.few;
    few_tokens = whole.tokens.few;
    few_networks = subst (λ k. k ≤ 65536) (sym (length-map t.networks (network_entry_of t))) whole.networks.few;
  }

  same_rows : (ws : List NetworkRow) → map (λ w. network_row (network_entry_of t w)) ws ≡ ws
  same_rows [] = refl
  same_rows (w ∷ ws) = ap (λ l. w ∷ l) (same_rows ws)

  rows : AreRowsOf (register_of t) t
  rows = record {
    meta = whole.meta;
    tenants = IsPermutation-refl t.tenants;
    tokens = IsPermutation-refl t.tokens;
    networks = subst (λ l. IsPermutation l t.networks) (sym (map_map (network_entry_of t) network_row t.networks ∙ same_rows t.networks)) (IsPermutation-refl t.networks);
    seconds = whole.seconds;
    readers = IsPermutation-refl t.readers;
    peers = λ a. (
      (λ h. let k = from_flat peer_rows (map (network_entry_of t) t.networks) a h in let w = from_map (network_entry_of t) t.networks k.0 k.1 in own_peer w.0 w.1 a (subst (λ (x : NetworkEntry). Has (peer_rows x) a) (sym w.2) k.2)),
      (λ h. let w = whole.peers a h in has_flat peer_rows (map (network_entry_of t) t.networks) (network_entry_of t w.0) a (has_map (network_entry_of t) t.networks w.0 w.1) (peer_here w.0 w.1 a h w.2)),
    );
    allowed = λ a. (
      (λ h. let k = from_flat allowed_rows (map (network_entry_of t) t.networks) a h in let w = from_map (network_entry_of t) t.networks k.0 k.1 in own_allowed w.0 w.1 a (subst (λ (x : NetworkEntry). Has (allowed_rows x) a) (sym w.2) k.2)),
      (λ h. let w = whole.allowed a h in has_flat allowed_rows (map (network_entry_of t) t.networks) (network_entry_of t w.0) a (has_map (network_entry_of t) t.networks w.0 w.1) (allowed_here w.0 w.1 a h w.2)),
    );
    keyed = keyed;
  }

pub whole_is_consistent : (t : Tables) → AreWhole t → AreConsistent t
whole_is_consistent t whole = record { consistent = consistent t whole; rows = rows t whole }
