-- Consistent rows are whole.
use Rattle.std.proofs.Common.{◌≡◌, ◌≤◌, ℕ, Bool, true, false, not, ◌&&◌, List, [], ◌∷◌, map, filter, nat_eq, eqb-true, refl, sym, ap, subst, ◌∙◌, inl, inr, true≢false}
use Rattle.std.specs.List.{AllByRecursion, IsDistinct}
use Rattle.std.proofs.Math.ListN.{length-map}
use Rattle.sqlite_trees.proofs.ListLemmas.{all_from_map}
use Rattle.wgr_model.specs.Consistent.{IsConsistent, IsNetworkEntry, endpoint, has_tenant, overlaps, pool_of, same_endpoint, same_slot, slot}
use Rattle.wgr_model.specs.Laws.{Has}
use Rattle.wgr_model.specs.Register.{NetworkEntry}
use Rattle.wgr_model.specs.Rows.{AllowedRow, HaveSame, NetworkRow, PeerRow, Tables, address_row, allowed_key, allowed_rows, network_entry_of, number_in, peer_row, peer_rows, register_of, route_row, same_allowed, same_pair}
use Rattle.wgr_model.specs.RowLaws.{AreConsistent}
use Rattle.wgr_model.proofs.CollectLemmas.{from_append, from_flat, from_map, has_flat, has_left, has_map, has_right}
use Rattle.wgr_model.proofs.ExistLemmas.{addresses_apart, peers_apart, routes_apart}
use Rattle.wgr_model.proofs.GatherLemmas.{eqb_self, in_filter, map_map}
use Rattle.wgr_model.proofs.HolderLemmas.{one_or_apart}
use Rattle.wgr_model.proofs.KeptLemmas.{distinct_filter}
use Rattle.wgr_model.proofs.MemberLemmas.{permuted}
use Rattle.wgr_model.proofs.OrderLemmas.{from_filter}
use Rattle.wgr_model.proofs.SameLemmas.{at_has, eqb_sym}
use Rattle.wgr_tables.specs.Stored.{IsStored}
use Rattle.wgr_tables.proofs.RouteRests.{allowed_self, allowed_sym, pair_sym}
use Rattle.wgr_opening.specs.Whole.{AreWhole, IsNamed}

pub pair_self : (x : ℕ × ℕ) → same_pair x x ≡ true
pair_self x = λ k. eqb_self x.0 k && eqb_self x.1 k

both : (a b : Bool) → (a && b) ≡ true → (a ≡ true) × (b ≡ true)
both true b h = (refl, h)
both false b h = absurd (true≢false (sym h))

is_not : (a : Bool) → not a ≡ true → a ≡ false
is_not false h = refl
is_not true h = absurd (true≢false (sym h))

module _ (t : Tables) (good : AreConsistent t) where
  abbrev is : IsConsistent (register_of t)
  is = good.consistent

  pub network_entry : (w : NetworkRow) → Has t.networks w → IsNetworkEntry (network_entry_of t w)
  network_entry w here = at_has IsNetworkEntry (map (network_entry_of t) t.networks) (network_entry_of t w) is.networks (has_map (network_entry_of t) t.networks w here)

  ids : IsDistinct nat_eq (map (λ w. w.id) t.networks)
  ids = subst (IsDistinct nat_eq) (map_map (network_entry_of t) (λ h. h.id) t.networks) is.network_ids

  one : (w x : NetworkRow) → Has t.networks w → Has t.networks x → w.id ≡ x.id → w ≡ x
  one w x here there same = elim (one_or_apart (λ (y : NetworkRow). y.id) nat_eq eqb_sym t.networks w x ids here there) [
    | inl equal ↦ equal
    | inr other ↦ absurd (true≢false (sym (eqb_self x.id) ∙ sym (ap (λ i. nat_eq i x.id) same) ∙ other))
  ]

  -- the network that a row of a peer is of
  peer_of : (a : PeerRow) → Has t.peers a → (w : NetworkRow) × Has t.networks w × (w.id ≡ a.network) × Has (peer_rows (network_entry_of t w)) a
  peer_of a here =
      let h = from_flat peer_rows (map (network_entry_of t) t.networks) a ((good.rows.peers a).1 here) in
      let w = from_map (network_entry_of t) t.networks h.0 h.1 in
      let mine = subst (λ (x : NetworkEntry). Has (peer_rows x) a) (sym w.2) h.2 in
      let p = from_map (peer_row w.0.id) (network_entry_of t w.0).network.peers a mine in
      (w.0, w.1, ap (λ (x : PeerRow). x.network) p.2, mine)

  -- and that of an allowed prefix
  allowed_of : (a : AllowedRow) → Has t.allowed a → (w : NetworkRow) × Has t.networks w × (w.id ≡ a.network) × Has (allowed_rows (network_entry_of t w)) a
  allowed_of a here =
      let h = from_flat allowed_rows (map (network_entry_of t) t.networks) a ((good.rows.allowed a).1 here) in
      let w = from_map (network_entry_of t) t.networks h.0 h.1 in
      let mine = subst (λ (x : NetworkEntry). Has (allowed_rows x) a) (sym w.2) h.2 in
      let same : w.0.id ≡ a.network = elim (from_append (map (address_row w.0.id) (network_entry_of t w.0).network.peers) (map (route_row w.0.id) (network_entry_of t w.0).network.routes) a mine) [
        | inl address ↦ ap (λ (x : AllowedRow). x.network) (from_map (address_row w.0.id) (network_entry_of t w.0).network.peers a address).2
        | inr route ↦ ap (λ (x : AllowedRow). x.network) (from_map (route_row w.0.id) (network_entry_of t w.0).network.routes a route).2
      ] in
      (w.0, w.1, same, mine)

  module _ (w : NetworkRow) (here : Has t.networks w) where
    abbrev h : NetworkEntry
    h = network_entry_of t w

    own_peer : (a : PeerRow) → Has t.peers a → nat_eq a.network w.id ≡ true → Has (peer_rows h) a
    own_peer a k mine =
        let x = peer_of a k in
        subst (λ y. Has (peer_rows (network_entry_of t y)) a) (one x.0 w x.1 here (x.2 ∙ eqb-true a.network w.id mine)) x.3

    own_allowed : (a : AllowedRow) → Has t.allowed a → nat_eq a.network w.id ≡ true → Has (allowed_rows h) a
    own_allowed a k mine =
        let x = allowed_of a k in
        subst (λ y. Has (allowed_rows (network_entry_of t y)) a) (one x.0 w x.1 here (x.2 ∙ eqb-true a.network w.id mine)) x.3

    listed : (a : AllowedRow) → Has (allowed_rows h) a → Has t.allowed a
    listed a k = (good.rows.allowed a).0 (has_flat allowed_rows (map (network_entry_of t) t.networks) h a (has_map (network_entry_of t) t.networks w here) k)

    peers_same : HaveSame (filter (λ p. nat_eq p.network w.id) t.peers) (peer_rows h)
    peers_same a = (
      (λ k. let f = from_filter (λ p. nat_eq p.network w.id) t.peers a k in own_peer a f.0 f.1),
      (λ k.
          let p = from_map (peer_row w.id) h.network.peers a k in
          in_filter (λ p. nat_eq p.network w.id) t.peers a ((good.rows.peers a).0 (has_flat peer_rows (map (network_entry_of t) t.networks) h a (has_map (network_entry_of t) t.networks w here) k))
          (subst (λ (x : PeerRow). nat_eq x.network w.id ≡ true) p.2 (eqb_self w.id))),
    )

    addresses_same : HaveSame (filter (λ a. nat_eq a.network w.id && not a.is_route) t.allowed) (map (address_row w.id) h.network.peers)
    addresses_same a = (
      (λ k.
          let f = from_filter (λ a. nat_eq a.network w.id && not a.is_route) t.allowed a k in
          let parts = both (nat_eq a.network w.id) (not a.is_route) f.1 in
          elim (from_append (map (address_row w.id) h.network.peers) (map (route_row w.id) h.network.routes) a (own_allowed a f.0 parts.0)) [
            | inl address ↦ address
            | inr route ↦ absurd (true≢false (ap (λ (x : AllowedRow). x.is_route) (from_map (route_row w.id) h.network.routes a route).2 ∙ is_not a.is_route parts.1))
          ]),
      (λ k.
          let p = from_map (address_row w.id) h.network.peers a k in
          in_filter (λ a. nat_eq a.network w.id && not a.is_route) t.allowed a (listed a (has_left (map (address_row w.id) h.network.peers) (map (route_row w.id) h.network.routes) a k))
          (subst (λ (x : AllowedRow). (nat_eq x.network w.id && not x.is_route) ≡ true) p.2 (ap (λ b. b && true) (eqb_self w.id)))),
    )

    routes_same : HaveSame (filter (λ a. a.is_route && nat_eq a.network w.id) t.allowed) (map (route_row w.id) h.network.routes)
    routes_same a = (
      (λ k.
          let f = from_filter (λ a. a.is_route && nat_eq a.network w.id) t.allowed a k in
          let parts = both a.is_route (nat_eq a.network w.id) f.1 in
          elim (from_append (map (address_row w.id) h.network.peers) (map (route_row w.id) h.network.routes) a (own_allowed a f.0 parts.1)) [
            | inl address ↦ absurd (true≢false (sym parts.0 ∙ sym (ap (λ (x : AllowedRow). x.is_route) (from_map (address_row w.id) h.network.peers a address).2)))
            | inr route ↦ route
          ]),
      (λ k.
          let p = from_map (route_row w.id) h.network.routes a k in
          in_filter (λ a. a.is_route && nat_eq a.network w.id) t.allowed a (listed a (has_right (map (address_row w.id) h.network.peers) (map (route_row w.id) h.network.routes) a k))
          (subst (λ (x : AllowedRow). (x.is_route && nat_eq x.network w.id) ≡ true) p.2 (eqb_self w.id))),
    )

    told : IsStored t w.id h.network
    told =
        let rules = (network_entry w here).rules in
        record {
          row = w;
          there = here;
          id_is = refl;
          value = refl;
          rules = rules;
          forms = (network_entry w here).forms;
          host = (network_entry w here).host;
          peers = permuted (λ p. (p.network, number_in p.network p.id)) same_pair pair_self pair_sym (filter (λ p. nat_eq p.network w.id) t.peers) (peer_rows h) (distinct_filter same_pair (λ p. (p.network, number_in p.network p.id)) (λ p. nat_eq p.network w.id) t.peers good.rows.keyed.peer_keys) (peers_apart h rules) peers_same;
          addresses = permuted allowed_key same_allowed allowed_self allowed_sym (filter (λ a. nat_eq a.network w.id && not a.is_route) t.allowed) (map (address_row w.id) h.network.peers)
              (distinct_filter same_allowed allowed_key (λ a. nat_eq a.network w.id && not a.is_route) t.allowed good.rows.keyed.allowed_keys) (addresses_apart h rules) addresses_same;
          routes = permuted allowed_key same_allowed allowed_self allowed_sym (filter (λ a. a.is_route && nat_eq a.network w.id) t.allowed) (map (route_row w.id) h.network.routes)
              (distinct_filter same_allowed allowed_key (λ a. a.is_route && nat_eq a.network w.id) t.allowed good.rows.keyed.allowed_keys) (routes_apart h rules) routes_same;
        }

  named : (ws : List NetworkRow) → AllByRecursion (λ w. IsNetworkEntry (network_entry_of t w)) ws → AllByRecursion IsNamed ws
  named [] all = tt
  named (w ∷ ws) all = (record { id = all.0.id; name = all.0.name; host = all.0.host }, named ws all.1)

  pub consistent_is_whole : AreWhole t
  consistent_is_whole = record {
    meta = good.rows.meta;
    tenants = record { each = is.tenants; ids = is.ids; names = is.names; few = is.few_tenants };
    tokens = record { each = is.tokens; digests = is.digests; owners = is.token_tenants; few = is.few_tokens };
    networks = record {
      each = named t.networks (all_from_map IsNetworkEntry (network_entry_of t) t.networks is.networks);
      ids = ids;
      slots = subst (IsDistinct same_slot) (map_map (network_entry_of t) slot t.networks) is.slots;
      endpoints = subst (IsDistinct same_endpoint) (map_map (network_entry_of t) endpoint t.networks) is.endpoints;
      pools = subst (IsDistinct overlaps) (map_map (network_entry_of t) pool_of t.networks) is.pools;
      owners = all_from_map (λ h. has_tenant t.tenants h.tenant ≡ true) (network_entry_of t) t.networks is.network_tenants;
      few = subst (λ k. k ≤ 65536) (length-map t.networks (network_entry_of t)) is.few_networks;
    };
    seconds = good.rows.seconds;
    readers = record { digests = is.readers; tokens = is.reader_tokens };
    stored = λ w here. ((network_entry_of t w).network, told w here);
    peers = λ p here. let w = peer_of p here in (w.0, w.1, w.2);
    allowed = λ a here. let w = allowed_of a here in (w.0, w.1, w.2);
  }
