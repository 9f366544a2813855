-- The allowed prefixes and the peers of a network, and the rows that it is formed of.
use Rattle.std.proofs.Common.{◌≡◌, ◌<◌, ℕ, Bool, true, map, is_some, refl, sym, ap, subst, ◌∙◌, arith, inl, inr}
use Rattle.std.proofs.lemmas.List.Elements.{recursion_from_All}
use Rattle.wgr_text.specs.Prefix.{PrefixValue}
use Rattle.wgr_pool.specs.PrefixTests.{full}
use Rattle.wgr_peers.specs.declared.peer.Peer.{Peer}
use Rattle.wgr_peers.specs.Peers.{IsNumberedBelow, is_live, peer_of}
use Rattle.wgr_core.specs.Network.{IsNetwork, IsRoute, NetworkValue, live_at}
use Rattle.wgr_core.specs.Owner.{allowed, own_prefixes}
use Rattle.wgr_core.proofs.LiveLemmas.{peer_stands}
use Rattle.wgr_model.specs.Laws.{Has}
use Rattle.wgr_model.specs.RowLaws.{AreConsistent}
use Rattle.wgr_model.specs.Rows.{AllowedRow, NetworkRow, PeerRow, Tables, address_row, allowed_rows, network_entry_of, ids_per_network, peer_id, register_of, route_row}
use Rattle.wgr_model.proofs.CollectLemmas.{from_append, from_map, has_flat, has_left, has_map, has_right}
use Rattle.wgr_model.proofs.GatherLemmas.{in_filter}
use Rattle.wgr_model.proofs.HolderLemmas.{member, one_or_related}
use Rattle.wgr_model.proofs.OrderLemmas.{from_filter}
use Rattle.wgr_model.proofs.RuleLemmas.{IsOf, address_there, found_peer, from_allowed, from_peer, here, one_network, rules}
use Rattle.wgr_model.proofs.SameLemmas.{at_has}

abbrev own_of : Peer → PrefixValue × ℕ
own_of p = (full p.address, p.number)

-- ---- the live network

module _ (n : NetworkValue) (is : IsNetwork n) where
  pub one_peer : (u v : Peer) → Has n.peers u → Has n.peers v → u.number ≡ v.number → u ≡ v
  one_peer u v hu hv e = elim (one_or_related IsNumberedBelow n.peers u v is.numbered hu hv) [
    | inl same ↦ same
    | inr below ↦ elim below [ inl l ↦ absurd (omega (arith, l, e)) | inr l ↦ absurd (omega (arith, l, e)) ]
  ]

  -- each prefix leads to a peer
  pub entry_peer : (e : PrefixValue × ℕ) → Has (allowed n) e → (v : Peer) × Has n.peers v × (v.number ≡ e.1)
  entry_peer e h = elim (from_append (own_prefixes n.peers) n.routes e h) [
    | inl own ↦ let v = from_map own_of n.peers e own in (v.0, v.1, ap (λ (x : PrefixValue × ℕ). x.1) v.2)
    | inr route ↦ found_peer n.peers e.1 (at_has (IsRoute n) n.routes e (recursion_from_All (IsRoute n) n.routes is.routes) route).leads
  ]

  module _ (now : ℕ) where
    abbrev live : NetworkValue
    live = live_at n now

    abbrev leads : PrefixValue × ℕ → Bool
    leads r = is_some (peer_of live.peers r.1)

    -- the routes of the live network lead to live peers
    pub live_route : (r : PrefixValue × ℕ) → Has live.routes r → (v : Peer) × Has live.peers v × (v.number ≡ r.1)
    live_route r h = found_peer live.peers r.1 (from_filter leads n.routes r h).1

    -- an allowed prefix of the live network is one of the whole, and leads to a live peer
    pub live_entry : (e : PrefixValue × ℕ) → Has (allowed live) e → Has (allowed n) e × ((v : Peer) × Has n.peers v × (is_live now v ≡ true) × (v.number ≡ e.1))
    live_entry e h = elim (from_append (own_prefixes live.peers) live.routes e h) [
      | inl own ↦
          let v = from_map own_of live.peers e own in
          let it = from_filter (is_live now) n.peers v.0 v.1 in
          (has_left (own_prefixes n.peers) n.routes e (subst (Has (own_prefixes n.peers)) v.2 (has_map own_of n.peers v.0 it.0)), (v.0, it.0, it.1, ap (λ (x : PrefixValue × ℕ). x.1) v.2))
      | inr route ↦
          let v = live_route e route in
          let it = from_filter (is_live now) n.peers v.0 v.1 in
          (has_right (own_prefixes n.peers) n.routes e (from_filter leads n.routes e route).0, (v.0, it.0, it.1, v.2))
    ]

    pub entry_live : (e : PrefixValue × ℕ) → Has (allowed n) e → (v : Peer) → Has n.peers v → is_live now v ≡ true → v.number ≡ e.1 → Has (allowed live) e
    entry_live e h v hv lives at =
        let stays = in_filter (is_live now) n.peers v hv lives in
        elim (from_append (own_prefixes n.peers) n.routes e h) [
          | inl own ↦
              let u = from_map own_of n.peers e own in
              let same : u.0 ≡ v = one_peer u.0 v u.1 hv (ap (λ (x : PrefixValue × ℕ). x.1) u.2 ∙ sym at) in
              has_left (own_prefixes live.peers) live.routes e (subst (Has (own_prefixes live.peers)) u.2 (has_map own_of live.peers u.0 (subst (Has live.peers) (sym same) stays)))
          | inr route ↦
              let stands = at_has (λ (p : Peer). is_some (peer_of live.peers p.number) ≡ true) live.peers v (recursion_from_All (λ (p : Peer). is_some (peer_of live.peers p.number) ≡ true) live.peers (peer_stands live.peers)) stays in
              has_right (own_prefixes live.peers) live.routes e (in_filter leads n.routes e route (subst (λ i. is_some (peer_of live.peers i) ≡ true) at stands))
        ]

-- ---- the rows

module _ (t : Tables) (is : AreConsistent t) (w : NetworkRow) (hw : Has t.networks w) where
  abbrev n : NetworkValue
  n = (network_entry_of t w).network

  -- a row of the network is that of one of its peers' addresses or of one of its routes
  pub row_from : (a : AllowedRow) → Has t.allowed a → a.network ≡ w.id → IsOf t is a w
  row_from a h e =
      let f = from_allowed t is a h in
      subst (IsOf t is a) (one_network t is f.0 w f.1 hw (sym (network_of f.0 f.2) ∙ e)) f.2
    where
      network_of : (u : NetworkRow) → IsOf t is a u → a.network ≡ u.id
      network_of u (inl x) = ap (λ z. z.network) (sym x.2)
      network_of u (inr x) = ap (λ z. z.network) (sym x.2)

  pub route_there : (r : PrefixValue × ℕ) → Has n.routes r → Has t.allowed (route_row w.id r)
  route_there r hr = (is.rows.allowed (route_row w.id r)).0 (has_flat allowed_rows (register_of t).networks (network_entry_of t w) (route_row w.id r) (here t is w hw)
      (has_right (map (address_row w.id) n.peers) (map (route_row w.id) n.routes) (route_row w.id r) (has_map (route_row w.id) n.routes r hr)))

  -- the row allows the prefix of the entry, and leads where the entry leads
  abbrev pub IsEntry : AllowedRow → PrefixValue × ℕ → Type 0
  IsEntry a e = (a.network ≡ w.id) × (a.prefix ≡ e.0) × (a.peer ≡ peer_id w.id e.1)

  pub entry_row : (e : PrefixValue × ℕ) → Has (allowed n) e → (a : AllowedRow) × Has t.allowed a × IsEntry a e
  entry_row e h = elim (from_append (own_prefixes n.peers) n.routes e h) [
    | inl own ↦
        let v = from_map own_of n.peers e own in
        (address_row w.id v.0, address_there t is w v.0 hw v.1, (refl, ap (λ (x : PrefixValue × ℕ). x.0) v.2, ap (λ (x : PrefixValue × ℕ). peer_id w.id x.1) v.2))
    | inr route ↦ (route_row w.id e, route_there e route, (refl, refl, refl))
  ]

  pub row_entry : (a : AllowedRow) → Has t.allowed a → a.network ≡ w.id → (e : PrefixValue × ℕ) × Has (allowed n) e × IsEntry a e
  row_entry a h e = elim (row_from a h e) [
    | inl x ↦ (own_of x.0, has_left (own_prefixes n.peers) n.routes (own_of x.0) (has_map own_of n.peers x.0 x.1), (e, sym (ap (λ z. z.prefix) x.2), sym (ap (λ z. z.peer) x.2)))
    | inr x ↦ (x.0, has_right (own_prefixes n.peers) n.routes x.0 x.1, (e, sym (ap (λ z. z.prefix) x.2), sym (ap (λ z. z.peer) x.2)))
  ]

  -- a peer's number is below 2 ^ 20, so its id tells its network
  pub low : (u : NetworkRow) → Has t.networks u → (v : Peer) → Has (network_entry_of t u).network.peers v → v.number < ids_per_network
  low u hu v hv =
      let kept = rules t is u hu in
      let given = (member (network_entry_of t u).network v kept hv).numbered.1 in
      let next = kept.next.1 in
      omega (arith, given, next)

  pub id_tells : (p : PeerRow) → Has t.peers p → (number : ℕ) → number < ids_per_network → p.id ≡ peer_id w.id number → p.network ≡ w.id
  id_tells p h number small at =
      let f = from_peer t is p h in
      let ids : peer_id f.0.id f.1.number ≡ peer_id w.id number = ap (λ z. z.id) f.4 ∙ at in
      let few = low f.0 f.2 f.1 f.3 in
      let same : f.0.id ≡ w.id = omega (arith, few, small, ids) in
      sym (ap (λ z. z.network) f.4) ∙ same
