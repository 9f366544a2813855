-- A network that is read from rows is the one that they form.
use Rattle.std.proofs.Common.{◌≡◌, ℕ, Bool, true, false, not, ◌&&◌, List, [], ◌∷◌, eqb-true, map, filter, nat_eq, IsPermutation, ◌∙◌, refl, sym, subst, inl, inr}
use Rattle.std.specs.Ordering.{nat_cmp}
use Rattle.std.specs.Cmp.{nat_cmp_total}
use Rattle.std.specs.FinMap.{nat_cmp-IsAntisymmetric}
use Rattle.std.proofs.lemmas.List.Sorted.{IsPermutation-map, IsPermutation-sym, IsPermutation-trans}
use Rattle.wgr_text.specs.Prefix.{PrefixValue}
use Rattle.wgr_peers.specs.declared.peer.Peer.{Peer}
use Rattle.wgr_core.specs.Network.{NetworkValue, IsNetwork}
use Rattle.wgr_model.specs.Laws.{Has}
use Rattle.wgr_model.specs.Rows.{AllowedRow, AreKeyed, NetworkRow, PeerRow, Tables, address_row, allowed_key, network_entry_of, number_in, peer_id, peer_row, peer_value, peers_of, prefix_cmp, prefix_key, route_row, route_value, routes_of, same_allowed, same_pair}
use Rattle.wgr_core.specs.declared.parts.Parts.{Parts}
use Rattle.wgr_core.specs.Parts.{IsNetworkOf, network_of}
use Rattle.wgr_tables.specs.Loads.{IsMade, network_with}
use Rattle.wgr_model.proofs.CollectLemmas.{collected, from_map, has_map}
use Rattle.wgr_model.proofs.GatherLemmas.{in_filter, eqb_self, address_read, number_back, peers_sorted, routes_sorted, prefix_total, prefix_exact, peer_keys_tell, route_keys_tell}
use Rattle.wgr_model.proofs.HolderLemmas.{member}
use Rattle.wgr_model.proofs.OrderLemmas.{from_filter}
use Rattle.wgr_model.proofs.SameLemmas.{has_permutation}

-- the rows of the network of this id, of its peers, their addresses and its routes, are those of `n`
module _ (t : Tables) (id : ℕ) (keyed : AreKeyed t) (n : NetworkValue) (rules : IsNetwork n) (rows : IsPermutation (filter (λ p. nat_eq p.network id) t.peers) (map (peer_row id) n.peers))
    (addresses : IsPermutation (filter (λ a. nat_eq a.network id && not a.is_route) t.allowed) (map (address_row id) n.peers)) (routes : IsPermutation (filter (λ a. a.is_route && nat_eq a.network id) t.allowed) (map (route_row id) n.routes)) where
  peer_there : (v : Peer) → Has n.peers v → Has t.peers (peer_row id v)
  peer_there v k = (from_filter (λ p. nat_eq p.network id) t.peers (peer_row id v) (has_permutation _ _ (peer_row id v) (IsPermutation-sym _ _ rows) (has_map (peer_row id) n.peers v k))).0

  address_there : (v : Peer) → Has n.peers v → Has t.allowed (address_row id v)
  address_there v k = (from_filter (λ a. nat_eq a.network id && not a.is_route) t.allowed (address_row id v) (has_permutation _ _ (address_row id v) (IsPermutation-sym _ _ addresses) (has_map (address_row id) n.peers v k))).0

  peer_to : (v : Peer) → Has n.peers v → Has t.peers (peer_row id v) × (nat_eq (peer_row id v).network id ≡ true) × (number_in id (peer_id id v.number) ≡ v.number) × (peer_value t (peer_row id v) ≡ v)
  peer_to v k = (
    peer_there v k,
    eqb_self id,
    number_back id v.number,
    λ i. record { number = number_back id v.number i; key = v.key; label = v.label; address = address_read t keyed id v (address_there v k) i; second = sym (member n v rules k).alone i; until = v.until; keepalive = v.keepalive; status = v.status },
  )

  peer_from : (a : PeerRow) → Has t.peers a → nat_eq a.network id ≡ true → (v : Peer) × Has n.peers v × (peer_row id v ≡ a)
  peer_from a k e = from_map (peer_row id) n.peers a (has_permutation _ _ a rows (in_filter (λ p. nat_eq p.network id) t.peers a k e))

  pub peers_are_read : peers_of t id ≡ n.peers
  peers_are_read = collected nat_cmp nat_cmp_total nat_cmp-IsAntisymmetric (λ v. v.number) (λ p. nat_eq p.network id) (λ p. number_in p.network p.id) (peer_value t) (peer_row id) (λ p. (p.network, number_in p.network p.id)) same_pair t.peers n.peers
      (peer_keys_tell id) keyed.peer_keys (peers_sorted n rules) peer_to peer_from

  route_there : (v : PrefixValue × ℕ) → Has n.routes v → Has t.allowed (route_row id v)
  route_there v k = (from_filter (λ a. a.is_route && nat_eq a.network id) t.allowed (route_row id v) (has_permutation _ _ (route_row id v) (IsPermutation-sym _ _ routes) (has_map (route_row id) n.routes v k))).0

  route_to : (v : PrefixValue × ℕ) → Has n.routes v → Has t.allowed (route_row id v) × ((true && nat_eq id id) ≡ true) × (prefix_key v.0 ≡ prefix_key v.0) × (route_value (route_row id v) ≡ v)
  route_to v k = (route_there v k, eqb_self id, refl, λ i. (v.0, number_back id v.1 i))

  route_from : (a : AllowedRow) → Has t.allowed a → (a.is_route && nat_eq a.network id) ≡ true → (v : PrefixValue × ℕ) × Has n.routes v × (route_row id v ≡ a)
  route_from a k e = from_map (route_row id) n.routes a (has_permutation _ _ a routes (in_filter (λ a. a.is_route && nat_eq a.network id) t.allowed a k e))

  pub routes_are_read : routes_of t id ≡ n.routes
  routes_are_read = collected prefix_cmp prefix_total prefix_exact (λ v. prefix_key v.0) (λ a. a.is_route && nat_eq a.network id) (λ a. prefix_key a.prefix) route_value (route_row id) allowed_key same_allowed t.allowed n.routes
      (route_keys_tell id) keyed.allowed_keys (routes_sorted n rules) route_to route_from

pub network_is_read : (t : Tables) (w : NetworkRow) (id : ℕ) → w.id ≡ id → AreKeyed t → (joined : List Peer) (led : List (PrefixValue × ℕ)) (n : NetworkValue) → IsMade w joined led n
    → IsPermutation (filter (λ p. nat_eq p.network id) t.peers) (map (peer_row id) joined) → IsPermutation (filter (λ a. nat_eq a.network id && not a.is_route) t.allowed) (map (address_row id) joined)
    → IsPermutation (filter (λ a. a.is_route && nat_eq a.network id) t.allowed) (map (route_row id) led) → n ≡ (network_entry_of t w).network
network_is_read t w id is keyed joined led n made rows addresses ways =
    let peers = IsPermutation-trans _ _ _ rows (IsPermutation-map (peer_row id) joined n.peers made.peers) in
    let own = IsPermutation-trans _ _ _ addresses (IsPermutation-map (address_row id) joined n.peers made.peers) in
    let to = IsPermutation-trans _ _ _ ways (IsPermutation-map (route_row id) led n.routes made.routes) in
    let here : n.peers ≡ peers_of t w.id = subst (λ i. n.peers ≡ peers_of t i) (sym is) (sym (peers_are_read t id keyed n made.rules peers own to)) in
    let there : n.routes ≡ routes_of t w.id = subst (λ i. n.routes ≡ routes_of t i) (sym is) (sym (routes_are_read t id keyed n made.rules peers own to)) in
    made.value ∙ (λ k. network_with w (here k) (there k))

-- the network of the parts that were read from a row
pub network_is_made : (w : NetworkRow) (joined : List Peer) (led : List (PrefixValue × ℕ)) (parts : Parts) (n : NetworkValue) → network_of parts ≡ network_with w joined led → IsNetworkOf parts n → IsNetwork n → IsMade w joined led n
network_is_made w joined led parts n e is rules = record {
  value = (λ k. record { pool = is.pool k; host = is.host k; port = is.port k; server = is.server k; capacity = is.capacity k; next = is.next k; peers = n.peers; routes = n.routes }) ∙ (λ k. record (e k) { peers = n.peers; routes = n.routes });
  peers = subst (λ l. IsPermutation l n.peers) (λ k. (e k).peers) is.peers.0;
  routes = subst (λ l. IsPermutation l n.routes) (λ k. (e k).routes) is.routes.0;
  rules = rules;
}

-- the rows of a network's id are none, or one
pub none_listed : (networks : List NetworkRow) (n : ℕ) → IsPermutation (filter (λ w. nat_eq w.id n) networks) [] → (w : NetworkRow) → Has networks w → nat_eq w.id n ≡ false
none_listed networks n none w here = go (nat_eq w.id n) refl
  where
    go : (b : Bool) → nat_eq w.id n ≡ b → nat_eq w.id n ≡ false
    go false e = e
    go true e = elim (has_permutation (filter (λ x. nat_eq x.id n) networks) [] w none (in_filter (λ x. nat_eq x.id n) networks w here e)) [ ]

-- no other row has its id
pub only_listed : (networks : List NetworkRow) (n : ℕ) (x w : NetworkRow) → IsPermutation (filter (λ y. nat_eq y.id n) networks) (x ∷ []) → Has networks w → w.id ≡ n → x ≡ w
only_listed networks n x w one here is =
    elim (has_permutation (filter (λ y. nat_eq y.id n) networks) (x ∷ []) w one (in_filter (λ y. nat_eq y.id n) networks w here (subst (λ k. nat_eq w.id k ≡ true) is (eqb_self w.id)))) [
      | inl same ↦ same
      | inr none ↦ elim none [ ]
    ]

pub one_listed : (networks : List NetworkRow) (n : ℕ) (w : NetworkRow) → IsPermutation (filter (λ x. nat_eq x.id n) networks) (w ∷ []) → Has networks w × (w.id ≡ n)
one_listed networks n w one =
    let f = from_filter (λ x. nat_eq x.id n) networks w (has_permutation (w ∷ []) (filter (λ x. nat_eq x.id n) networks) w (IsPermutation-sym (filter (λ x. nat_eq x.id n) networks) (w ∷ []) one) (inl refl)) in
    (f.0, eqb-true w.id n f.1)
