-- What consistency says of single rows.
use Rattle.std.proofs.Common.{◌≡◌, ℕ, Bool, true, false, cond, not, ◌&&◌, ◌||◌, List, [], ◌∷◌, map, filter, Some, nat_eq, refl, sym, ap, ap₂, subst, ◌∙◌, true≢false, ◌⊎◌, inl, inr, is_some}
use Rattle.std.specs.List.{list_any}
use Rattle.std.proofs.lemmas.List.Elements.{recursion_from_All}
use Rattle.std.specs.Cmp.Lexicographic.{nat_list_eq_equiv}
use Rattle.wgr_text.specs.Prefix.{PrefixValue}
use Rattle.wgr_text.specs.declared.key.Key.{Key}
use Rattle.wgr_pool.proofs.Bools.{or_false}
use Rattle.wgr_pool.proofs.PrefixLemmas.{nat_eq_is}
use Rattle.wgr_pool.specs.PrefixTests.{full, same_prefix}
use Rattle.wgr_peers.specs.Peers.{IsApart, peer_of, same_key}
use Rattle.wgr_peers.specs.declared.peer.Peer.{Peer}
use Rattle.wgr_core.specs.Network.{IsNetwork, IsRoute, server_address}
use Rattle.wgr_model.specs.Consistent.{IsNetworkEntry, has_digest}
use Rattle.wgr_model.specs.Register.{Bytes, Token, is_same}
use Rattle.wgr_model.specs.Laws.{Has}
use Rattle.wgr_model.specs.RowLaws.{AreConsistent}
use Rattle.wgr_model.specs.RowRules.{ConsistentRowsKeepRules, IsAddressOf, IsPeerOf, IsRouteOf}
use Rattle.wgr_model.specs.Rows.{AllowedRow, NetworkRow, PeerRow, Tables, address_row, allowed_rows, network_entry_of, network_row, peer_id, peer_row, peer_rows, register_of, route_row, same_pair}
use Rattle.wgr_model.proofs.CollectLemmas.{from_append, from_flat, from_map, has_flat, has_left, has_map}
use Rattle.wgr_model.proofs.GatherLemmas.{eqb_self, in_filter}
use Rattle.wgr_model.proofs.HolderLemmas.{member, one_or_apart, one_or_related}
use Rattle.wgr_model.proofs.LookLemmas.{same_exact}
use Rattle.wgr_model.proofs.SameLemmas.{at_has, eqb_sym}

pub none_at : {A : Type 0} (f : A → Bool) (xs : List A) (a : A) → list_any f xs ≡ false → Has xs a → f a ≡ false
none_at f [] a none h = elim h [ ]
none_at f (x ∷ xs) a none (inl e) = ap f (sym e) ∙ (or_false (f x) (list_any f xs) none).0
none_at f (x ∷ xs) a none (inr h) = none_at f xs a (or_false (f x) (list_any f xs) none).1 h

-- a number that leads to a peer is the number of one
pub found_peer : (peers : List Peer) (number : ℕ) → is_some (peer_of peers number) ≡ true → (v : Peer) × Has peers v × (v.number ≡ number)
found_peer [] number h = absurd (true≢false (sym h))
found_peer (p ∷ peers) number h = by_test (nat_eq p.number number) refl h (found_peer peers number) where
  by_test : (b : Bool) → nat_eq p.number number ≡ b → is_some (cond b (Some p) (peer_of peers number)) ≡ true → (is_some (peer_of peers number) ≡ true → (v : Peer) × Has peers v × (v.number ≡ number)) → (v : Peer) × Has (p ∷ peers) v × (v.number ≡ number)
  by_test true e g rest = (p, inl refl, nat_eq_is p.number number e)
  by_test false e g rest = let v = rest g in (v.0, inr v.1, v.2)

same_key_self : (key : Key) → same_key key key ≡ true
same_key_self key = nat_list_eq_equiv.refl key.0

pair_flips : (a b : ℕ × ℕ) → same_pair a b ≡ same_pair b a
pair_flips a b = ap₂ (λ x y. x && y) (eqb_sym a.0 b.0) (eqb_sym a.1 b.1)

module _ (t : Tables) (is : AreConsistent t) where
  pub here : (w : NetworkRow) → Has t.networks w → Has (register_of t).networks (network_entry_of t w)
  here w h = has_map (network_entry_of t) t.networks w h

  pub network_entry : (w : NetworkRow) → Has t.networks w → IsNetworkEntry (network_entry_of t w)
  network_entry w h = at_has IsNetworkEntry (register_of t).networks (network_entry_of t w) is.consistent.networks (here w h)

  pub rules : (w : NetworkRow) → Has t.networks w → IsNetwork (network_entry_of t w).network
  rules w h = (network_entry w h).rules

  -- two networks of one id are one
  pub one_network : (v w : NetworkRow) → Has t.networks v → Has t.networks w → v.id ≡ w.id → v ≡ w
  one_network v w hv hw e = elim (one_or_apart (λ x. x.id) nat_eq eqb_sym (register_of t).networks (network_entry_of t v) (network_entry_of t w) is.consistent.network_ids (here v hv) (here w hw)) [
    | inl same ↦ ap network_row same
    | inr apart ↦ absurd (true≢false (sym (eqb_self w.id) ∙ ap (λ i. nat_eq i w.id) (sym e) ∙ apart))
  ]

  pub from_peer : (p : PeerRow) → Has t.peers p → (w : NetworkRow) × (v : Peer) × Has t.networks w × Has (network_entry_of t w).network.peers v × (peer_row w.id v ≡ p)
  from_peer p h =
      let f = from_flat peer_rows (register_of t).networks p ((is.rows.peers p).1 h) in
      let w = from_map (network_entry_of t) t.networks f.0 f.1 in
      let v = from_map (peer_row f.0.id) f.0.network.peers p f.2 in
      (w.0, v.0, w.1, subst (λ k. Has k.network.peers v.0) (sym w.2) v.1, ap (λ k. peer_row k.id v.0) w.2 ∙ v.2)

  abbrev pub IsOf : AllowedRow → NetworkRow → Type 0
  IsOf a w = ((v : Peer) × Has (network_entry_of t w).network.peers v × (address_row w.id v ≡ a)) ⊎ ((r : PrefixValue × ℕ) × Has (network_entry_of t w).network.routes r × (route_row w.id r ≡ a))

  pub from_allowed : (a : AllowedRow) → Has t.allowed a → (w : NetworkRow) × Has t.networks w × IsOf a w
  from_allowed a h =
      let f = from_flat allowed_rows (register_of t).networks a ((is.rows.allowed a).1 h) in
      let w = from_map (network_entry_of t) t.networks f.0 f.1 in (
        w.0,
        w.1,
        elim (from_append (map (address_row f.0.id) f.0.network.peers) (map (route_row f.0.id) f.0.network.routes) a f.2) [
          | inl x ↦ let v = from_map (address_row f.0.id) f.0.network.peers a x in inl (v.0, subst (λ k. Has k.network.peers v.0) (sym w.2) v.1, ap (λ k. address_row k.id v.0) w.2 ∙ v.2)
          | inr x ↦ let v = from_map (route_row f.0.id) f.0.network.routes a x in inr (v.0, subst (λ k. Has k.network.routes v.0) (sym w.2) v.1, ap (λ k. route_row k.id v.0) w.2 ∙ v.2)
        ],
      )

  pub peer_there : (w : NetworkRow) (v : Peer) → Has t.networks w → Has (network_entry_of t w).network.peers v → Has t.peers (peer_row w.id v)
  peer_there w v hw hv = (is.rows.peers (peer_row w.id v)).0 (has_flat peer_rows (register_of t).networks (network_entry_of t w) (peer_row w.id v) (here w hw) (has_map (peer_row w.id) (network_entry_of t w).network.peers v hv))

  pub address_there : (w : NetworkRow) (v : Peer) → Has t.networks w → Has (network_entry_of t w).network.peers v → Has t.allowed (address_row w.id v)
  address_there w v hw hv = (is.rows.allowed (address_row w.id v)).0 (has_flat allowed_rows (register_of t).networks (network_entry_of t w) (address_row w.id v) (here w hw)
      (has_left (map (address_row w.id) (network_entry_of t w).network.peers) (map (route_row w.id) (network_entry_of t w).network.routes) (address_row w.id v) (has_map (address_row w.id) (network_entry_of t w).network.peers v hv)))

  is_address_of : (w : NetworkRow) (v : Peer) → Has t.networks w → Has (network_entry_of t w).network.peers v → IsAddressOf w (peer_row w.id v) (address_row w.id v)
  is_address_of w v hw hv = record { kind = refl; network = refl; peer = refl; whole = refl; last = refl; assignable = (member (network_entry_of t w).network v (rules w hw) hv).assignable }

  is_peer_of : (w : NetworkRow) (v : Peer) → Has t.networks w → Has (network_entry_of t w).network.peers v → IsPeerOf w (peer_row w.id v)
  is_peer_of w v hw hv = let m = member (network_entry_of t w).network v (rules w hw) hv in record { network = refl; number = v.number; id = refl; given = m.numbered; not_server = m.not_server }

  route_rules : (w : NetworkRow) (r : PrefixValue × ℕ) → Has t.networks w → Has (network_entry_of t w).network.routes r → IsRoute (network_entry_of t w).network r
  route_rules w r hw hr = let n = (network_entry_of t w).network in at_has (IsRoute n) n.routes r (recursion_from_All (IsRoute n) n.routes (rules w hw).routes) hr

  not_address : (w : NetworkRow) (r : PrefixValue × ℕ) → Has t.networks w → Has (network_entry_of t w).network.routes r
      → (list_any (λ e. same_prefix r.0 (full e.address)) (network_entry_of t w).network.peers ≡ false) × (same_prefix r.0 (full (server_address w.pool)) ≡ false)
  not_address w r hw hr = or_false (list_any (λ e. same_prefix r.0 (full e.address)) (network_entry_of t w).network.peers) (same_prefix r.0 (full (server_address w.pool))) (route_rules w r hw hr).no_address

  peers_keep : (p : PeerRow) → Has t.peers p → (w : NetworkRow) × (a : AllowedRow) × Has t.networks w × Has t.allowed a × IsPeerOf w p × IsAddressOf w p a
  peers_keep p h =
      let f = from_peer p h in
      (f.0, address_row f.0.id f.1, f.2, address_there f.0 f.1 f.2 f.3, subst (IsPeerOf f.0) f.4 (is_peer_of f.0 f.1 f.2 f.3), subst (λ q. IsAddressOf f.0 q (address_row f.0.id f.1)) f.4 (is_address_of f.0 f.1 f.2 f.3))

  keys_keep : (p q : PeerRow) → Has t.peers p → Has t.peers q → p.network ≡ q.network → p.key ≡ q.key → p ≡ q
  keys_keep p q hp hq e k =
      let x = from_peer p hp in
      let y = from_peer q hq in
      let w : x.0 ≡ y.0 = one_network x.0 y.0 x.2 y.2 (ap (λ z. z.network) x.4 ∙ e ∙ ap (λ z. z.network) (sym y.4)) in
      let key : x.1.key ≡ y.1.key = ap (λ z. z.key) x.4 ∙ k ∙ ap (λ z. z.key) (sym y.4) in
      let v : x.1 ≡ y.1 = elim (one_or_related IsApart (network_entry_of t y.0).network.peers x.1 y.1 (rules y.0 y.2).apart (subst (λ z. Has (network_entry_of t z).network.peers x.1) w x.3) y.3) [
        | inl same ↦ same
        | inr apart ↦ elim apart [
          | inl z ↦ absurd (true≢false (sym (same_key_self y.1.key) ∙ ap (λ a. same_key a y.1.key) (sym key) ∙ z.0))
          | inr z ↦ absurd (true≢false (sym (same_key_self y.1.key) ∙ ap (same_key y.1.key) (sym key) ∙ z.0))
        ]
      ] in
      sym x.4 ∙ (λ i. peer_row (w i).id (v i)) ∙ y.4

  one_address_keeps : (a b : AllowedRow) → Has t.allowed a → Has t.allowed b → a.is_route ≡ false → b.is_route ≡ false → a.network ≡ b.network → a.peer ≡ b.peer → a ≡ b
  one_address_keeps a b ha hb ka kb network peer =
      elim (one_or_apart (λ z. (z.network, z.peer)) same_pair pair_flips (filter (λ z. not z.is_route) t.allowed) a b is.rows.keyed.address_keys (in_filter (λ z. not z.is_route) t.allowed a ha (ap not ka)) (in_filter (λ z. not z.is_route) t.allowed b hb (ap not kb))) [
        | inl same ↦ same
        | inr apart ↦ absurd (true≢false (sym (ap₂ (λ x y. x && y) (ap (nat_eq a.network) (sym network) ∙ eqb_self a.network) (ap (nat_eq a.peer) (sym peer) ∙ eqb_self a.peer)) ∙ apart))
      ]

  allowed_keep : (a : AllowedRow) → Has t.allowed a → (w : NetworkRow) × (p : PeerRow) × Has t.networks w × Has t.peers p × (IsAddressOf w p a ⊎ IsRouteOf w p a)
  allowed_keep a h = by_kind (from_allowed a h) where
    by_kind : (w : NetworkRow) × Has t.networks w × IsOf a w → (w : NetworkRow) × (p : PeerRow) × Has t.networks w × Has t.peers p × (IsAddressOf w p a ⊎ IsRouteOf w p a)
    by_kind (w, hw, inl x) = (w, peer_row w.id x.0, hw, peer_there w x.0 hw x.1, inl (subst (IsAddressOf w (peer_row w.id x.0)) x.2 (is_address_of w x.0 hw x.1)))
    by_kind (w, hw, inr x) =
        let route = route_rules w x.0 hw x.1 in
        let v = found_peer (network_entry_of t w).network.peers x.0.1 route.leads in
        (w, peer_row w.id v.0, hw, peer_there w v.0 hw v.1, inr (subst (IsRouteOf w (peer_row w.id v.0)) x.2 (record { kind = refl; network = refl; peer = ap (peer_id w.id) (sym v.2); masked = route.masked; last = refl; not_server = (not_address w x.0 hw x.1).1 })))

  routes_keep : (a b : AllowedRow) → Has t.allowed a → Has t.allowed b → a.is_route ≡ true → b.is_route ≡ false → a.network ≡ b.network → same_prefix a.prefix b.prefix ≡ false
  routes_keep a b ha hb ka kb network = by_kind (from_allowed a ha) (from_allowed b hb) where
    by_kind : (w : NetworkRow) × Has t.networks w × IsOf a w → (w : NetworkRow) × Has t.networks w × IsOf b w → same_prefix a.prefix b.prefix ≡ false
    by_kind (w, hw, inl x) other = absurd (true≢false (sym ka ∙ ap (λ z. z.is_route) (sym x.2)))
    by_kind (w, hw, inr x) (u, hu, inr y) = absurd (true≢false (ap (λ z. z.is_route) y.2 ∙ kb))
    by_kind (w, hw, inr x) (u, hu, inl y) =
        let one : u ≡ w = one_network u w hu hw (ap (λ z. z.network) y.2 ∙ sym network ∙ ap (λ z. z.network) (sym x.2)) in
        ap₂ (λ z v. same_prefix z.prefix v.prefix) (sym x.2) (sym y.2)
        ∙ none_at (λ e. same_prefix x.0.0 (full e.address)) (network_entry_of t w).network.peers y.0 (not_address w x.0 hw x.1).0 (subst (λ z. Has (network_entry_of t z).network.peers y.0) one y.1)

-- a digest that is there is a token's
digest_there : (ts : List Token) (d : Bytes) → has_digest ts d ≡ true → (x : Token) × Has ts x × (x.digest ≡ d)
digest_there [] d h = absurd (true≢false (sym h))
digest_there (t ∷ ts) d h = by_test (is_same d t.digest) refl h (digest_there ts d) where
  by_test : (b : Bool) → is_same d t.digest ≡ b → (b || has_digest ts d) ≡ true → (has_digest ts d ≡ true → (x : Token) × Has ts x × (x.digest ≡ d)) → (x : Token) × Has (t ∷ ts) x × (x.digest ≡ d)
  by_test true e g rest = (t, inl refl, sym (same_exact d t.digest e))
  by_test false e g rest = let x = rest g in (x.0, inr x.1, x.2)

pub rows_keep_rules : ConsistentRowsKeepRules
rows_keep_rules t is = record { readers = λ d h. digest_there t.tokens d (at_has (λ x. has_digest t.tokens x ≡ true) t.readers d is.consistent.reader_tokens h); one_reader = is.consistent.readers; peers = peers_keep t is; keys = keys_keep t is; one_address = one_address_keeps t is; allowed = allowed_keep t is; routes_apart = routes_keep t is }
