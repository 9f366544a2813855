-- The rows of peers come, as a step of one network's value.
use Rattle.std.proofs.Common.{◌≡◌, ◌<◌, ℕ, ◌⊎◌, List, [], ◌∷◌, ◌++◌, map, nat_eq, nat_lt, Bool, true, false, not, ◌&&◌, IsPermutation, refl, sym, ap, ap₂, subst, ◌∙◌, inl, inr, arith, true≢false}
use Rattle.std.specs.List.{filter, IsDistinct, AllByRecursion}
use Rattle.std.proofs.lemmas.Bool.Decides.{nat_tests}
use Rattle.std.proofs.lemmas.Map.Keys.{IsDistinct-cons, IsDistinct-IsPermutation}
use Rattle.std.proofs.lemmas.List.Elements.{recursion_from_All}
use Rattle.std.proofs.lemmas.List.Sorted.{IsPermutation-sym, IsPermutation-map}
use Rattle.wgr_pool.proofs.Lists.{AllPairs-head, AllPairs-tail}
use Rattle.wgr_peers.specs.declared.peer.Peer.{Peer}
use Rattle.wgr_peers.specs.Peers.{put_peer, AreNumbered, IsNumberedBelow}
use Rattle.wgr_peers.proofs.OrderedLemmas.{put_pairs}
use Rattle.wgr_peers.proofs.PlaceLemmas.{peers_placed}
use Rattle.wgr_core.specs.Network.{NetworkValue}
use Rattle.wgr_core.specs.Change.{put_peers}
use Rattle.wgr_model.specs.Laws.{Has}
use Rattle.wgr_model.specs.Rows.{PeerRow, AllowedRow, Tables, AreKeyed, peer_id, number_in, peer_row, address_row, route_row, allowed_key, same_allowed, same_pair}
use Rattle.wgr_model.proofs.CollectLemmas.{has_map, from_map, has_left, has_right, from_append}
use Rattle.wgr_model.proofs.OrderLemmas.{from_filter, filter_permutation}
use Rattle.wgr_model.proofs.SameLemmas.{at_has, eqb_sym, has_permutation}
use Rattle.wgr_sql.specs.Steps.{Each}
use Rattle.wgr_tables.specs.TableSteps.{PeerComes}
use Rattle.wgr_tables.proofs.Rests.{Rests}
use Rattle.wgr_tables.proofs.RestLemmas.{same_ids, and_false}
use Rattle.wgr_tables.proofs.RouteRests.{LaterApart, put_from, put_to, all_apart, allowed_sym, allowed_self, pair_sym}

number_back : (network number : ℕ) → number_in network (peer_id network number) ≡ number
number_back network number = omega arith

false_right : (a b : Bool) → b ≡ false → (a && b) ≡ false
false_right true b h = h
false_right false b h = refl

all_of : {A K : Type 0} (f : A → K) (P : K → Type 0) (xs : List A) → ((a : A) → Has xs a → P (f a)) → AllByRecursion P (map f xs)
all_of f P [] h = tt
all_of f P (x ∷ xs) h = (h x (inl refl), all_of f P xs (λ a here. h a (inr here)))

below_differs : (p y : Peer) → nat_lt y.number p.number ≡ true → nat_eq y.number p.number ≡ false
below_differs p y below = grind (arith, nat_tests, below)

later_differs : (p y z : Peer) → nat_lt y.number p.number ≡ false → y.number < z.number → nat_eq z.number p.number ≡ false
later_differs p y z not_below later = grind (arith, nat_tests, not_below, later)

peers_apart : (p : Peer) (peers : List Peer) → AreNumbered peers → LaterApart (λ q. nat_lt q.number p.number) (λ q. nat_eq q.number p.number) p peers
peers_apart p [] numbered = tt
peers_apart p (y ∷ ys) numbered = (
  (λ not_below z here. later_differs p y z not_below (at_has (IsNumberedBelow y) ys z (recursion_from_All (IsNumberedBelow y) ys (AllPairs-head IsNumberedBelow y ys numbered)) here)),
  peers_apart p ys (AllPairs-tail IsNumberedBelow y ys numbered),
)

pub peer_from : (p : Peer) (peers : List Peer) → AreNumbered peers → (z : Peer) → Has (put_peer peers p) z → (p ≡ z) ⊎ (Has peers z × (nat_eq z.number p.number ≡ false))
peer_from p peers numbered z h = put_from (λ q. nat_lt q.number p.number) (λ q. nat_eq q.number p.number) p peers (below_differs p) (peers_apart p peers numbered) z h

pub peer_to : (p : Peer) (peers : List Peer) (z : Peer) → (p ≡ z) ⊎ (Has peers z × (nat_eq z.number p.number ≡ false)) → Has (put_peer peers p) z
peer_to p peers z h = put_to (λ q. nat_lt q.number p.number) (λ q. nat_eq q.number p.number) p peers z h

pub still_numbered : (p : Peer) (peers : List Peer) → AreNumbered peers → AreNumbered (put_peer peers p)
still_numbered p peers numbered = put_pairs IsNumberedBelow (λ q. Unit {0}) (λ q. nat_lt q.number p.number) (λ q. nat_eq q.number p.number) peers p (peers_placed p) (λ k d h. tt) numbered

peer_comes : (id : ℕ) (p : Peer) (t u v : Tables) (n : NetworkValue) → AreNumbered n.peers → Rests id t n u → PeerComes id p u v → Rests id t (record n { peers = put_peer n.peers p }) v
peer_comes id p t u v n numbered rests (m, (peers, perm, is, apart), (rows, rows_perm, rows_is, rows_apart)) = record {
  meta = ap (λ (x : Tables). x.meta) whole ∙ rests.meta;
  tenants = ap (λ (x : Tables). x.tenants) whole ∙ rests.tenants;
  tokens = ap (λ (x : Tables). x.tokens) whole ∙ rests.tokens;
  networks = ap (λ (x : Tables). x.networks) whole ∙ rests.networks;
  seconds = ap (λ (x : Tables). x.seconds) whole ∙ rests.seconds;
  readers = ap (λ (x : Tables). x.readers) whole ∙ rests.readers;
  peers = λ a. (
    (λ h. peer_there a (subst (λ (x : Tables). Has x.peers a) whole h)),
    (λ h. subst (λ (x : Tables). Has x.peers a) (sym whole) (peer_back a h)),
  );
  allowed = λ a. (
    (λ h. there a (subst (λ (x : Tables). Has x.allowed a) whole h)),
    (λ h. subst (λ (x : Tables). Has x.allowed a) (sym whole) (back a h)),
  );
  keyed = subst AreKeyed (sym whole) (record { peer_keys = peer_keys; allowed_keys = keys; address_keys = address_keys });
}
  where
    own : PeerRow
    own = peer_row id p

    row : AllowedRow
    row = address_row id p

    new : List Peer
    new = put_peer n.peers p

    whole : v ≡ record u { peers = peers; allowed = rows }
    whole = rows_is ∙ ap (λ (x : Tables). record x { allowed = rows }) is

    same_rows : m.allowed ≡ u.allowed
    same_rows = ap (λ (x : Tables). x.allowed) is

    put_rows : IsPermutation (row ∷ u.allowed) rows
    put_rows = subst (λ l. IsPermutation (row ∷ l) rows) same_rows rows_perm

    -- no peer of the network has the number, since no row has the id
    fresh : (q : Peer) → Has n.peers q → nat_eq q.number p.number ≡ false
    fresh q h = sym (same_ids id q.number p.number) ∙ apart (peer_row id q) ((rests.peers (peer_row id q)).1 (inl (has_map (peer_row id) n.peers q h)))

    stays : (q : Peer) → Has n.peers q → Has new q
    stays q h = peer_to p n.peers q (inr (h, fresh q h))

    peer_there : (a : PeerRow) → Has peers a → Has (map (peer_row id) new) a ⊎ (Has t.peers a × (nat_eq a.network id ≡ false))
    peer_there a h = elim (has_permutation peers (own ∷ u.peers) a (IsPermutation-sym (own ∷ u.peers) peers perm) h) [
      | inl mine ↦ inl (subst (Has (map (peer_row id) new)) mine (has_map (peer_row id) new p (peer_to p n.peers p (inl refl))))
      | inr old ↦ elim ((rests.peers a).0 old) [
        | inl one ↦ let q = from_map (peer_row id) n.peers a one in inl (subst (Has (map (peer_row id) new)) q.2 (has_map (peer_row id) new q.0 (stays q.0 q.1)))
        | inr other ↦ inr other
      ]
    ]

    peer_back : (a : PeerRow) → Has (map (peer_row id) new) a ⊎ (Has t.peers a × (nat_eq a.network id ≡ false)) → Has peers a
    peer_back a (inl one) =
        let q = from_map (peer_row id) new a one in
        elim (peer_from p n.peers numbered q.0 q.1) [
          | inl mine ↦ has_permutation (own ∷ u.peers) peers a perm (inl (ap (peer_row id) mine ∙ q.2))
          | inr old ↦ has_permutation (own ∷ u.peers) peers a perm (inr ((rests.peers a).1 (inl (subst (Has (map (peer_row id) n.peers)) q.2 (has_map (peer_row id) n.peers q.0 old.0)))))
        ]
    peer_back a (inr other) = has_permutation (own ∷ u.peers) peers a perm (inr ((rests.peers a).1 (inr other)))

    there : (a : AllowedRow) → Has rows a → Has (map (address_row id) new ++ map (route_row id) n.routes) a ⊎ (Has t.allowed a × (nat_eq a.network id ≡ false))
    there a h = elim (has_permutation rows (row ∷ u.allowed) a (IsPermutation-sym (row ∷ u.allowed) rows put_rows) h) [
      | inl mine ↦ inl (has_left (map (address_row id) new) (map (route_row id) n.routes) a (subst (Has (map (address_row id) new)) mine (has_map (address_row id) new p (peer_to p n.peers p (inl refl)))))
      | inr old ↦ elim ((rests.allowed a).0 old) [
        | inl one ↦ elim (from_append (map (address_row id) n.peers) (map (route_row id) n.routes) a one) [
          | inl address ↦
              let q = from_map (address_row id) n.peers a address in
              inl (has_left (map (address_row id) new) (map (route_row id) n.routes) a (subst (Has (map (address_row id) new)) q.2 (has_map (address_row id) new q.0 (stays q.0 q.1))))
          | inr route ↦ inl (has_right (map (address_row id) new) (map (route_row id) n.routes) a route)
        ]
        | inr other ↦ inr other
      ]
    ]

    back : (a : AllowedRow) → Has (map (address_row id) new ++ map (route_row id) n.routes) a ⊎ (Has t.allowed a × (nat_eq a.network id ≡ false)) → Has rows a
    back a (inl one) = elim (from_append (map (address_row id) new) (map (route_row id) n.routes) a one) [
      | inl address ↦
          let q = from_map (address_row id) new a address in
          elim (peer_from p n.peers numbered q.0 q.1) [
            | inl mine ↦ has_permutation (row ∷ u.allowed) rows a put_rows (inl (ap (address_row id) mine ∙ q.2))
            | inr old ↦ has_permutation (row ∷ u.allowed) rows a put_rows (inr ((rests.allowed a).1 (inl (has_left (map (address_row id) n.peers) (map (route_row id) n.routes) a (subst (Has (map (address_row id) n.peers)) q.2 (has_map (address_row id) n.peers q.0 old.0))))))
          ]
      | inr route ↦ has_permutation (row ∷ u.allowed) rows a put_rows (inr ((rests.allowed a).1 (inl (has_right (map (address_row id) n.peers) (map (route_row id) n.routes) a route))))
    ]
    back a (inr other) = has_permutation (row ∷ u.allowed) rows a put_rows (inr ((rests.allowed a).1 (inr other)))

    peer_key : PeerRow → ℕ × ℕ
    peer_key a = (a.network, number_in a.network a.id)

    key_apart : (a : PeerRow) → Has u.peers a → same_pair (peer_key own) (peer_key a) ≡ false
    key_apart a h = elim ((rests.peers a).0 h) [
      | inl one ↦
          let q = from_map (peer_row id) n.peers a one in
          subst (λ x. same_pair (peer_key own) (peer_key x) ≡ false) q.2 (false_right (nat_eq id id) _ (ap₂ nat_eq (number_back id p.number) (number_back id q.0.number) ∙ eqb_sym p.number q.0.number ∙ fresh q.0 q.1))
      | inr other ↦ and_false (nat_eq id a.network) _ (eqb_sym id a.network ∙ other.1)
    ]

    peer_keys : IsDistinct same_pair (map peer_key peers)
    peer_keys =
        IsDistinct-IsPermutation same_pair pair_sym (map peer_key (own ∷ u.peers)) (map peer_key peers) (IsPermutation-map peer_key (own ∷ u.peers) peers perm)
        (IsDistinct-cons same_pair (peer_key own) (map peer_key u.peers) (all_of peer_key (λ y. same_pair (peer_key own) y ≡ false) u.peers key_apart) rests.keyed.peer_keys)

    first_keys : IsDistinct same_allowed (map allowed_key (row ∷ u.allowed))
    first_keys = IsDistinct-cons same_allowed (allowed_key row) (map allowed_key u.allowed) (all_apart (allowed_key row) u.allowed (λ a h. rows_apart a (subst (λ l. Has l a) (sym same_rows) h))) rests.keyed.allowed_keys

    keys : IsDistinct same_allowed (map allowed_key rows)
    keys = IsDistinct-IsPermutation same_allowed allowed_sym (map allowed_key (row ∷ u.allowed)) (map allowed_key rows) (IsPermutation-map allowed_key (row ∷ u.allowed) rows put_rows) first_keys

    address_key : AllowedRow → ℕ × ℕ
    address_key a = (a.network, a.peer)

    is_address : AllowedRow → Bool
    is_address a = not a.is_route

    address_apart : (a : AllowedRow) → Has (filter is_address u.allowed) a → same_pair (address_key row) (address_key a) ≡ false
    address_apart a h =
        let f = from_filter is_address u.allowed a h in
        elim ((rests.allowed a).0 f.0) [
          | inl one ↦ elim (from_append (map (address_row id) n.peers) (map (route_row id) n.routes) a one) [
            | inl address ↦
                let q = from_map (address_row id) n.peers a address in
                subst (λ x. same_pair (address_key row) (address_key x) ≡ false) q.2 (false_right (nat_eq id id) _ (same_ids id p.number q.0.number ∙ eqb_sym p.number q.0.number ∙ fresh q.0 q.1))
            | inr route ↦ let r = from_map (route_row id) n.routes a route in absurd (true≢false (sym (ap is_address r.2 ∙ f.1)))
          ]
          | inr other ↦ and_false (nat_eq id a.network) _ (eqb_sym id a.network ∙ other.1)
        ]

    address_keys : IsDistinct same_pair (map address_key (filter is_address rows))
    address_keys =
        let moved = filter_permutation allowed_key same_allowed allowed_self allowed_sym is_address (row ∷ u.allowed) rows first_keys keys put_rows in
        IsDistinct-IsPermutation same_pair pair_sym (map address_key (row ∷ filter is_address u.allowed)) (map address_key (filter is_address rows)) (IsPermutation-map address_key (row ∷ filter is_address u.allowed) (filter is_address rows) moved)
        (IsDistinct-cons same_pair (address_key row) (map address_key (filter is_address u.allowed)) (all_of address_key (λ y. same_pair (address_key row) y ≡ false) (filter is_address u.allowed) address_apart) rests.keyed.address_keys)

pub peers_come : (ps : List Peer) (id : ℕ) (t u v : Tables) (n : NetworkValue) → AreNumbered n.peers → Rests id t n u → Each (PeerComes id) ps u v → Rests id t (record n { peers = put_peers n.peers ps }) v
peers_come [] id t u v n numbered rests done = subst (λ (x : Tables). Rests id t (record n { peers = n.peers }) x) done rests
peers_come (p ∷ ps) id t u v n numbered rests (m, step, later) =
    peers_come ps id t m v (record n { peers = put_peer n.peers p }) (still_numbered p n.peers numbered) (peer_comes id p t u m n numbered rests step) later
