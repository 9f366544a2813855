-- A peer in place of the one of its number leaves a network that keeps the rules.
use Rattle.std.proofs.Common.{◌≡◌, ℕ, ◌<◌, ◌≤◌, inl, inr, true, false, ◌||◌, cond, nat_eq, nat_lt, List, [], ◌∷◌, get_or, map, Option, Some, is_some, refl, sym, ap, ◌∙◌, subst, arith, None}
use Rattle.std.specs.List.{All, list_any}
use Rattle.std.proofs.lemmas.Bool.Decides.{nat_tests}
use Rattle.std.proofs.lemmas.List.{length-map}
use Rattle.std.proofs.lemmas.List.Elements.{All-map}
use Rattle.std.proofs.lemmas.List.Folds.{list_any_none}
use Rattle.wgr_peers.specs.declared.peer.Peer.{Peer}
use Rattle.wgr_peers.specs.declared.peer.Status.{Status}
use Rattle.wgr_pool.specs.PrefixTests.{same_address, same_prefix, full}
use Rattle.wgr_pool.specs.Allot.{is_assignable}
use Rattle.wgr_peers.specs.Peers.{peer_of, put_peer, same_key, IsNumberedBelow, IsApart, AreApart, AreNumbered, is_at, is_second}
use Rattle.wgr_core.specs.Network.{NetworkValue, IsNetwork, IsMember, server_address}
use Rattle.wgr_pool.proofs.Lists.{list_any-none}
use Rattle.wgr_pool.proofs.Bools.{decide, or_false, or_left}
use Rattle.wgr_pool.proofs.PrefixLemmas.{nat_eq_is, same_address_self}
use Rattle.wgr_peers.proofs.PeerLemmas.{peer_is, some_stands, apart_turn, others_apart, apart_at}
use Rattle.wgr_peers.proofs.PlaceLemmas.{below_test}
use Rattle.wgr_peers.proofs.PutLemmas.{swapped, put_is_map, map_pairs}
use Rattle.wgr_core.proofs.AloneLemmas.{apart_alone}

-- ---- the peers with another in the place

-- the peer in the place of the one of its number
abbrev pub renewed : Peer → Peer → Peer
renewed q = swapped (λ e. nat_eq e.number q.number) q

not_below : (m n : ℕ) → nat_eq m n ≡ true → nat_lt m n ≡ false
not_below m n h = grind (arith, nat_tests)

pub put_stands : (peers : List Peer) (q : Peer) → AreNumbered peers → is_some (peer_of peers q.number) ≡ true → put_peer peers q ≡ map (renewed q) peers
put_stands peers q pairs some =
    put_is_map IsNumberedBelow (λ e. nat_lt e.number q.number) (λ e. nat_eq e.number q.number) peers q pairs
    (λ y h. not_below y.number q.number h)
    (λ y z l h. below_test y.number q.number (subst (λ (m : ℕ). y.number < m) (nat_eq_is z.number q.number h) l))
    (some_stands peers q.number some)

renewed_number : (q e : Peer) → (renewed q e).number ≡ e.number
renewed_number q e =
    elim (decide (nat_eq e.number q.number)) [
      | inl here ↦ ap (λ b. (cond b q e).number) here ∙ sym (nat_eq_is e.number q.number here)
      | inr apart ↦ ap (λ b. (cond b q e).number) apart
    ]

-- whether a peer stands at a number is as it was
pub renewed_stands : (q : Peer) (peers : List Peer) (i : ℕ) → is_some (peer_of (map (renewed q) peers) i) ≡ is_some (peer_of peers i)
renewed_stands q [] i = refl
renewed_stands q (e ∷ peers) i =
    ap (λ (m : ℕ). is_some (cond (nat_eq m i) (Some (renewed q e)) (peer_of (map (renewed q) peers) i))) (renewed_number q e)
    ∙ elim (nat_eq e.number i) as (λ b. is_some (cond b (Some (renewed q e)) (peer_of (map (renewed q) peers) i)) ≡ is_some (cond b (Some e) (peer_of peers i))) [
      | true ↦ refl
      | false ↦ renewed_stands q peers i
    ]

-- what holds of each peer and of the new one
pub renewed_all : (P : Peer → Type 0) (q : Peer) (peers : List Peer) → All P peers → P q → All P (map (renewed q) peers)
renewed_all P q peers all here = All-map P (renewed q) peers (λ k d h. elim (nat_eq (get_or peers k d).number q.number) as (λ b. P (cond b q (get_or peers k d))) [ true ↦ here | false ↦ all k d h ])

renewed_numbered : (q : Peer) (peers : List Peer) → AreNumbered peers → AreNumbered (map (renewed q) peers)
renewed_numbered q peers pairs =
    map_pairs (renewed q) IsNumberedBelow peers (λ i j d l h. subst (λ (m : ℕ). m < (renewed q (get_or peers j d)).number) (sym (renewed_number q (get_or peers i d))) (subst (λ (m : ℕ). (get_or peers i d).number < m) (sym (renewed_number q (get_or peers j d))) (pairs i j d l h)))

renewed_apart : (q : Peer) (peers : List Peer) → AreNumbered peers → AreApart peers → All (λ e. nat_eq e.number q.number ≡ false → IsApart e q) peers → AreApart (map (renewed q) peers)
renewed_apart q peers numbered pairs others =
    map_pairs (renewed q) IsApart peers (λ i j d l h. two (get_or peers i d) (get_or peers j d) (numbered i j d l h) (pairs i j d l h) (others i d (omega (arith, l, h))) (others j d h))
  where
    behind : (m n k : ℕ) → m < n → nat_eq m k ≡ true → nat_eq n k ≡ false
    behind m n k l h = grind (arith, nat_tests)

    two : (y z : Peer) → y.number < z.number → IsApart y z → (nat_eq y.number q.number ≡ false → IsApart y q) → (nat_eq z.number q.number ≡ false → IsApart z q) → IsApart (renewed q y) (renewed q z)
    two y z l is of_y of_z = elim (decide (nat_eq y.number q.number)) [
      | inl here ↦
          let apart = behind y.number z.number q.number l here in
          subst (λ b. IsApart (cond b q y) (renewed q z)) (sym here) (subst (λ b. IsApart q (cond b q z)) (sym apart) (apart_turn z q (of_z apart)))
      | inr apart ↦
          subst (λ b. IsApart (cond b q y) (renewed q z)) (sym apart)
          (elim (nat_eq z.number q.number) as (λ b. IsApart y (cond b q z)) [ true ↦ of_y apart | false ↦ is ])
    ]

-- ---- the network with another peer in the place

-- what a peer needs to stand in the place of the one of its number
pub record MayReplace (n : NetworkValue) (p q : Peer) : Type 0 where
  pub stands : peer_of n.peers q.number ≡ Some p
  pub key : q.key ≡ p.key
  pub assignable : is_assignable n.pool q.address ≡ true
  pub unowned : All (λ e. nat_eq e.number q.number ≡ false → is_at e q.address ≡ false) n.peers
  pub no_route : All (λ r. same_prefix r.0 (full q.address) ≡ false) n.routes
  pub alone : q.second ≡ None

pub replaced_is_network : (n : NetworkValue) (p q : Peer) → IsNetwork n → MayReplace n p q → IsNetwork (record n { peers = put_peer n.peers q })
replaced_is_network n p q is may =
    let member = peer_is (IsMember n) n.peers q.number p is.members may.stands in
    let others = others_apart n.peers q.number p is.apart may.stands in
    let there : is_some (peer_of n.peers q.number) ≡ true = ap is_some may.stands in
    let now : NetworkValue = record n { peers = map (renewed q) n.peers } in
    let after : IsNetwork now = record {
      pool = is.pool;
      port = is.port;
      capacity = is.capacity;
      next = is.next;
      room = subst (λ (m : ℕ). m ≤ n.capacity) (sym (length-map n.peers (renewed q))) is.room;
      members = renewed_all (IsMember now) q n.peers
          (λ k d h. let m = is.members k d h in record { numbered = m.numbered; not_server = m.not_server; assignable = m.assignable; alone = m.alone })
          (record {
            numbered = subst (λ (m : ℕ). (1 ≤ m) × (m < n.next)) member.1 member.0.numbered;
            not_server = ap (λ k. same_key k n.server) may.key ∙ member.0.not_server;
            assignable = may.assignable;
            alone = may.alone;
          });
      numbered = renewed_numbered q n.peers is.numbered;
      apart = renewed_apart q n.peers is.numbered is.apart (λ k d h other. apart_alone (get_or n.peers k d) q may.alone (ap (same_key (get_or n.peers k d).key) may.key ∙ (others k d h other).0) (may.unowned k d h other));
      few_routes = is.few_routes;
      routes = λ k d h. let r = is.routes k d h in
          record {
            masked = r.masked;
            leads = renewed_stands q n.peers (get_or n.routes k d).1 ∙ r.leads;
            no_address =
                let parts = or_false (list_any (λ (e : Peer). same_prefix (get_or n.routes k d).0 (full e.address)) n.peers) (same_prefix (get_or n.routes k d).0 (full (server_address n.pool))) r.no_address in
                let rest = list_any_none (λ (e : Peer). same_prefix (get_or n.routes k d).0 (full e.address)) (map (renewed q) n.peers)
                (renewed_all (λ (e : Peer). same_prefix (get_or n.routes k d).0 (full e.address) ≡ false) q n.peers (list_any-none (λ (e : Peer). same_prefix (get_or n.routes k d).0 (full e.address)) n.peers parts.0) (may.no_route k d h)) in
                ap (λ b. b || same_prefix (get_or n.routes k d).0 (full (server_address n.pool))) rest ∙ parts.1;
          };
      ordered = is.ordered;
    } in
    subst (λ (ps : List Peer). IsNetwork (record n { peers = ps })) (sym (put_stands n.peers q is.numbered there)) after

-- a route is no peer's address at full length
no_route_at : (n : NetworkValue) (number : ℕ) (p : Peer) → IsNetwork n → peer_of n.peers number ≡ Some p → All (λ r. same_prefix r.0 (full p.address) ≡ false) n.routes
no_route_at n number p is found = λ k d h.
    let r = get_or n.routes k d in
    let parts = or_false (list_any (λ (e : Peer). same_prefix r.0 (full e.address)) n.peers) (same_prefix r.0 (full (server_address n.pool))) (is.routes k d h).no_address in
    (peer_is (λ e. same_prefix r.0 (full e.address) ≡ false) n.peers number p (list_any-none (λ (e : Peer). same_prefix r.0 (full e.address)) n.peers parts.0) found).0

-- a peer that keeps its number, its key and its address
pub amended_is_network : (n : NetworkValue) (p : Peer) (until : ℕ) (status : Option Status) → IsNetwork n → peer_of n.peers p.number ≡ Some p → IsNetwork (record n { peers = put_peer n.peers (record p { until = until; status = status }) })
amended_is_network n p until status is stands =
    let member = peer_is (IsMember n) n.peers p.number p is.members stands in
    let apart = others_apart n.peers p.number p is.apart stands in
    replaced_is_network n p (record p { until = until; status = status }) is
    (record {
      stands = stands;
      key = refl;
      assignable = member.0.assignable;
      unowned = λ k d h other. apart_at p (get_or n.peers k d) p.address (apart_turn (get_or n.peers k d) p (apart k d h other)) (or_left (same_address p.address p.address) (is_second p p.address) (same_address_self p.address));
      no_route = no_route_at n p.number p is stands;
      alone = member.0.alone;
    })
