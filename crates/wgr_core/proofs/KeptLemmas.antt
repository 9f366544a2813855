-- A network keeps the rules without some of its peers and routes.
use Rattle.std.proofs.Common.{◌≡◌, ℕ, ◌≤◌, inl, inr, Bool, true, false, not, ◌||◌, cond, nat_eq, List, [], ◌∷◌, length, Some, is_some, refl, sym, ap, ◌∙◌, subst, arith}
use Rattle.std.specs.List.{filter, list_any}
use Rattle.std.proofs.lemmas.List.Elements.{All-filter, All-weaker, filter_passes}
use Rattle.std.proofs.lemmas.List.Filters.{length-filter_both}
use Rattle.wgr_text.specs.Prefix.{PrefixValue}
use Rattle.wgr_peers.specs.declared.peer.Peer.{Peer}
use Rattle.wgr_pool.specs.PrefixTests.{same_prefix, full}
use Rattle.wgr_peers.specs.Peers.{peer_of, IsNumberedBelow, IsApart}
use Rattle.wgr_peers.specs.Routes.{ComesBefore, without_route}
use Rattle.wgr_core.specs.Network.{NetworkValue, IsNetwork, IsMember, IsRoute, is_address, is_among, server_address, without_peers}
use Rattle.wgr_pool.proofs.Lists.{AllPairs-filter, filter_all, list_any-filter_none}
use Rattle.wgr_pool.proofs.Bools.{decide, or_false}
use Rattle.wgr_pool.proofs.PrefixLemmas.{nat_eq_is}

-- the network with the peers and the routes that pass these tests
abbrev pub kept : NetworkValue → (Peer → Bool) → (PrefixValue × ℕ → Bool) → NetworkValue
kept n keeps leads = record n { peers = filter keeps n.peers; routes = filter leads n.routes }

kept_no_address : (n : NetworkValue) (keeps : Peer → Bool) (leads : PrefixValue × ℕ → Bool) (p : PrefixValue) → is_address n p ≡ false → is_address (kept n keeps leads) p ≡ false
kept_no_address n keeps leads p h =
    let parts = or_false (list_any (λ (e : Peer). same_prefix p (full e.address)) n.peers) (same_prefix p (full (server_address n.pool))) h in
    let rest = list_any-filter_none (λ (e : Peer). same_prefix p (full e.address)) keeps n.peers parts.0 in
    ap (λ b. b || same_prefix p (full (server_address n.pool))) rest ∙ parts.1

pub length-filter : {X : Type 0} (p : X → Bool) (xs : List X) → length (filter p xs) ≤ length xs
length-filter p xs = omega (arith, length-filter_both p (λ x. not (p x)) (λ x. refl) xs)

-- where each route that is kept leads to a peer that is kept
pub kept_is_network : (n : NetworkValue) (keeps : Peer → Bool) (leads : PrefixValue × ℕ → Bool) → IsNetwork n
    → ((r : PrefixValue × ℕ) → is_some (peer_of n.peers r.1) ≡ true → leads r ≡ true → is_some (peer_of (filter keeps n.peers) r.1) ≡ true)
    → IsNetwork (kept n keeps leads)
kept_is_network n keeps leads is led =
    let passes = filter_passes leads n.routes in
    let routes = All-filter leads (IsRoute n) n.routes is.routes in
    record {
      pool = is.pool;
      port = is.port;
      capacity = is.capacity;
      next = is.next;
      room = omega (arith, is.room, length-filter keeps n.peers);
      members = All-weaker (IsMember n) (IsMember (kept n keeps leads)) (λ p m. record { numbered = m.numbered; not_server = m.not_server; assignable = m.assignable; alone = m.alone }) (filter keeps n.peers) (All-filter keeps (IsMember n) n.peers is.members);
      numbered = AllPairs-filter IsNumberedBelow keeps n.peers is.numbered;
      apart = AllPairs-filter IsApart keeps n.peers is.apart;
      few_routes = omega (arith, is.few_routes, length-filter leads n.routes);
      routes = λ k d h. let r = routes k d h in record { masked = r.masked; leads = led _ r.leads (passes k d h); no_address = kept_no_address n keeps leads _ r.no_address };
      ordered = AllPairs-filter ComesBefore leads n.routes is.ordered;
    }

-- ---- by numbers

-- a peer is found among those that a test of numbers keeps, if the test keeps its number
pub kept_stands : (keeps : ℕ → Bool) (peers : List Peer) (i : ℕ) → keeps i ≡ true → peer_of (filter (λ p. keeps p.number) peers) i ≡ peer_of peers i
kept_stands keeps [] i stays = refl
kept_stands keeps (p ∷ peers) i stays =
    let rest = kept_stands keeps peers i stays in
    let others = filter (λ (p : Peer). keeps p.number) peers in
    elim (decide (nat_eq p.number i)) [
      | inl here ↦
          let passes : keeps p.number ≡ true = subst (λ (j : ℕ). keeps j ≡ true) (sym (nat_eq_is p.number i here)) stays in
          ap (λ b. peer_of (cond b (p ∷ others) others) i) passes ∙ ap (λ o. cond (nat_eq p.number i) (Some p) o) rest
      | inr apart ↦
          elim (keeps p.number) as (λ b. peer_of (cond b (p ∷ others) others) i ≡ peer_of (p ∷ peers) i) [
            | true ↦ ap (λ o. cond (nat_eq p.number i) (Some p) o) rest
            | false ↦ rest ∙ sym (ap (λ b. cond b (Some p) (peer_of peers i)) apart)
          ]
    ]

pub without_is_network : (n : NetworkValue) (removed : List ℕ) → IsNetwork n → IsNetwork (without_peers n removed)
without_is_network n removed is =
    kept_is_network n (λ p. not (is_among removed p.number)) (λ r. not (is_among removed r.1)) is
    (λ r stands stays. ap is_some (kept_stands (λ i. not (is_among removed i)) n.peers r.1 stays) ∙ stands)

-- ---- one route less

pub unrouted_is_network : (n : NetworkValue) (p : PrefixValue) → IsNetwork n → IsNetwork (record n { routes = without_route n.routes p })
unrouted_is_network n p is =
    subst (λ (ps : List Peer). IsNetwork (record n { peers = ps; routes = without_route n.routes p })) (filter_all n.peers)
    (kept_is_network n (λ p. true) (λ r. not (same_prefix r.0 p)) is (λ r stands leads. ap (λ (ps : List Peer). is_some (peer_of ps r.1)) (filter_all n.peers) ∙ stands))
