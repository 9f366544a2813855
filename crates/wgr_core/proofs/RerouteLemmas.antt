-- A route that comes or goes, as the command's outcome.
use Rattle.std.proofs.Common.{◌≡◌, ℕ, false, nat_eq, List, [], ◌∷◌, map, Option, Some, None, sym, ap, subst, ◌∙◌}
use Rattle.std.specs.Prelude.{Ok}
use Rattle.std.specs.List.{All, filter}
use Rattle.std.proofs.lemmas.List.Elements.{All-filter}
use Rattle.wgr_text.specs.Prefix.{PrefixValue}
use Rattle.wgr_peers.specs.declared.peer.Peer.{Peer}
use Rattle.wgr_core.specs.declared.change.Change.{Change}
use Rattle.wgr_core.specs.declared.refusal.Refusal.{Refusal}
use Rattle.wgr_core.specs.declared.reply.Reply.TheVariants as reply
use Rattle.wgr_peers.specs.Peers.{peer_of}
use Rattle.wgr_peers.specs.Routes.{Routes, AreOrdered, ComesBefore, HasAddr, assign_route, route_of, routes_to, without_route}
use Rattle.wgr_core.specs.Network.{NetworkValue, IsNetwork}
use Rattle.wgr_core.specs.Change.{MeetsLive, changed}
use Rattle.wgr_core.specs.Outcome.{if_routed, if_stands, rerouted, route, unless, unroute}
use Rattle.wgr_core.specs.Refusals.{route_refusal}
use Rattle.wgr_pool.proofs.Lists.{AllPairs-filter}
use Rattle.wgr_peers.proofs.PeerLemmas.{peer_number}
use Rattle.wgr_peers.proofs.RouteLemmas.{filter_assign, filter_without}

-- ---- the routes to one peer

abbrev pub own_of : Routes → ℕ → Routes
own_of routes number = filter (λ r. nat_eq r.1 number) routes

pub own_ordered : (n : NetworkValue) (number : ℕ) → IsNetwork n → AreOrdered (own_of n.routes number)
own_ordered n number is = AllPairs-filter ComesBefore (λ r. nat_eq r.1 number) n.routes is.ordered

pub own_masked : (n : NetworkValue) (number : ℕ) → IsNetwork n → All HasAddr (own_of n.routes number)
own_masked n number is = All-filter (λ r. nat_eq r.1 number) HasAddr n.routes (λ k d h. (is.routes k d h).masked.0)

-- ---- the answer is the outcome

abbrev pub change_of : List ℕ → List Peer → Routes → List PrefixValue → ℕ → Change
change_of removed peers routes_put routes_gone next = record { removed = removed; peers = peers; routes_put = routes_put; routes_gone = routes_gone; next = next }

-- the peer's view and the change, where these are the routes to it after the change
answered : (n : NetworkValue) (removed : List ℕ) (p shown : Peer) (prefixes : List PrefixValue) (c : Change) (routes : Routes)
    → shown ≡ p → prefixes ≡ routes_to routes p.number → c.removed ≡ removed → changed c n ≡ record n { routes = routes }
    → MeetsLive false None n removed (Ok (reply.Peer (record { peer = shown; routes = prefixes }), Some c)) (rerouted n p routes)
answered n removed p shown prefixes c routes same_peer same_routes gone change = (
  ap (λ (q : Peer). reply.Peer (record { peer = q; routes = prefixes })) same_peer ∙ ap (λ (rs : List PrefixValue). reply.Peer (record { peer = p; routes = rs })) same_routes,
  (gone, change),
)

pub meets_routed : (n : NetworkValue) (removed : List ℕ) (number : ℕ) (prefix : PrefixValue) (p shown : Peer) (prefixes : List PrefixValue) (c : Change)
    → IsNetwork n → peer_of n.peers number ≡ Some p → route_refusal n prefix ≡ None
    → shown ≡ p → prefixes ≡ map (λ r. r.0) (assign_route (own_of n.routes number) prefix number)
    → c ≡ record { removed = removed; peers = []; routes_put = (prefix, number) ∷ []; routes_gone = []; next = n.next }
    → MeetsLive false None n removed (Ok (reply.Peer (record { peer = shown; routes = prefixes }), Some c)) (route n number prefix)
meets_routed n removed number prefix p shown prefixes c is stands free same_peer same_routes change =
    let after = assign_route n.routes prefix number in
    let outcome : route n number prefix ≡ rerouted n p after =
    ap (λ (o : Option Peer). if_stands o (λ p. unless (route_refusal n prefix) (rerouted n p after))) stands ∙ ap (λ (o : Option Refusal). unless o (rerouted n p after)) free in
    let led : prefixes ≡ routes_to after p.number =
    same_routes ∙ ap (map (λ (r : PrefixValue × ℕ). r.0)) (sym (filter_assign n.routes prefix number is.ordered)) ∙ ap (routes_to after) (sym (peer_number n.peers number p stands)) in
    subst (MeetsLive false None n removed (Ok (reply.Peer (record { peer = shown; routes = prefixes }), Some c))) (sym outcome)
    (answered n removed p shown prefixes c after same_peer led (ap (λ (c : Change). c.removed) change) (ap (λ (c : Change). changed c n) change))

pub meets_unrouted : (n : NetworkValue) (removed : List ℕ) (number : ℕ) (prefix : PrefixValue) (p shown : Peer) (prefixes : List PrefixValue) (c : Change)
    → route_of n.routes prefix ≡ Some number → peer_of n.peers number ≡ Some p
    → shown ≡ p → prefixes ≡ map (λ r. r.0) (without_route (own_of n.routes number) prefix)
    → c ≡ record { removed = removed; peers = []; routes_put = []; routes_gone = prefix ∷ []; next = n.next }
    → MeetsLive false None n removed (Ok (reply.Peer (record { peer = shown; routes = prefixes }), Some c)) (unroute n prefix)
meets_unrouted n removed number prefix p shown prefixes c leads stands same_peer same_routes change =
    let after = without_route n.routes prefix in
    let outcome : unroute n prefix ≡ rerouted n p after =
    ap (λ (o : Option ℕ). if_routed n o (λ p. rerouted n p after)) leads ∙ ap (λ (o : Option Peer). if_stands o (λ p. rerouted n p after)) stands in
    let left : prefixes ≡ routes_to after p.number =
    same_routes ∙ ap (map (λ (r : PrefixValue × ℕ). r.0)) (sym (filter_without n.routes prefix number)) ∙ ap (routes_to after) (sym (peer_number n.peers number p stands)) in
    subst (MeetsLive false None n removed (Ok (reply.Peer (record { peer = shown; routes = prefixes }), Some c))) (sym outcome)
    (answered n removed p shown prefixes c after same_peer left (ap (λ (c : Change). c.removed) change) (ap (λ (c : Change). changed c n) change))
