-- The network without one peer.
use Rattle.std.proofs.Common.{◌≡◌, ℕ, Bool, true, false, not, ◌||◌, nat_eq, List, [], ◌∷◌, Option, get_or, refl, ap, ◌∙◌}
use Rattle.std.specs.List.{filter}
use Rattle.wgr_text.specs.Prefix.{PrefixValue}
use Rattle.wgr_peers.specs.declared.peer.Peer.{Peer}
use Rattle.wgr_peers.specs.Peers.{without_peer}
use Rattle.wgr_peers.specs.PeersLeft.{peers_after}
use Rattle.wgr_peers.specs.Routes.{Routes}
use Rattle.wgr_core.specs.Change.{without_routes}
use Rattle.wgr_core.specs.Network.{NetworkValue, is_among, without_peers}
use Rattle.wgr_pool.proofs.Lists.{filter_agree_on}

among_one : (number n : ℕ) → not (nat_eq n number) ≡ not (is_among (number ∷ []) n)
among_one number n = one (nat_eq n number)
  where
    one : (b : Bool) → not b ≡ not (b || false)
    one true = refl
    one false = refl

-- a network without one peer
pub without_one : (n : NetworkValue) (number next : ℕ) → record n { peers = without_peer n.peers number; routes = filter (λ (r : PrefixValue × ℕ). not (nat_eq r.1 number)) n.routes; next = next } ≡ record (without_peers n (number ∷ [])) { next = next }
without_one n number next =
    ap (λ (ps : List Peer). record n { peers = ps; routes = filter (λ (r : PrefixValue × ℕ). not (nat_eq r.1 number)) n.routes; next = next })
    (filter_agree_on (λ (p : Peer). not (nat_eq p.number number)) (λ p. not (is_among (number ∷ []) p.number)) n.peers (λ k d h. among_one number (get_or n.peers k d).number))
    ∙ ap (λ (rs : Routes). record n { peers = (without_peers n (number ∷ [])).peers; routes = rs; next = next })
    (filter_agree_on (λ (r : PrefixValue × ℕ). not (nat_eq r.1 number)) (λ r. not (is_among (number ∷ []) r.1)) n.routes (λ k d h. among_one number (get_or n.routes k d).1))

pub left_by_one : (v n : NetworkValue) (number next : ℕ) (peers : List Peer) (routes : Routes) → v ≡ n → peers ≡ without_peer v.peers number → routes ≡ filter (λ (r : PrefixValue × ℕ). not (nat_eq r.1 number)) v.routes
    → record v { peers = peers; routes = routes; next = next } ≡ record (without_peers n (number ∷ [])) { next = next }
left_by_one v n number next peers routes same peers_left routes_left =
    ap (λ (ps : List Peer). record v { peers = ps; routes = routes; next = next }) peers_left
    ∙ ap (λ (rs : Routes). record v { peers = without_peer v.peers number; routes = rs; next = next }) routes_left
    ∙ without_one v number next
    ∙ ap (λ (m : NetworkValue). record (without_peers m (number ∷ [])) { next = next }) same

-- the network without some peers and some routes, and with one in the place of another
pub left_by_some : (v n : NetworkValue) (gone : List ℕ) (coming : Option Peer) (prefixes : List PrefixValue) (next : ℕ) (peers : List Peer) (kept routes : Routes) → v ≡ n
    → peers ≡ peers_after v.peers gone coming → kept ≡ filter (λ (r : PrefixValue × ℕ). not (is_among gone r.1)) v.routes → routes ≡ without_routes kept prefixes
    → record v { peers = peers; routes = routes; next = next } ≡ record n { peers = peers_after n.peers gone coming; routes = without_routes (filter (λ r. not (is_among gone r.1)) n.routes) prefixes; next = next }
left_by_some v n gone coming prefixes next peers kept routes same peers_left routes_kept routes_left =
    ap (λ (ps : List Peer). record v { peers = ps; routes = routes; next = next }) peers_left
    ∙ ap (λ (rs : Routes). record v { peers = peers_after v.peers gone coming; routes = rs; next = next }) (routes_left ∙ ap (λ (rs : Routes). without_routes rs prefixes) routes_kept)
    ∙ ap (λ (m : NetworkValue). record m { peers = peers_after m.peers gone coming; routes = without_routes (filter (λ r. not (is_among gone r.1)) m.routes) prefixes; next = next }) same
