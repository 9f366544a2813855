-- A change of nothing.
use Rattle.std.proofs.Common.{◌≡◌, ℕ, not, List, [], ◌∷◌, filter, refl, ap, ap₂}
use Rattle.wgr_text.specs.Prefix.{PrefixValue}
use Rattle.wgr_peers.specs.declared.peer.Peer.{Peer}
use Rattle.wgr_core.specs.Change.{applied}
use Rattle.wgr_core.specs.Network.{NetworkValue, is_among}

all_kept : {A : Type 0} (f : A → ℕ) (xs : List A) → filter (λ x. not (is_among [] (f x))) xs ≡ xs
all_kept f [] = refl
all_kept f (x ∷ xs) = ap (λ ys. x ∷ ys) (all_kept f xs)

nothing_applied : (n : NetworkValue) → applied (record { removed = []; peers = []; routes_put = []; routes_gone = []; next = n.next }) n ≡ n
nothing_applied n = ap₂ (λ ps rs. record n { peers = ps; routes = rs }) (all_kept (λ (p : Peer). p.number) n.peers) (all_kept (λ (r : PrefixValue × ℕ). r.1) n.routes)

-- it leaves the network
pub nothing_leaves : (n : NetworkValue) (removed : List ℕ) (peers : List Peer) (routes_put : List (PrefixValue × ℕ)) (routes_gone : List PrefixValue) (next : ℕ) → removed ≡ [] → peers ≡ [] → routes_put ≡ [] → routes_gone ≡ [] → next ≡ n.next
    → applied (record { removed = removed; peers = peers; routes_put = routes_put; routes_gone = routes_gone; next = next }) n ≡ n
nothing_leaves n removed peers routes_put routes_gone next a b c d e = rw a (rw b (rw c (rw d (rw e (nothing_applied n)))))
