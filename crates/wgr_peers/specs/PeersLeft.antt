-- Peers of which some are removed, and one is added.
use Rattle.std.specs.Prelude.{ℕ, ◌≡◌, true, false, not, nat_eq, List, Option, Some, None, IfSome, is_some}
use Rattle.std.specs.List.{filter, list_any}
use Rattle.wgr_peers.specs.declared.peer.Peer.{Peer}
use Rattle.wgr_peers.specs.Peers.{key_holder, peer_of, put_peer}

-- the peers whose number is none of these
abbrev pub peers_left : List Peer → List ℕ → List Peer
peers_left peers gone = filter (λ p. not (list_any (nat_eq p.number) gone)) peers

-- those with the added one, at its number
abbrev pub peers_after : List Peer → List ℕ → Option Peer → List Peer
peers_after peers gone None = peers_left peers gone
peers_after peers gone (Some p) = put_peer (peers_left peers gone) p

-- the peer of its number has as many addresses
abbrev pub HasItsPlaces : List Peer → Peer → Type 0
HasItsPlaces peers p = is_some p.second ≡ true → IfSome (peer_of peers p.number) (λ q. is_some q.second ≡ true)

-- none is added, or one with the number and the key of a peer that stays, and no more addresses
abbrev pub OnlyRenews : List Peer → List ℕ → Option Peer → Type 0
OnlyRenews peers gone None = Unit {0}
OnlyRenews peers gone (Some p) = (key_holder peers p.key ≡ Some p.number) × (list_any (nat_eq p.number) gone ≡ false) × HasItsPlaces peers p
