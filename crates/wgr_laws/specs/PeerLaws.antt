-- What a command makes of its own peer.
use Rattle.std.specs.Prelude.{ℕ, ◌≡◌, ◌+◌, List, Option, Some, None, IfOk, IfSome}
use Rattle.wgr_text.specs.declared.key.Key.{Key}
use Rattle.wgr_text.specs.Prefix.{AddrValue}
use Rattle.wgr_peers.specs.declared.peer.Peer.{Peer}
use Rattle.wgr_core.specs.declared.command.Command.{Command}
use Rattle.wgr_core.specs.declared.command.Command.TheVariants as command
use Rattle.wgr_core.specs.declared.reply.PeerView.{PeerView}
use Rattle.wgr_core.specs.declared.reply.Reply.TheVariants as reply
use Rattle.wgr_peers.specs.Peers.{peer_of}
use Rattle.wgr_peers.specs.Routes.{routes_to}
use Rattle.wgr_core.specs.Network.{NetworkValue, IsNetwork, live_at}
use Rattle.wgr_core.specs.Outcome.{outcome_of}

-- a new peer has the next number and what was asked for it, and no status
abbrev pub AddedAsAsked : Type 0
AddedAsAsked = (n : NetworkValue) (now : ℕ) (key : Key) (label : List ℕ) (wanted : Option AddrValue) (until keepalive : ℕ) → IsNetwork n
    → IfOk (outcome_of n now (command.Add key label wanted until keepalive)) (λ done. (a : AddrValue) × IfSome wanted (λ b. a ≡ b)
    × (peer_of done.1.peers n.next ≡ Some (record { number = n.next; key = key; label = label; address = a; second = None; until = until; keepalive = keepalive; status = None })))

-- the next number is the one after it
abbrev pub AddedCounts : Type 0
AddedCounts = (n : NetworkValue) (now : ℕ) (key : Key) (label : List ℕ) (wanted : Option AddrValue) (until keepalive : ℕ)
    → IfOk (outcome_of n now (command.Add key label wanted until keepalive)) (λ done. done.1.next ≡ n.next + 1)

-- a peer that moves keeps all but its address
abbrev pub MovedAlone : Type 0
MovedAlone = (n : NetworkValue) (now number : ℕ) (wanted : Option AddrValue) (p : Peer) → peer_of (live_at n now).peers number ≡ Some p
    → IfOk (outcome_of n now (command.Move number wanted)) (λ done. (a : AddrValue) × IfSome wanted (λ b. a ≡ b) × (peer_of done.1.peers number ≡ Some (record p { address = a })))

-- a peer that is renewed keeps all but the end of its lease
abbrev pub RenewedAlone : Type 0
RenewedAlone = (n : NetworkValue) (now number until : ℕ) (p : Peer) → peer_of (live_at n now).peers number ≡ Some p
    → IfOk (outcome_of n now (command.Renew number until)) (λ done. peer_of done.1.peers number ≡ Some (record p { until = until }))

-- all three leave the routes to live peers as they were
abbrev pub LeavesRoutes : NetworkValue → ℕ → Command → Type 0
LeavesRoutes n now asked = IfOk (outcome_of n now asked) (λ done. done.1.routes ≡ (live_at n now).routes)

abbrev pub RoutesStay : Type 0
RoutesStay = (n : NetworkValue) (now number until keepalive : ℕ) (key : Key) (label : List ℕ) (wanted : Option AddrValue)
    → LeavesRoutes n now (command.Add key label wanted until keepalive) × LeavesRoutes n now (command.Move number wanted) × LeavesRoutes n now (command.Renew number until)

-- a peer in the reply to a change is exactly so in the network, and the routes with it are those that lead to it
abbrev pub RepliesShowWhatStands : Type 0
RepliesShowWhatStands = (n : NetworkValue) (now : ℕ) (asked : Command) (v : PeerView) → IsNetwork n
    → IfOk (outcome_of n now asked) (λ done. done.0 ≡ reply.Peer v → (peer_of done.1.peers v.peer.number ≡ Some v.peer) × (v.routes ≡ routes_to done.1.routes v.peer.number))
