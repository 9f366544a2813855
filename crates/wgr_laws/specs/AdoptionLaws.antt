-- What an accepted adoption leaves, and why one is refused.
use Rattle.std.specs.Prelude.{ℕ, ◌≡◌, ◌+◌, ◌<◌, ◌≤◌, ◌⊎◌, true, false, List, length, slice_index_or, Option, Some, is_some, Err, IfOk, IfErr, All}
use Rattle.std.specs.List.{Contains}
use Rattle.wgr_text.specs.declared.key.Key.{Key}
use Rattle.wgr_text.specs.Prefix.{PrefixValue}
use Rattle.wgr_peers.specs.declared.peer.Peer.{Peer}
use Rattle.wgr_peers.specs.declared.peer.Status.{Status}
use Rattle.wgr_core.specs.declared.command.Command.TheVariants as command
use Rattle.wgr_core.specs.declared.refusal.Refusal.TheVariants as refusal
use Rattle.wgr_core.specs.declared.refusal.Refusal.{Refusal}
use Rattle.wgr_core.specs.declared.reply.Reply.{Reply}
use Rattle.wgr_core.specs.declared.reply.Reply.TheVariants as reply
use Rattle.wgr_core.specs.declared.seen_peer.SeenPeer.{SeenPeer}
use Rattle.wgr_peers.specs.Peers.{key_holder, peer_of, same_key}
use Rattle.wgr_peers.specs.Routes.{route_of}
use Rattle.wgr_core.specs.Network.{NetworkValue, IsNetwork, live_at}
use Rattle.wgr_core.specs.Outcome.{Outcome, outcome_of}
use Rattle.wgr_core.specs.Refusals.{of_command, of_line}
use Rattle.wgr_laws.specs.Laws.{is_on_route}

abbrev pub adopt_at : NetworkValue → ℕ → Option Key → List SeenPeer → Outcome
adopt_at n now server lines = outcome_of n now (command.Adopt server lines)

-- ---- peers

-- a live peer stays as it was except for its status
abbrev pub StandingPeersStay : Type 0
StandingPeersStay = (n : NetworkValue) (now number : ℕ) (server : Option Key) (lines : List SeenPeer) (p : Peer) → IsNetwork n → peer_of (live_at n now).peers number ≡ Some p
    → IfOk (adopt_at n now server lines) (λ done. (status : Option Status) × (peer_of done.1.peers number ≡ Some (record p { status = status })))

-- and with its status too where no line has its key
abbrev pub UnseenPeersStay : Type 0
UnseenPeersStay = (n : NetworkValue) (now number : ℕ) (server : Option Key) (lines : List SeenPeer) (p : Peer) → IsNetwork n → peer_of (live_at n now).peers number ≡ Some p
    → All (λ line. same_key p.key line.key ≡ false) lines → IfOk (adopt_at n now server lines) (λ done. peer_of done.1.peers number ≡ Some p)

-- the key of each line is a peer's
abbrev pub LinesArePeers : Type 0
LinesArePeers = (n : NetworkValue) (now : ℕ) (server : Option Key) (lines : List SeenPeer) → IsNetwork n
    → IfOk (adopt_at n now server lines) (λ done. All (λ line. is_some (key_holder done.1.peers line.key) ≡ true) lines)

-- and the key of each new peer is a line's
abbrev pub NewPeersAreLines : Type 0
NewPeersAreLines = (n : NetworkValue) (now : ℕ) (server : Option Key) (lines : List SeenPeer) → IsNetwork n
    → IfOk (adopt_at n now server lines) (λ done. All (λ p. n.next ≤ p.number → (line : SeenPeer) × Contains lines line × (p.key ≡ line.key)) done.1.peers)

-- ---- routes

-- a prefix that no line has leads where it led
abbrev pub UnnamedRoutesStay : Type 0
UnnamedRoutesStay = (n : NetworkValue) (now : ℕ) (server : Option Key) (lines : List SeenPeer) (q : PrefixValue) → IsNetwork n → is_on_route (command.Adopt server lines) q ≡ false
    → IfOk (adopt_at n now server lines) (λ done. route_of done.1.routes q ≡ route_of (live_at n now).routes q)

-- ---- numbers

-- the numbers in the reply are the next ones, in order, and have peers; the next number rises by as
-- many, and each other line has a key that was already held
pub record IsCounted (n : NetworkValue) (seen : List SeenPeer) (done : Reply × NetworkValue) : Type 0 where
  pub added : List ℕ
  pub known : ℕ
  pub reported : done.0 ≡ reply.Adopted added known
  pub in_order : (k d : ℕ) → k < length added → slice_index_or added k d ≡ n.next + k
  pub stand : All (λ number. is_some (peer_of done.1.peers number) ≡ true) added
  pub next : done.1.next ≡ n.next + length added
  pub lines : length added + known ≡ length seen

abbrev pub AdoptionsAreCounted : Type 0
AdoptionsAreCounted = (n : NetworkValue) (now : ℕ) (server : Option Key) (lines : List SeenPeer) → IsNetwork n → IfOk (adopt_at n now server lines) (IsCounted n lines)

-- ---- refusals

-- the running interface is another one
abbrev pub IsOtherServer : NetworkValue → Option Key → Type 0
IsOtherServer n server = (key : Key) × (server ≡ Some key) × (same_key key n.server ≡ false)

-- a refusal is that of another interface, or has the number of a line, counted from the interface's as 1
abbrev pub AdoptRefusals : Type 0
AdoptRefusals = (n : NetworkValue) (now : ℕ) (server : Option Key) (lines : List SeenPeer)
    → IfErr (adopt_at n now server lines) (λ why. ((why ≡ of_command refusal.WrongServer) × IsOtherServer n server) ⊎ ((number : ℕ) × (what : Refusal) × (why ≡ of_line number what) × (2 ≤ number) × (number ≤ length lines + 1)))

-- and another interface is refused, whatever its lines are
abbrev pub OtherServersAreRefused : Type 0
OtherServersAreRefused = (n : NetworkValue) (now : ℕ) (server : Option Key) (lines : List SeenPeer) → IsOtherServer n server → adopt_at n now server lines ≡ Err (of_command refusal.WrongServer)
