-- The forms of a peer's fields. Each type of the code guarantees its own; here they are stated for the
-- definitions' values.
use Rattle.std.specs.Prelude.{ℕ, ◌≡◌, ◌≤◌, length, IfSome, All}
use Rattle.wgr_text.specs.declared.key.Key.{Key}
use Rattle.wgr_peers.specs.declared.peer.Peer.{Peer}
use Rattle.wgr_peers.specs.declared.peer.Status.{Status}
use Rattle.wgr_peers.specs.Label.{IsLabel}
use Rattle.wgr_peers.specs.Limits.{IsCount, IsLeaseEnd}
use Rattle.wgr_core.specs.declared.command.Command.{Command}
use Rattle.wgr_core.specs.declared.command.Command.TheVariants as command
use Rattle.wgr_core.specs.declared.seen_peer.SeenPeer.{SeenPeer}
use Rattle.wgr_core.specs.Network.{NetworkValue}

-- a key has 32 bytes
abbrev pub IsKey : Key → Type 0
IsKey key = length key.0 ≡ 32

abbrev pub IsKeepalive : ℕ → Type 0
IsKeepalive seconds = seconds ≤ 65535

pub record IsStatus (s : Status) : Type 0 where
  pub handshake : IsCount s.handshake
  pub received : IsCount s.received
  pub sent : IsCount s.sent

-- the fields of a peer that no rule of its network mentions are of their forms
pub record IsPeerFormed (p : Peer) : Type 0 where
  pub key : IsKey p.key
  pub label : IsLabel p.label
  pub until : IsLeaseEnd p.until
  pub keepalive : IsKeepalive p.keepalive
  pub status : IfSome p.status IsStatus

-- so are those of a network and of each of its peers
abbrev pub HasForms : NetworkValue → Type 0
HasForms n = IsKey n.server × All IsPeerFormed n.peers

-- what a line of a dump reports is of its form
pub record IsFormedLine (line : SeenPeer) : Type 0 where
  pub key : IsKey line.key
  pub status : IsStatus line.status
  pub keepalive : IsKeepalive line.keepalive

-- and so are the fields of a command
abbrev pub IsFormedCommand : Command → Type 0
IsFormedCommand (command.Add key label wanted until keepalive) = IsKey key × IsLabel label × IsLeaseEnd until × IsKeepalive keepalive
IsFormedCommand (command.Move number wanted) = Unit {0}
IsFormedCommand (command.Revoke number) = Unit {0}
IsFormedCommand (command.Route number prefix) = Unit {0}
IsFormedCommand (command.Unroute prefix) = Unit {0}
IsFormedCommand (command.Renew number until) = IsLeaseEnd until
IsFormedCommand (command.Adopt server lines) = All IsFormedLine lines
IsFormedCommand command.List = Unit {0}
IsFormedCommand (command.Owner address) = Unit {0}
IsFormedCommand (command.ServerFile form) = Unit {0}
IsFormedCommand (command.PeerFile number form) = Unit {0}
