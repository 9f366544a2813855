-- What Add and Owner come to on the rows of a network.
use Rattle.std.specs.Prelude.{◌≡◌, ℕ, Bool, true, false, Option, Some, None, Result, Ok, Err}
use Rattle.wgr_text.specs.declared.key.Key.{Key}
use Rattle.wgr_text.specs.Prefix.{AddrValue}
use Rattle.wgr_core.specs.declared.change.Change.{Change}
use Rattle.wgr_core.specs.declared.command.Command.{Command}
use Rattle.wgr_core.specs.declared.command.Command.TheVariants as command
use Rattle.wgr_core.specs.declared.fault.ActFault.{ActFault}
use Rattle.wgr_core.specs.declared.fault.ActFault.TheVariants as act
use Rattle.wgr_core.specs.declared.refusal.Refusal.{Refusal}
use Rattle.wgr_core.specs.declared.reply.Reply.{Reply}
use Rattle.wgr_core.specs.declared.reply.Reply.TheVariants as reply
use Rattle.wgr_core.specs.Network.{NetworkValue, live_at}
use Rattle.wgr_core.specs.Refusals.{join_refusal, of_command}
use Rattle.wgr_peers.specs.Peers.{expired}
use Rattle.wgr_sql.specs.declared.fault.Fault.{Fault}
use Rattle.wgr_rows.specs.declared.act.Admission.{Admission}
use Rattle.wgr_rows.specs.declared.fault.RowFault.{RowFault}
use Rattle.wgr_rows.specs.declared.fault.RowFault.TheVariants as fault
use Rattle.wgr_rows.specs.Settings.{AreSettingsOf}

-- a network that isn't in memory is asked these on its rows, and loaded for the others
abbrev pub is_directed : Command → Bool
is_directed (command.Add key label wanted until keepalive) = true
is_directed (command.Move number wanted) = false
is_directed (command.Revoke number) = false
is_directed (command.Route number prefix) = false
is_directed (command.Unroute prefix) = false
is_directed (command.Renew number until) = false
is_directed (command.Adopt server lines) = false
is_directed command.List = false
is_directed (command.Owner address) = true
is_directed (command.ServerFile form) = false
is_directed (command.PeerFile number form) = false

-- the reply allows no file
abbrev pub is_plain : Reply → Bool
is_plain (reply.Peer peer) = true
is_plain (reply.Revoked number) = true
is_plain (reply.List peers) = true
is_plain (reply.Owner number) = true
is_plain (reply.Adopted added known) = true
is_plain (reply.Server form) = false
is_plain (reply.File number form) = false

-- the answer of a command on rows, as one on a network in memory
abbrev pub as_acted : Result (Reply × Option Change) RowFault → Result (Reply × Option Change) ActFault
as_acted (Ok given) = Ok given
as_acted (Err (fault.Refused why)) = Err (act.Refused (of_command why))
as_acted (Err (fault.Fault why)) = Err act.NoMemory

-- this holds for the fault, if it is one of memory or of the store
abbrev pub IfFails : (Fault → Type 0) → RowFault → Type 0
IfFails P (fault.Refused why) = Unit {0}
IfFails P (fault.Fault why) = P why

-- what the network has for a new peer with this key and this end of its lease, or why none may join
abbrev pub Admits : NetworkValue → ℕ → Key → ℕ → Result Admission RowFault → Type 0
Admits n now key until (Ok found) = (join_refusal (live_at n now) now key until ≡ None) × AreSettingsOf n found.head × (found.expired.items ≡ expired now n.peers)
Admits n now key until (Err (fault.Refused why)) = join_refusal (live_at n now) now key until ≡ Some why
Admits n now key until (Err (fault.Fault why)) = Unit {0}

-- the address, or why there is none
abbrev pub IsPlaced : Result AddrValue Refusal → Result AddrValue RowFault → Type 0
IsPlaced place (Ok address) = place ≡ Ok address
IsPlaced place (Err (fault.Refused why)) = place ≡ Err why
IsPlaced place (Err (fault.Fault why)) = Unit {0}
