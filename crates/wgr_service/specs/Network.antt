-- What happens at the network.
use Rattle.std.specs.Prelude.{◌≡◌, ◌++◌, ℕ, Bool, List, Option, Some, None}
use Rattle.std.specs.declared.net.ip_addr.IpAddr.{IpAddr}
use Rattle.wgr_model.specs.Register.{Bytes}
use Rattle.wgr_service.specs.declared.network.Door.{Door}

-- An address and a port were bound, or a Unix socket for orders at a path. A connection was made to such a socket: its
-- path, what was to be read from it, and what had been written to it. One that came here could not be accepted; or one
-- was accepted: where it came, the clock's time then, what was still to be read from it, and what had been written to it. It
-- was ended: what had been written to it then, and whether a read and a write had failed. Bytes and moments are given
-- where they are known.
pub data Contact : Type 0 where
  bound : IpAddr → ℕ → Contact
  bound_orders : Bytes → Contact
  called : Bytes → Option Bytes → Option Bytes → Contact
  missed : Door → Contact
  came : Door → Option ℕ → Option Bytes → Option Bytes → Contact
  ended : Option Bytes → Bool → Bool → Contact

-- what happened so far, oldest first, where it is known
abbrev pub Log : Type 0
Log = Option (List Contact)

-- these were added to the log
abbrev pub Logs : Log → Log → List Contact → Type 0
Logs None after contacts = Unit {0}
Logs (Some log) after contacts = after ≡ Some (log ++ contacts)
