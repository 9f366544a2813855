-- Values as parameters of a statement.
use Rattle.std.specs.Prelude.{ℕ, pos, Option, Some, None}
use Rattle.sqlite.specs.declared.types.ValueRef.{ValueRef}
use Rattle.sqlite.specs.declared.types.ValueRef.TheVariants.{Null, Int}
use Rattle.wgr_peers.specs.declared.peer.Status.{Status}

-- a number of a status, or NULL where there is none
abbrev pub status_value : (Status → ℕ) → Option Status → ValueRef
status_value pick None = Null
status_value pick (Some s) = Int (pos (pick s))
