-- The networks that a register keeps in memory, and how they relate to its rows.
use Rattle.std.specs.Prelude.{◌≡◌, ℕ, IsTrue, false, List, [], Option, None, Some, Result, Ok, Err, nat_eq}
use Rattle.std.specs.Map.{lookup}
use Rattle.std.specs.declared.vec.Vec.{Vec}
use Rattle.std.specs.declared.alloc.Global.{Global}
use Rattle.lru.specs.LruCache.{LruCache}
use Rattle.sqlite.specs.State.{HasCleanDisk}
use Rattle.sqlite.specs.Store.{Ghosts}
use Rattle.sqlite.specs.Held.{Held, state}
use Rattle.wgr_core.specs.Network.{NetworkValue}
use Rattle.wgr_model.specs.Rows.{IsFormed, Tables}
use Rattle.wgr_columns.specs.Decode.{tables_of}
use Rattle.wgr_register.specs.declared.fault.AskFault.{AskFault}
use Rattle.wgr_register.specs.declared.fault.AskFault.TheVariants as fault
use Rattle.wgr_register.specs.declared.fault.Done.{Done}
use Rattle.wgr_register.specs.declared.fault.OrderFault.{OrderFault}
use Rattle.wgr_register.specs.declared.fault.OrderFault.TheVariants as order_fault

-- networks by the ids of their rows
abbrev pub Loaded : Type 0
Loaded = List (ℕ × NetworkValue)

abbrev pub entries_of : Option (LruCache ℕ NetworkValue) → Loaded
entries_of None = []
entries_of (Some cache) = cache.entries

-- each network that is found is the one that the rows of its id form
abbrev pub AreFormed : Loaded → Tables → Type 0
AreFormed loaded t = (id : ℕ) (n : NetworkValue) → lookup (nat_eq id) loaded ≡ Some n → IsFormed t id n

-- and so is each except the one of this id
abbrev pub AreOthersFormed : ℕ → Loaded → Tables → Type 0
AreOthersFormed id loaded t = (other : ℕ) (n : NetworkValue) → nat_eq id other ≡ false → lookup (nat_eq other) loaded ≡ Some n → IsFormed t other n

-- this holds for the rows that the connection shows, while it is open and its disk returns what was written
abbrev pub Shows : {S : Type 0} → Ghosts S → Held S → (Tables → Type 0) → Type 0
Shows g conn P = HasCleanDisk (state g conn) → IsTrue (state g conn).is_open → P (tables_of (state g conn).now)

-- this holds, or a request ended with a fault
abbrev pub UnlessFault : Result (Vec ℕ Global) AskFault → Type 0 → Type 0
UnlessFault (Ok text) P = P
UnlessFault (Err (fault.Refused why)) P = P
UnlessFault (Err fault.UnknownToken) P = P
UnlessFault (Err fault.ReadOnly) P = P
UnlessFault (Err fault.NoSuchNetwork) P = P
UnlessFault (Err (fault.Fault why)) P = Unit {0}

-- this holds, or an order ended with a fault
abbrev pub UnlessUndone : Result Done OrderFault → Type 0 → Type 0
UnlessUndone (Ok done) P = P
UnlessUndone (Err (order_fault.Refused why)) P = P
UnlessUndone (Err (order_fault.Fault why)) P = Unit {0}
