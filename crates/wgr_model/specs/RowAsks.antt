-- What a request must do to the rows.
use Rattle.std.specs.Prelude.{◌≡◌, ℕ, true, false, Some, Ok}
use Rattle.wgr_core.specs.declared.command.Command.{Command}
use Rattle.wgr_core.specs.declared.reply.Reply.{Reply}
use Rattle.wgr_core.specs.Network.{NetworkValue}
use Rattle.wgr_model.specs.Register.{Bytes, right_of}
use Rattle.wgr_model.specs.Steps.{Event, Ask, ReadOnly, Replied, act, allows, is_done, network_at, outcome, tenant_of_token}
use Rattle.wgr_model.specs.Laws.{Has}
use Rattle.wgr_model.specs.Rows.{NetworkRow, Tables, Replaces, network_entry_of, register_of}
use Rattle.wgr_model.specs.RowLaws.{AreConsistent, IsRowStep}

-- the network of a tenant's id and a name is the one of the row that has both
abbrev pub NetworksAreFound : Type 0
NetworksAreFound = (t : Tables) (w : NetworkRow) → AreConsistent t → Has t.networks w → network_at (register_of t).networks w.tenant w.name ≡ Some (network_entry_of t w).network

-- an event that doesn't change the register, such as a refusal, is a step where every row stays
abbrev pub RefusalsLeaveRows : Type 0
RefusalsLeaveRows = (t : Tables) (e : Event) (new : ℕ) → AreConsistent t → (outcome (register_of t) e new).1 ≡ register_of t → is_done (outcome (register_of t) e new).0 ≡ false
    → IsRowStep t e (outcome (register_of t) e new).0 t

-- so is a command that the right of its token doesn't allow, whether or not there is such a network
abbrev pub ReadersLeaveRows : Type 0
ReadersLeaveRows = (t : Tables) (id : ℕ) (digest name : Bytes) (now : ℕ) (command : Command) → AreConsistent t → tenant_of_token t.tokens digest ≡ Some id → allows (right_of t.readers digest) command ≡ false
    → IsRowStep t (Ask digest name now command) ReadOnly t

-- and so is one that it allows and that doesn't change its network
abbrev pub ReadingsLeaveRows : Type 0
ReadingsLeaveRows = (t : Tables) (w : NetworkRow) (digest : Bytes) (now : ℕ) (command : Command) (reply : Reply) → AreConsistent t → Has t.networks w → tenant_of_token t.tokens digest ≡ Some w.tenant → allows (right_of t.readers digest) command ≡ true
    → act (network_entry_of t w).network now command ≡ Ok (reply, (network_entry_of t w).network) → IsRowStep t (Ask digest w.name now command) (Replied reply (network_entry_of t w).network) t

-- an allowed command that changes its network is a step where a commit replaces the rows of that network
abbrev pub ChangesReplaceRows : Type 0
ChangesReplaceRows = (t u : Tables) (w : NetworkRow) (digest : Bytes) (now : ℕ) (command : Command) (done : Reply × NetworkValue) → AreConsistent t → Has t.networks w → tenant_of_token t.tokens digest ≡ Some w.tenant → allows (right_of t.readers digest) command ≡ true
    → act (network_entry_of t w).network now command ≡ Ok done → Replaces w.id done.1 t u → IsRowStep t (Ask digest w.name now command) (Replied done.0 done.1) u
