-- What stays in memory of the networks, and how it relates to the rows.
use Rattle.std.specs.Prelude.{◌≡◌, ℕ, false, Option, is_some, nat_eq}
use Rattle.wgr_core.specs.Change.{applied_if}
use Rattle.wgr_core.specs.Network.{NetworkValue}
use Rattle.wgr_core.specs.declared.change.Change.{Change}
use Rattle.wgr_model.specs.Rows.{IsFormed, Tables}
use Rattle.wgr_model.specs.Steps.{AddNetwork, AddTenant, EndToken, Event, Grant}
use Rattle.wgr_opening.specs.Outlines.{AreOutlines}
use Rattle.wgr_register.specs.Cached.{AreCurrent, AreOthersCurrent, files_of}
use Rattle.wgr_register.specs.Known.{AreOtherOutlines, known_outline}
use Rattle.wgr_register.specs.Loaded.{AreFormed, AreOthersFormed, entries_of}
use Rattle.wgr_register.specs.declared.memory.Memory.{Memory}

-- each network, each file and each outline in memory is of these rows
pub record IsMemoryOf (m : Memory) (t : Tables) : Type 0 where
  pub networks : AreFormed (entries_of m.networks) t
  pub files : AreCurrent (files_of m.files) t
  pub outlines : AreOutlines (known_outline m.outlines) t

-- so is each that isn't of the network of this id
pub record IsMemoryOfOthers (id : ℕ) (m : Memory) (t : Tables) : Type 0 where
  pub networks : AreOthersFormed id (entries_of m.networks) t
  pub files : AreOthersCurrent id (files_of m.files) t
  pub outlines : AreOtherOutlines id (known_outline m.outlines) t

-- the rows u are those of t after this change of the network n of this id, if there is a change
pub record IsAfter (id : ℕ) (n : NetworkValue) (change : Option Change) (t u : Tables) : Type 0 where
  pub own : IsFormed u id (applied_if change n)
  pub others : (other : ℕ) (m : NetworkValue) → nat_eq id other ≡ false → IsFormed t other m → IsFormed u other m
  pub same : is_some change ≡ false → u ≡ t

-- an order that ends no network
abbrev pub EndsNone : Event → Type 0
EndsNone (AddTenant name) = Unit {0}
EndsNone (Grant tenant digest right) = Unit {0}
EndsNone (EndToken digest) = Unit {0}
EndsNone (AddNetwork tenant name settings) = Unit {0}
EndsNone event = ⊥
