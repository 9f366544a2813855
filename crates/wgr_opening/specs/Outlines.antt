-- What is known of networks that aren't in memory.
use Rattle.std.specs.Prelude.{◌≡◌, ℕ, Option, Some, nat_eq}
use Rattle.std.specs.HashMap.{get}
use Rattle.wgr_core.specs.Network.{NetworkValue}
use Rattle.wgr_outline.specs.Outline.{IsOutline}
use Rattle.wgr_outline.specs.declared.outline.Outline.{Outline}
use Rattle.wgr_model.specs.Rows.{IsFormed, Tables}
use Rattle.wgr_tables.specs.Stored.{IsStored}
use Rattle.wgr_opening.specs.declared.outlines.Outlines.{Outlines}

-- the outline of the network of this id, if one is known
abbrev pub outline_in : Outlines → ℕ → Option Outline
outline_in outlines id = get nat_eq outlines.outlines id

-- what is known of an id holds of the network that its rows form
abbrev pub AreOutlines : (ℕ → Option Outline) → Tables → Type 0
AreOutlines outlines t = (id : ℕ) (outline : Outline) → outlines id ≡ Some outline → (n : NetworkValue) × IsFormed t id n × IsOutline outline n

-- the same of networks that their rows store
abbrev pub AreStoredOutlines : (ℕ → Option Outline) → Tables → Type 0
AreStoredOutlines outlines t = (id : ℕ) (outline : Outline) → outlines id ≡ Some outline → (n : NetworkValue) × IsStored t id n × IsOutline outline n
