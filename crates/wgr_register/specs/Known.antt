-- What a register knows of networks that aren't in memory.
use Rattle.std.specs.Prelude.{◌≡◌, ℕ, false, Option, None, Some, nat_eq}
use Rattle.wgr_core.specs.Network.{NetworkValue}
use Rattle.wgr_outline.specs.Outline.{IsOutline}
use Rattle.wgr_outline.specs.declared.outline.Outline.{Outline}
use Rattle.wgr_model.specs.Rows.{IsFormed, Tables}
use Rattle.wgr_opening.specs.Outlines.{outline_in}
use Rattle.wgr_opening.specs.declared.outlines.Outlines.{Outlines}

-- the outline of the network of this id, if one is known
abbrev pub known_outline : Option Outlines → ℕ → Option Outline
known_outline None id = None
known_outline (Some outlines) id = outline_in outlines id

-- what is known of an id holds of the network that its rows form, but for that of this id
abbrev pub AreOtherOutlines : ℕ → (ℕ → Option Outline) → Tables → Type 0
AreOtherOutlines id outlines t = (other : ℕ) (outline : Outline) → nat_eq id other ≡ false → outlines other ≡ Some outline → (n : NetworkValue) × IsFormed t other n × IsOutline outline n
