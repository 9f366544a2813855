-- Slots of routes: prefixes in order, each with a number that leads to a peer or is no peer's.
use Rattle.std.specs.Prelude.{ℕ, nat_eq, All}
use Rattle.std.specs.HashSet.{HashSet, contains}
use Rattle.std.specs.declared.hash.FoldHasher.{FoldHasher}
use Rattle.std.specs.declared.hash.BuildHasherDefault.{BuildHasherDefault}
use Rattle.wgr_text.specs.Prefix.{PrefixValue, IsAddr, IsPrefix}
use Rattle.wgr_pool.specs.HeldSpans.{standing}
use Rattle.wgr_peers.specs.Routes.{Routes, AreOrdered}

-- the route's prefix is valid: its number fits the family, and its host bits are zero
abbrev pub IsMasked : PrefixValue × ℕ → Type 0
IsMasked r = IsAddr r.0.address × IsPrefix r.0

-- each prefix is valid and is before the next one
pub record AreSlots (slots : Routes) : Type 0 where
  pub ordered : AreOrdered slots
  pub masked : All IsMasked slots

-- the routes: the slots except those whose number means that they are vacant
abbrev pub filled : HashSet ℕ (BuildHasherDefault FoldHasher) → Routes → Routes
filled vacant slots = standing (contains nat_eq vacant) slots
