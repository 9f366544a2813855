use Rattle.std.proofs.Common.{List, length}
use Rattle.wgr_text.specs.Prefix.{PrefixValue}
use Rattle.wgr_dump.specs.Fields.{OneByOne, SpellsMasked}
use Rattle.wgr_dump.specs.PartsLeft.{left}
use Rattle.wgr_dump.proofs.allowed.are_prefixes.Given as goal

abbrev pub invariant-loop-item : goal.invariant-loop-item
invariant-loop-item l = record {
  read : (ps : List PrefixValue) → OneByOne SpellsMasked (left l.rest) ps → (qs : List PrefixValue) × OneByOne SpellsMasked (left l.items) qs;
  left_to_read : (qs : List PrefixValue) → OneByOne SpellsMasked (left l.items) qs → (ps : List PrefixValue) × OneByOne SpellsMasked (left l.rest) ps;
}

abbrev pub decreases-loop-item : goal.decreases-loop-item
decreases-loop-item l = length (left l.rest)
