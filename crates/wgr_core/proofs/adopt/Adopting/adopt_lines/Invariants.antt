use Rattle.std.proofs.Common.{◌≡◌, ◌+◌, drop}
use Rattle.wgr_core.specs.Adoption.{adopt_lines}
use Rattle.wgr_core.specs.Draft.{numbered_lines}
use Rattle.wgr_core.proofs.adopt.Adopting.adopt_lines.Given as goal

abbrev pub invariant-loop-index : goal.invariant-loop-index
invariant-loop-index l = record {
  left : adopt_lines l.self.so_far (numbered_lines l.pool l.naming (l.index + 2) (drop l.index l.lines)) ≡ adopt_lines l.initial.self.so_far (numbered_lines l.pool l.naming 2 l.lines);
  kept : l.self ≡ record l.initial.self { so_far = l.self.so_far };
}
