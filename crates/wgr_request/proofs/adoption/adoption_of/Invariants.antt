use Rattle.std.proofs.Common.{◌≡◌, ◌++◌, map}
use Rattle.wgr_request.specs.Adopting.{seen_peer}
use Rattle.wgr_request.proofs.adoption.adoption_of.Given as goal

abbrev pub invariant-loop-line : goal.invariant-loop-line
invariant-loop-line l = record {
  seen : l.lines.items ≡ map seen_peer l.yielded;
  all : l.yielded ++ l.line-iterator ≡ l.dump.lines;
}
