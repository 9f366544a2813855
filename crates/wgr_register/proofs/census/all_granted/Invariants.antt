use Rattle.std.proofs.Common.{◌≡◌, ◌++◌, List, map}
use Rattle.std.specs.List.Sorted.{IsSorted}
use Rattle.std.specs.Ordering.{nat_cmp}
use Rattle.std.specs.Cmp.Lexicographic.{slice_cmp}
use Rattle.wgr_register.specs.Census.{with_right}
use Rattle.wgr_register.proofs.census.all_granted.Given as goal

-- those that have their right, and those that are left
abbrev pub invariant-loop-token : goal.invariant-loop-token
invariant-loop-token l = record {
  granted : IsSorted (slice_cmp nat_cmp) l.fn.readers → map (with_right l.fn.readers) l.fn.tokens.items ≡ l.all.items ++ map (with_right l.fn.readers) l.token-iterator.rest.items;
}
