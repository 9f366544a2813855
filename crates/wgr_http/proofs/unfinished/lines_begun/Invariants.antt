use Rattle.std.proofs.Common.{◌≡◌, ◌+◌, ◌≤◌, drop, true}
use Rattle.wgr_http.specs.Unfinished.{begun_lines}
use Rattle.wgr_http.proofs.unfinished.lines_begun.Given as goal

abbrev pub invariant-loop-byte : goal.invariant-loop-byte
invariant-loop-byte l = record {
  counted : l.count + begun_lines l.fresh (drop l.byte-index l.front) ≡ begun_lines true l.fn.front;
  few : l.count ≤ l.byte-index;
}
