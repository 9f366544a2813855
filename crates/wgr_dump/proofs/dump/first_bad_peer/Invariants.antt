use Rattle.std.proofs.Common.{◌≤◌, ◌+◌, ℕ, List, length}
use Rattle.wgr_dump.specs.Fields.{OneByOne}
use Rattle.wgr_dump.specs.Dump.{LineValue, IsPeerLine}
use Rattle.wgr_text.specs.Lines.{lines_of}
use Rattle.wgr_dump.specs.Fault.{IsBadPeer}
use Rattle.wgr_dump.proofs.dump.first_bad_peer.Given as goal

abbrev pub invariant-loop-rest : goal.invariant-loop-rest
invariant-loop-rest l = record {
  fits : l.good + length l.rest ≤ length l.peers;
  read : (lines : List LineValue) → OneByOne IsPeerLine (lines_of l.rest) lines → (all : List LineValue) × OneByOne IsPeerLine (lines_of l.peers) all;
  bad : (line n : ℕ) → IsBadPeer (lines_of l.rest) line n → IsBadPeer (lines_of l.peers) (l.good + line) n;
}

abbrev pub decreases-loop-rest : goal.decreases-loop-rest
decreases-loop-rest l = length l.rest
