use Rattle.std.proofs.Common.{◌-◌, ◌≡◌, ◌≤◌, ℕ, List, All, None, length, take}
use Rattle.std.specs.Io.KnownBytes.{Consumes}
use Rattle.std.specs.List.{concat}
use Rattle.wgr_io.specs.Device.{AddsPieces}
use Rattle.wgr_words.specs.Line.{IsNoEnd, before_newline}
use Rattle.wgr_words.proofs.input.read_first_line.Given as goal

abbrev pub invariant-loop-len : goal.invariant-loop-len
invariant-loop-len g l = record {
  within : l.len ≤ 4096;
  consumed : Consumes (g.R.Read.remaining l.fn.input) (g.R.Read.remaining l.input) (take l.len l.front);
  long : length l.front ≡ 4096;
  none : before_newline (take l.len l.front) ≡ None;
  pieces : (pieces : List (List ℕ)) × AddsPieces (g.R.Read.pieces l.fn.input) (g.R.Read.pieces l.input) pieces × All IsNoEnd pieces × (take l.len l.front ≡ concat pieces);
  sound : g.R.Read.failed l.input ≡ g.R.Read.failed l.fn.input;
}

abbrev pub decreases-loop-len : goal.decreases-loop-len
decreases-loop-len g l = 4096 - l.len
