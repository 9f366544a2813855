use Rattle.std.proofs.Common.{◌≡◌, ◌≤◌, ℕ, List, length}
use Rattle.std.specs.Io.KnownBytes.{Consumes}
use Rattle.std.specs.List.{concat}
use Rattle.wgr_io.specs.Device.{AddsPieces, AllGave}
use Rattle.wgr_io.proofs.whole.read_to_end.Given as goal

abbrev pub invariant-loop : goal.invariant-loop
invariant-loop g l = record {
  consumed : Consumes (g.R.Read.remaining l.fn.input) (g.R.Read.remaining l.input) l.all.items;
  pieces : (pieces : List (List ℕ)) × AddsPieces (g.R.Read.pieces l.fn.input) (g.R.Read.pieces l.input) pieces × AllGave pieces × (l.all.items ≡ concat pieces);
  sound : g.R.Read.failed l.input ≡ g.R.Read.failed l.fn.input;
  counted : l.counter ≤ length l.all.items;
}
