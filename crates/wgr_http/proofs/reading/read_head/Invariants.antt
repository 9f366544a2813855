use Rattle.std.proofs.Common.{◌≡◌, ◌≤◌, ◌-◌, ℕ, List, Option, length}
use Rattle.std.specs.Io.KnownBytes.{Consumes}
use Rattle.wgr_http.specs.Reading.{IsReadOn}
use Rattle.wgr_http.proofs.reading.read_head.Given as goal

abbrev pub invariant-loop-message : goal.invariant-loop-message
invariant-loop-message g l = record {
  bytes : (start : Option (List ℕ)) → Consumes start (g.R.Read.remaining l.fn.input) l.fn.message.items → Consumes start (g.R.Read.remaining l.input) l.message.items;
  on : (start : Option (List (List ℕ))) → IsReadOn start (g.R.Read.pieces l.fn.input) l.fn.message.items → IsReadOn start (g.R.Read.pieces l.input) l.message.items;
  short : length l.message.items ≤ 8193;
  sound : g.R.Read.failed l.input ≡ g.R.Read.failed l.fn.input;
  chunk : length l.chunk ≡ length l.fn.chunk;
}

abbrev pub decreases-loop-message : goal.decreases-loop-message
decreases-loop-message g l = 8193 - length l.message.items
