use Rattle.std.proofs.Common.{◌≡◌, length}
use Rattle.std.specs.Prelude.{All}
use Rattle.wgr_prog.specs.Answering.{IsAskedAt}
use Rattle.wgr_prog.proofs.requests.read_requests.Given as goal

-- the requests in the files so far, each at the moment
abbrev pub invariant-loop-file : goal.invariant-loop-file
invariant-loop-file l = record {
  each : length l.requests.items ≡ l.file-index;
  asked : All (IsAskedAt l.now) l.requests.items;
}
