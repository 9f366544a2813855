use Rattle.std.proofs.Common.{◌≡◌, take}
use Rattle.std.specs.Prelude.{flat_map}
use Rattle.std.specs.Io.KnownBytes.{Appends}
use Rattle.wgr_office.specs.Serving.{written_reply}
use Rattle.wgr_service.proofs.batch.write_replies.Given as goal

-- the replies of the answers so far are written, and no write has failed
abbrev pub invariant-loop-answer : goal.invariant-loop-answer
invariant-loop-answer g l = record {
  sound : g.W.Write.failed l.out ≡ g.W.Write.failed l.fn.out;
  written : Appends (g.W.Write.contents l.fn.out) (g.W.Write.contents l.out) (flat_map written_reply (take l.answer-index l.answers));
}
