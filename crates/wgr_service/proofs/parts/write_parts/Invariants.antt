use Rattle.std.proofs.Common.{◌≡◌, take}
use Rattle.std.specs.Prelude.{flat_map}
use Rattle.std.specs.Io.KnownBytes.{Appends}
use Rattle.wgr_service.proofs.parts.write_parts.Given as goal

-- the parts so far are written, and no write has failed
abbrev pub invariant-loop-part : goal.invariant-loop-part
invariant-loop-part g l = record {
  sound : g.W.Write.failed l.out ≡ g.W.Write.failed l.fn.out;
  written : Appends (g.W.Write.contents l.fn.out) (g.W.Write.contents l.out) (flat_map (λ part. part.now) (take l.part-index l.parts));
}
