use Rattle.std.proofs.Common.{◌≡◌, ◌∷◌, take}
use Rattle.std.specs.Io.KnownBytes.{Appends}
use Rattle.std.specs.List.{join_with_byte}
use Rattle.wgr_words.proofs.LineLemmas.{texts}
use Rattle.wgr_words.proofs.written.write_words.Given as goal

abbrev pub invariant-loop-word : goal.invariant-loop-word
invariant-loop-word g l = record {
  appended : Appends (g.W.Write.contents l.fn.out) (g.W.Write.contents l.out) (join_with_byte 32 (l.first ∷ texts (take l.word-index l.rest)));
  sound : g.W.Write.failed l.out ≡ g.W.Write.failed l.fn.out;
}
