use Rattle.std.proofs.Common.{◌≡◌, drop}
use Rattle.wgr_model.specs.Register.{right_of}
use Rattle.wgr_plain.proofs.look.right_of.Given as goal

-- none before is the digest
abbrev pub invariant-loop-reader : goal.invariant-loop-reader
invariant-loop-reader l = right_of l.readers l.digest ≡ right_of (drop l.reader-index l.readers) l.digest
