use Rattle.std.proofs.Common.{inr, arith}
use Rattle.wgr_outline.proofs.FloorLemmas.{from_zero}
use Rattle.wgr_outline.proofs.outline.Outline.unknown.Goals as goal

pub returns : goal.returns
returns c n = record { ends = λ k d low. inr (omega arith); floor = from_zero n }
