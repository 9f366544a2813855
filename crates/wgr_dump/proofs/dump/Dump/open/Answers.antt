use Rattle.std.proofs.Common.{suc, sym, subst, arith}
use Rattle.wgr_dump.specs.Dump.{IsPeerLine}
use Rattle.wgr_text.specs.Lines.{lines_of}
use Rattle.wgr_dump.specs.Fault.{IsBadLine}
use Rattle.wgr_dump.specs.MeantLines.{coded_line}
use Rattle.wgr_dump.specs.Meant.{meant_said}
use Rattle.wgr_dump.specs.Unique.{one_peer_line}
use Rattle.wgr_dump.proofs.LineLemmas.{interface_is_good}
use Rattle.wgr_dump.proofs.dump.Dump.open.Goals as goal

pub returns-in-Some-clause-err : goal.returns-in-Some-clause-err
returns-in-Some-clause-err c =
    let bad = c.in-Some.ensures in (
      suc bad.0,
      bad.1,
      omega (arith, bad.2),
      bad.3,
      subst (λ lines. IsBadLine lines (suc bad.0) bad.1) (sym c.first_line.ensures.line) (interface_is_good c.first_line.result.0.now c.in-Ok.interface c.in-Ok.ensures.ok, bad.4),
    )

pub returns-clause-ok : goal.returns-clause-ok
returns-clause-ok c = record {
  first = c.first_line.result.0.now;
  others = lines_of c.first_line.result.1.now;
  split = c.first_line.ensures.line;
  interface = c.in-Ok.ensures.ok;
  peers = meant_said IsPeerLine coded_line one_peer_line (lines_of c.first_line.result.1.now) _ c.in_default.ensures.0 c.in_default.ensures.1;
}
