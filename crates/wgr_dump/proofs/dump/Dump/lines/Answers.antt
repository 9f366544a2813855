use Rattle.std.proofs.Common.{ap, ◌∙◌}
use Rattle.wgr_dump.specs.Dump.{DumpValue, IsPeerLine}
use Rattle.wgr_text.specs.Lines.{lines_of}
use Rattle.wgr_dump.specs.MeantLines.{coded_line}
use Rattle.wgr_dump.specs.Meant.{meant_again}
use Rattle.wgr_dump.specs.Unique.{one_peer_line}
use Rattle.wgr_dump.proofs.dump.Dump.lines.Goals as goal

pub returns : goal.returns
returns c = meant_again IsPeerLine coded_line one_peer_line (lines_of c.self.inside.peers.now) _ _ ∙ ap (λ (d : DumpValue). d.lines) c.self.view_is
