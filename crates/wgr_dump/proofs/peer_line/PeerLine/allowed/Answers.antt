use Rattle.std.proofs.Common.{ap, ◌∙◌}
use Rattle.wgr_dump.specs.MeantPrefixes.{coded_prefix}
use Rattle.wgr_dump.specs.Dump.{LineValue}
use Rattle.wgr_dump.specs.Fields.{SpellsMasked}
use Rattle.wgr_dump.specs.PartsLeft.{left}
use Rattle.wgr_dump.specs.Meant.{meant_again}
use Rattle.wgr_dump.specs.Unique.{one_masked}
use Rattle.wgr_dump.proofs.peer_line.PeerLine.allowed.Goals as goal

pub returns : goal.returns
returns c = meant_again SpellsMasked coded_prefix one_masked (left c.self.inside.items) _ _ ∙ ap (λ (v : LineValue). v.allowed) c.self.view_is
