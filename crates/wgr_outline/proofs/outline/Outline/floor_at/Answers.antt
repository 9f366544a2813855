use Rattle.std.proofs.Common.{subst, sym}
use Rattle.wgr_core.specs.Network.{NetworkValue, live_at}
use Rattle.wgr_outline.specs.Outline.{IsFloor}
use Rattle.wgr_outline.proofs.FloorLemmas.{all_live, from_zero}
use Rattle.wgr_outline.proofs.outline.Outline.floor_at.Goals as goal

pub returns-then-now-self : goal.returns-then-now-self
returns-then-now-self c n is o = subst (λ (m : NetworkValue). IsFloor m c.args.self.now.floor) (sym (all_live n c.args.now c.args.self.now.end is o.ends c.if-now-self.true)) o.floor

pub returns-else-now-self : goal.returns-else-now-self
returns-else-now-self c n is o = from_zero (live_at n c.args.now)
