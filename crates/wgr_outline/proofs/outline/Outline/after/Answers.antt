use Rattle.std.proofs.Common.{Option, subst, sym}
use Rattle.std.specs.List.{All}
use Rattle.wgr_peers.specs.PeerIndex.{EndsFrom}
use Rattle.wgr_core.specs.Change.{applied_if}
use Rattle.wgr_core.specs.declared.change.Change.{Change}
use Rattle.wgr_outline.proofs.outline.Outline.after.Goals as goal

pub returns : goal.returns
returns c n is o meets = record {
  ends = subst (λ (change : Option Change). All (EndsFrom c.soonest_end.result) (applied_if change n).peers) (sym c.in-Some.is) (c.soonest_end.ensures n o.ends);
  floor = c.floor_after.ensures n c.args.change.now is o meets;
}
