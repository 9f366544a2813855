use Rattle.std.proofs.Common.{rules, ◌≡◌, List, Ok, Err, subst}
use Rattle.std.specs.Prelude.{Result}
use Rattle.wgr_text.specs.Prefix.{PrefixValue}
use Rattle.wgr_core.specs.declared.fault.ActFault.{ActFault}
use Rattle.wgr_core.specs.Adoption.{adopt_lines, adoption_of, adoption_order}
use Rattle.wgr_core.specs.Draft.{AdoptingValue, MeetsLines, begun}
use Rattle.wgr_core.specs.Network.{NetworkValue}
use Rattle.wgr_core.specs.declared.seen_peer.SeenPeer.{SeenPeer}
use Rattle.wgr_core.proofs.network.Network.adopt.Goals as goal

from_start : (n : NetworkValue) (a : AdoptingValue) (pool : PrefixValue) (lines : List SeenPeer) (r : Result AdoptingValue ActFault) → a ≡ begun n → pool ≡ n.pool → MeetsLines a r (adopt_lines a.so_far (adoption_order pool lines)) → MeetsLines (begun n) r (adoption_of n lines)
from_start n a pool lines r at_start same h =
    subst (λ (pool : PrefixValue). MeetsLines (begun n) r (adopt_lines (begun n).so_far (adoption_order pool lines))) same
    (subst (λ (a : AdoptingValue). MeetsLines a r (adopt_lines a.so_far (adoption_order pool lines))) at_start h)

pub returns : goal.returns
returns c = from_start c.args.self.now c.in_ok-adopting.adopting c.pool-pool.result c.args.lines.now (Ok c.adopt_all.new.self) c.in_ok-adopting.ensures c.pool-pool.ensures.value c.in_ok-adopt_all.ensures

pub returns-in_err-adopt_all : goal.returns-in_err-adopt_all
returns-in_err-adopt_all c =
    let w = c.in_err-adopt_all.field-0.0 in
    let met : MeetsLines (begun c.args.self.now) (Err w) (adoption_of c.args.self.now c.args.lines.now) =
    from_start c.args.self.now c.in_ok-adopting.adopting c.pool-pool.result c.args.lines.now (Err w) c.in_ok-adopting.ensures c.pool-pool.ensures.value c.in_err-adopt_all.ensures in
    search rules
