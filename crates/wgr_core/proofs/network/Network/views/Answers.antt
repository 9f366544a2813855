use Rattle.std.proofs.Common.{◌≡◌, map, subst, ◌∙◌}
use Rattle.std.specs.Prelude.{IfOk}
use Rattle.wgr_core.specs.Network.{NetworkValue}
use Rattle.wgr_core.specs.Outcome.{peer_view}
use Rattle.wgr_core.proofs.CommandLemmas.{whole_at_first}
use Rattle.wgr_core.proofs.network.Network.views.Goals as goal

pub returns : goal.returns
returns c =
    let n = c.args.self.now in
    subst (λ (m : NetworkValue). IfOk c.views.result (λ views. views ≡ map (peer_view m.routes) m.peers)) (c.in_ok-whole.ensures.live ∙ whole_at_first n c.in_ok-whole.ensures.rules) c.views.ensures
