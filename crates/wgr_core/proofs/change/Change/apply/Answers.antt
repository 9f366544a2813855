use Rattle.std.proofs.Common.{◌∙◌, sym, subst}
use Rattle.std.specs.List.{AllPairs}
use Rattle.std.proofs.lemmas.Result.{IfOk-weaker}
use Rattle.wgr_peers.specs.Peers.{IsNumberedBelow, IsApart}
use Rattle.wgr_core.specs.Network.{IsNetwork}
use Rattle.wgr_core.proofs.ApplyLemmas.{applied_is}
use Rattle.wgr_core.proofs.change.Change.apply.Goals as goal

pub collect-requires-clause-numbered : goal.collect-requires-clause-numbered
collect-requires-clause-numbered c = subst (AllPairs IsNumberedBelow) (sym c.in_ok-peers.ensures) c.requires.numbered

pub collect-requires-clause-apart : goal.collect-requires-clause-apart
collect-requires-clause-apart c = subst (AllPairs IsApart) (sym c.in_ok-peers.ensures) c.requires.apart

pub with-requires : goal.with-requires
with-requires c =
    let made = applied_is c.args.self.now c.args.network.now _ _ (c.in_ok-collect.ensures ∙ c.in_ok-peers.ensures) c.in_ok-routes.ensures in
    subst IsNetwork (sym made) c.requires

pub returns : goal.returns
returns c =
    let made = applied_is c.args.self.now c.args.network.now _ _ (c.in_ok-collect.ensures ∙ c.in_ok-peers.ensures) c.in_ok-routes.ensures in
    IfOk-weaker c.with.result _ _ (λ live is. is ∙ made) c.with.ensures
