use Rattle.std.proofs.Common.{◌≡◌, sym, ◌∙◌, ap, subst}
use Rattle.std.specs.List.{AllPairs, filter}
use Rattle.std.proofs.lemmas.Result.{IfOk-weaker}
use Rattle.wgr_peers.specs.Peers.{is_live, IsNumberedBelow, IsApart}
use Rattle.wgr_core.specs.Network.{NetworkValue, IsNetwork}
use Rattle.wgr_pool.proofs.Lists.{AllPairs-filter}
use Rattle.wgr_core.proofs.LiveLemmas.{live_is_network, live_is}
use Rattle.wgr_core.proofs.network.Network.live_at.Goals as goal

pub collect-requires-clause-numbered : goal.collect-requires-clause-numbered
collect-requires-clause-numbered c = subst (AllPairs IsNumberedBelow) (sym c.in_ok-live.ensures) (AllPairs-filter IsNumberedBelow (is_live c.args.now) c.self.inside.peers c.self.invariant.numbered)

pub collect-requires-clause-apart : goal.collect-requires-clause-apart
collect-requires-clause-apart c = subst (AllPairs IsApart) (sym c.in_ok-live.ensures) (AllPairs-filter IsApart (is_live c.args.now) c.self.inside.peers c.self.invariant.apart)

pub with-requires : goal.with-requires
with-requires c =
    let n = c.args.self.now in
    let peers = c.in_ok-peers.ensures ∙ c.in_ok-live.ensures ∙ ap (λ (n : NetworkValue). filter (is_live c.args.now) n.peers) c.self.view_is in
    let made = live_is n c.args.now c.self.inside.next _ _ (ap (λ (n : NetworkValue). n.next) c.self.view_is) peers c.in_ok-routes.ensures in
    subst IsNetwork (sym made) (live_is_network n c.args.now (subst IsNetwork c.self.view_is c.self.invariant))

pub returns : goal.returns
returns c =
    let n = c.args.self.now in
    let peers = c.in_ok-peers.ensures ∙ c.in_ok-live.ensures ∙ ap (λ (n : NetworkValue). filter (is_live c.args.now) n.peers) c.self.view_is in
    let made = live_is n c.args.now c.self.inside.next _ _ (ap (λ (n : NetworkValue). n.next) c.self.view_is) peers c.in_ok-routes.ensures in
    IfOk-weaker c.with.result (λ live. live ≡ record n { next = c.self.inside.next; peers = c.in_ok-peers.peers; routes = c.in_ok-routes.routes.items }) _ (λ live is. is ∙ made) c.with.ensures
