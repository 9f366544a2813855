use Rattle.std.proofs.Common.{◌≡◌, List, sym, ap, subst, ◌∙◌}
use Rattle.wgr_text.specs.Prefix.{PrefixValue}
use Rattle.wgr_peers.specs.declared.peer.Peer.{Peer}
use Rattle.wgr_peers.specs.Peers.{AreNumbered}
use Rattle.wgr_peers.specs.Routes.{Routes}
use Rattle.wgr_core.specs.Change.{assign_routes, changed, put_peers, without_routes}
use Rattle.wgr_core.specs.Draft.{DraftValue, altered, drafted}
use Rattle.wgr_core.proofs.AlteredLemmas.{altered_rise, put_altered}
use Rattle.wgr_core.proofs.draft.Draft.into_change.Goals as goal

-- the peers of the change
these : (c : goal.Joined-self-2) → c.of.result ≡ altered c.self.inside.start.now.peers c.self.inside.peers
these c =
    c.of.ensures
    ∙ c.in_ok-peers.ensures
    ∙ ap (λ (start : List Peer). altered start c.as_slice.result.now) c.peers.ensures
    ∙ ap (altered c.self.inside.start.now.peers) c.as_slice.ensures.value

pub returns-clause-leads : goal.returns-clause-leads
returns-clause-leads c =
    let start = c.self.inside.start.now in
    let peers = c.self.inside.peers in
    let routes = c.self.inside.routes in
    let next = c.self.inside.next in
    let put : put_peers start.peers c.of.result ≡ peers = ap (put_peers start.peers) (these c) ∙ put_altered start.peers peers c.self.invariant.noted c.self.invariant.rules.numbered in
    let led : assign_routes start.routes c.of-2.result ≡ routes =
    ap (assign_routes start.routes) c.of-2.ensures
    ∙ ap (λ (rs : Routes). assign_routes rs c.each_once-routes_put.result.items) (sym c.routes.ensures)
    ∙ c.each_once-routes_put.ensures in
    let whole : changed (record { removed = c.args.removed; peers = c.of.result; routes_put = c.of-2.result; routes_gone = c.new.result; next = next }) start ≡ drafted start peers routes next =
    ap (λ (gone : List PrefixValue). record start { peers = put_peers start.peers c.of.result; routes = assign_routes (without_routes start.routes gone) c.of-2.result; next = next }) c.new.ensures
    ∙ ap (λ (ps : List Peer). record start { peers = ps; routes = assign_routes start.routes c.of-2.result; next = next }) put
    ∙ ap (λ (rs : Routes). drafted start peers rs next) led in
    subst (λ (d : DraftValue). changed (record { removed = c.args.removed; peers = c.of.result; routes_put = c.of-2.result; routes_gone = c.new.result; next = next }) d.start ≡ d.network) c.self.view_is whole

pub returns-clause-rising : goal.returns-clause-rising
returns-clause-rising c = subst AreNumbered (sym (these c)) (altered_rise c.self.inside.start.now.peers c.self.inside.peers c.self.invariant.rules.numbered)
