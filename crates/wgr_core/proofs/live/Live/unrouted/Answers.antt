use Rattle.std.proofs.Common.{rules, List, [], ◌∷◌, refl, ap, ◌∙◌}
use Rattle.wgr_text.specs.Prefix.{PrefixValue}
use Rattle.wgr_peers.specs.declared.peer.Peer.{Peer}
use Rattle.wgr_peers.specs.Routes.{Routes}
use Rattle.wgr_core.proofs.RerouteLemmas.{change_of, meets_unrouted}
use Rattle.wgr_core.proofs.live.Live.unrouted.Goals as goal

pub returns-in_err-view : goal.returns-in_err-view
returns-in_err-view c =
    let met = c.in_err-view.ensures.err c.args.removed in
    search rules

pub returns : goal.returns
returns c =
    let n = c.args.self.now in
    let prefix = c.args.prefix.now in
    let view = c.in_ok-view.view in
    let so = c.in_ok-view.ensures.ok in
    let change =
    ap (λ (ps : List Peer). change_of c.args.removed ps c.new-2.result c.in_ok-routes_gone.routes_gone c.next.result) c.new.ensures
    ∙ ap (λ (rs : Routes). change_of c.args.removed [] rs c.in_ok-routes_gone.routes_gone c.next.result) c.new-2.ensures
    ∙ ap (λ (ps : List PrefixValue). change_of c.args.removed [] [] ps c.next.result) c.in_ok-routes_gone.ensures
    ∙ ap (change_of c.args.removed [] [] (prefix ∷ [])) c.next.ensures.value in
    meets_unrouted n c.args.removed so.0 prefix view.peer view.peer view.routes (change_of c.args.removed c.new.result c.new-2.result c.in_ok-routes_gone.routes_gone c.next.result) so.1 so.2 refl so.3 change
