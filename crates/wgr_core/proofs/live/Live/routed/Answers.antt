use Rattle.std.proofs.Common.{rules, List, [], ◌∷◌, refl, ap, ◌∙◌}
use Rattle.wgr_text.specs.Prefix.{PrefixValue}
use Rattle.wgr_peers.specs.declared.peer.Peer.{Peer}
use Rattle.wgr_peers.specs.Routes.{Routes}
use Rattle.wgr_core.proofs.RerouteLemmas.{change_of, meets_routed}
use Rattle.wgr_core.proofs.live.Live.routed.Goals as goal

pub returns-in_err-view : goal.returns-in_err-view
returns-in_err-view c =
    let met = c.in_err-view.ensures.err c.args.removed in
    search rules

pub returns : goal.returns
returns c =
    let n = c.args.self.now in
    let view = c.in_ok-view.view in
    let so = c.in_ok-view.ensures.ok in
    let change =
    ap (λ (ps : List Peer). change_of c.args.removed ps c.in_ok-routes_put.routes_put c.new-2.result c.next.result) c.new.ensures
    ∙ ap (λ (rs : Routes). change_of c.args.removed [] rs c.new-2.result c.next.result) c.in_ok-routes_put.ensures
    ∙ ap (λ (ps : List PrefixValue). change_of c.args.removed [] ((c.args.prefix, c.args.number) ∷ []) ps c.next.result) c.new-2.ensures
    ∙ ap (change_of c.args.removed [] ((c.args.prefix, c.args.number) ∷ []) []) c.next.ensures.value in
    meets_routed n c.args.removed c.args.number c.args.prefix view.peer view.peer view.routes (change_of c.args.removed c.new.result c.in_ok-routes_put.routes_put c.new-2.result c.next.result) c.next.ensures.rules so.0 so.1 refl so.2 change
