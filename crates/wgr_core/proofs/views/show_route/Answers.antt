use Rattle.std.proofs.Common.{subst, ◌∙◌}
use Rattle.std.specs.Prelude.{Ok, Err}
use Rattle.wgr_peers.specs.Peers.{AreNumbered}
use Rattle.wgr_core.proofs.ViewLemmas.{ends_in_peers, peers_shown, shown_there, shown_nowhere}
use Rattle.wgr_core.proofs.views.show_route.Goals as goal

pub returns-in_ok-push : goal.returns-in_ok-push
returns-in_ok-push c = λ shown peers same.
    let views = c.args.views.now.items in
    let numbered = subst AreNumbered (peers_shown shown views peers same) c.requires in
    let ends = ends_in_peers shown c.args.route.now.1 views peers (Ok c.in-Ok.place) same (rw c.deref.ensures.value at c.in-Ok.ensures) in
    shown_there shown c.args.route.now peers views c.in-Ok.place c.index_mut.result.now c.push.new.self numbered ends same c.index_mut.ensures.value c.in_ok-push.ensures.ok

pub returns-in_default : goal.returns-in_default
returns-in_default c = λ shown peers same.
    let views = c.args.views.now.items in
    let numbered = subst AreNumbered (peers_shown shown views peers same) c.requires in
    let ends = ends_in_peers shown c.args.route.now.1 views peers (Err c.in_default.field-0) same (rw c.deref.ensures.value at c.in_default.ensures) in
    same ∙ shown_nowhere shown c.args.route.now peers c.in_default.field-0 numbered ends
