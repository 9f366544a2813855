use Rattle.std.proofs.Common.{ℕ, Some, sym, ap, ◌∙◌}
use Rattle.wgr_text.specs.Prefix.{PrefixValue}
use Rattle.wgr_core.specs.Network.{NetworkValue}
use Rattle.wgr_peers.specs.Routes.{route_of}
use Rattle.wgr_peers.proofs.RouteLemmas.{route_found, route_absent}
use Rattle.wgr_core.proofs.network.Network.route.Goals as goal

pub returns-in-Ok : goal.returns-in-Ok
returns-in-Ok c =
    let p = c.args.prefix.now in
    let ends = rw c.deref.ensures.value at c.in-Ok.ensures.found in
    ap (λ (r : PrefixValue × ℕ). Some r.1) c.index.ensures ∙ sym (route_found c.self.inside.routes.items p c.in-Ok.place c.index.result.now ends) ∙ ap (λ (n : NetworkValue). route_of n.routes p) c.self.view_is

pub returns-in-Err : goal.returns-in-Err
returns-in-Err c =
    let p = c.args.prefix.now in
    let ends = rw c.deref.ensures.value at c.in-Err.ensures.found in
    sym (route_absent c.self.inside.routes.items p c.in-Err.field-0 c.self.invariant.ordered ends) ∙ ap (λ (n : NetworkValue). route_of n.routes p) c.self.view_is
