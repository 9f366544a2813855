use Rattle.std.proofs.Common.{sym, ◌∙◌}
use Rattle.wgr_pool.specs.PrefixTests.{is_before, same_prefix}
use Rattle.wgr_peers.specs.Routes.{ComesBefore}
use Rattle.wgr_peers.proofs.OrderedLemmas.{drop_found, drop_absent}
use Rattle.wgr_peers.proofs.PlaceLemmas.{routes_level, routes_lead}
use Rattle.wgr_peers.proofs.order.drop_route.Goals as goal

pub returns-in-Ok : goal.returns-in-Ok
returns-in-Ok c =
    let p = c.args.prefix.now in
    let ends = rw c.deref.ensures.value at c.in-Ok.ensures.found in
    c.remove.ensures.items ∙ sym (drop_found ComesBefore (λ r. is_before r.0 p) (λ r. same_prefix r.0 p) c.args.routes.now.items c.in-Ok.place c.requires ends (routes_level p) (routes_lead p))

pub returns-in_default : goal.returns-in_default
returns-in_default c =
    let p = c.args.prefix.now in
    let ends = rw c.deref.ensures.value at c.in_default.ensures.found in
    sym (drop_absent ComesBefore (λ r. is_before r.0 p) (λ r. same_prefix r.0 p) c.args.routes.now.items c.in_default.field-0 c.requires ends (routes_level p) (routes_lead p))
