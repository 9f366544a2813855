use Rattle.std.proofs.Common.{◌≡◌, true, false, sym, subst, ◌∙◌}
use Rattle.std.specs.Prelude.{IsSome}
use Rattle.std.specs.List.{All, AllPairs}
use Rattle.wgr_pool.specs.PrefixTests.{is_before, same_prefix}
use Rattle.wgr_peers.specs.Routes.{ComesBefore, HasAddr}
use Rattle.wgr_peers.proofs.OrderedLemmas.{put_found, put_absent, put_all, put_pairs}
use Rattle.wgr_peers.proofs.RouteLemmas.{route_absent}
use Rattle.wgr_peers.proofs.PlaceLemmas.{routes_placed}
use Rattle.wgr_peers.proofs.order.put_route.Goals as goal

pub returns-in-Ok-clause-put : goal.returns-in-Ok-clause-put
returns-in-Ok-clause-put c =
    let p = c.args.prefix in
    let ends = rw c.deref.ensures.value at c.in-Ok.ensures.found in
    sym (put_found (λ r. is_before r.0 p) (λ r. same_prefix r.0 p) c.args.routes.now.items (p, c.args.number) c.in-Ok.place ends)

pub returns-in-Ok-clause-ordered : goal.returns-in-Ok-clause-ordered
returns-in-Ok-clause-ordered c =
    let p = c.args.prefix in
    subst (AllPairs ComesBefore) (sym (returns-in-Ok-clause-put c))
    (put_pairs ComesBefore HasAddr (λ r. is_before r.0 p) (λ r. same_prefix r.0 p) c.args.routes.now.items (p, c.args.number) (routes_placed p c.args.number c.in-Ok.ensures.masked) c.requires.masked c.requires.ordered)

pub returns-in-Ok-clause-masked : goal.returns-in-Ok-clause-masked
returns-in-Ok-clause-masked c =
    let p = c.args.prefix in
    subst (All HasAddr) (sym (returns-in-Ok-clause-put c))
    (put_all HasAddr (λ r. is_before r.0 p) (λ r. same_prefix r.0 p) c.args.routes.now.items (p, c.args.number) c.requires.masked c.in-Ok.ensures.masked)

pub returns-in_ok-insert-in-Err-clause-put : goal.returns-in_ok-insert-in-Err-clause-put
returns-in_ok-insert-in-Err-clause-put c =
    let p = c.args.prefix in
    let ends = rw c.deref.ensures.value at c.in-Err.ensures.found in
    c.in_ok-insert-in-Err.ensures.items ∙ sym (put_absent (λ r. is_before r.0 p) (λ r. same_prefix r.0 p) c.args.routes.now.items (p, c.args.number) c.in-Err.place ends)

pub returns-in_ok-insert-in-Err-clause-ordered : goal.returns-in_ok-insert-in-Err-clause-ordered
returns-in_ok-insert-in-Err-clause-ordered c =
    let p = c.args.prefix in
    subst (AllPairs ComesBefore) (sym (returns-in_ok-insert-in-Err-clause-put c))
    (put_pairs ComesBefore HasAddr (λ r. is_before r.0 p) (λ r. same_prefix r.0 p) c.args.routes.now.items (p, c.args.number) (routes_placed p c.args.number c.in-Err.ensures.masked) c.requires.masked c.requires.ordered)

pub returns-in_ok-insert-in-Err-clause-masked : goal.returns-in_ok-insert-in-Err-clause-masked
returns-in_ok-insert-in-Err-clause-masked c =
    let p = c.args.prefix in
    subst (All HasAddr) (sym (returns-in_ok-insert-in-Err-clause-put c))
    (put_all HasAddr (λ r. is_before r.0 p) (λ r. same_prefix r.0 p) c.args.routes.now.items (p, c.args.number) c.requires.masked c.in-Err.ensures.masked)

pub returns-in_err-insert-in-Err-clause-succeeds : goal.returns-in_err-insert-in-Err-clause-succeeds
returns-in_err-insert-in-Err-clause-succeeds c = λ some.
    let ends = rw c.deref.ensures.value at c.in-Err.ensures.found in
    let bad : false ≡ true = subst IsSome (route_absent c.args.routes.now.items c.args.prefix c.in-Err.place c.requires.ordered ends) some in cc
