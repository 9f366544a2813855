use Rattle.std.proofs.Common.{◌+◌, nat_eq, subst, sym, arith}
use Rattle.std.specs.HashSet.{contains}
use Rattle.wgr_text.specs.Prefix.{rank}
use Rattle.wgr_pool.specs.Spans.{RisesFrom, reached_after}
use Rattle.wgr_pool.specs.HeldSpans.{from_first, standing_spans}
use Rattle.wgr_pool.proofs.Merging.{rises_from, rises_merged, taken_all, takes_run, takes_route, fewer}
use Rattle.wgr_pool.proofs.held_spans.HeldSpansHolds.next_hold.Goals as goal

pub invariant_of-self-in-None-Some : goal.invariant_of-self-in-None-Some
invariant_of-self-in-None-Some c =
    let s = c.args.self.now in
    let y = c.in-None-Some.route in
    let none = rw c.in-None-Some.is-1 at c.in-None-Some.ensures in
    let routes = subst (λ o. RisesFrom (reached_after s.last) (from_first o (standing_spans s.routes.pool (contains nat_eq s.routes.expired.now) s.routes.routes.now))) c.in-None-Some.is-1 s.routes_rise in
    let runs_rise = rises_from (rank y.lo + 1) (rank y.lo) s.runs.now (omega arith) none in
    let routes_rise = subst (RisesFrom (rank y.lo)) (sym (taken_all _ _ _ c.next-self.ensures.next)) routes.1 in
    record { runs_rise = runs_rise; routes_rise = routes_rise; all_rise = rises_merged (rank y.lo) s.runs.now _ runs_rise routes_rise }

pub invariant_of-self : goal.invariant_of-self
invariant_of-self c =
    let s = c.args.self.now in
    let e = c.in-Some-default.ensures in
    let order = subst (RisesFrom (reached_after s.last)) e.0 s.runs_rise in
    record { runs_rise = order.1; routes_rise = e.1; all_rise = rises_merged (rank c.in-Some-default.run'.lo) c.in-Some-default.later.now _ order.1 e.1 }

pub returns-in-Some-default-clause-falls : goal.returns-in-Some-default-clause-falls
returns-in-Some-default-clause-falls c =
    let s = c.args.self.now in
    let e = c.in-Some-default.ensures in
    fewer _ _ _ (takes_run (reached_after s.last) s.runs.now c.in-Some-default.run' c.in-Some-default.later.now _ s.runs_rise e.0 e.1)

pub returns-in-Some-default-clause-first : goal.returns-in-Some-default-clause-first
returns-in-Some-default-clause-first c = λ h.
    let s = c.args.self.now in
    let e = c.in-Some-default.ensures in
    takes_run (reached_after s.last) s.runs.now c.in-Some-default.run' c.in-Some-default.later.now _ s.runs_rise e.0 e.1

pub returns-in-None-Some-clause-falls : goal.returns-in-None-Some-clause-falls
returns-in-None-Some-clause-falls c =
    let none = rw c.in-None-Some.is-1 at c.in-None-Some.ensures in
    fewer _ _ _ (takes_route c.args.self.now.runs.now _ _ c.in-None-Some.route _ _ c.in-None-Some.is-1 none c.next-self.ensures.next)

pub returns-in-None-Some-clause-first : goal.returns-in-None-Some-clause-first
returns-in-None-Some-clause-first c = λ h.
    let none = rw c.in-None-Some.is-1 at c.in-None-Some.ensures in
    takes_route c.args.self.now.runs.now _ _ c.in-None-Some.route _ _ c.in-None-Some.is-1 none c.next-self.ensures.next
