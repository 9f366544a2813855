use Rattle.std.proofs.Common.{rules, nat_eq, refl, subst}
use Rattle.std.specs.List.{IsDistinct}
use Rattle.wgr_checks.specs.NetworkRows.{AreFit}
use Rattle.wgr_checks.proofs.NetworkLemmas.{good_of, fit_of}
use Rattle.wgr_checks.proofs.networks.good_ids.Goals as goal

pub returns-then-not-branch-clause-none : goal.returns-then-not-branch-clause-none
returns-then-not-branch-clause-none c rise sorted good =
    let fit : AreFit c.args.tenants.now c.args.rows.now = fit_of c.args.tenants.now c.args.rows.now good in
    search rules

pub returns-clause-some : goal.returns-clause-some
returns-clause-some c =
    let some = rw c.in-Some.is at c.in_ok-ids.ensures.some in
    let fit : AreFit c.args.tenants.now c.args.rows.now = search rules in
    let apart : IsDistinct nat_eq c.in-Some.ids.items = subst (IsDistinct nat_eq) c.as_slice.ensures.value (c.if-not-ids_differ.ensures.is refl) in
    (good_of c.args.tenants.now c.args.rows.now some.0 (subst (IsDistinct nat_eq) some.1 apart) fit, some.1)
