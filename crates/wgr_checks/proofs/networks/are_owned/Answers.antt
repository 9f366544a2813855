use Rattle.std.proofs.Common.{sym, subst}
use Rattle.std.specs.List.Sorted.{IsSorted}
use Rattle.std.specs.Ordering.{nat_cmp}
use Rattle.wgr_checks.specs.Sorted.{AreAmong}
use Rattle.wgr_checks.proofs.NetworkLemmas.{put_among, among_put}
use Rattle.wgr_checks.proofs.networks.are_owned.Goals as goal

pub returns-clause-is : goal.returns-clause-is
returns-clause-is c told =
    let some = rw c.in-Some.is at c.in_ok-all.ensures.some in
    record {
      each = some.0;
      owners = put_among c.args.tenants.now c.args.rows.now c.in-Some.all.items c.sort_ids.new.all.items some.1 c.sort_ids.ensures.same (subst (λ l. AreAmong l c.args.tenants.now) c.as_slice.ensures.value (c.are_among.ensures.is told));
    }

pub returns-clause-only : goal.returns-clause-only
returns-clause-only c rise own =
    let some = rw c.in-Some.is at c.in_ok-all.ensures.some in
    let value = c.as_slice.ensures.value in
    c.are_among.ensures.only (subst (IsSorted nat_cmp) (sym value) c.sort_ids.ensures.sorted) rise
    (subst (λ l. AreAmong l c.args.tenants.now) (sym value) (among_put c.args.tenants.now c.args.rows.now c.in-Some.all.items c.sort_ids.new.all.items some.1 c.sort_ids.ensures.same own.owners))
