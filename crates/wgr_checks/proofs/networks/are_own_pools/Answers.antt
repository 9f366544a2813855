use Rattle.std.proofs.Common.{sym, subst}
use Rattle.std.specs.List.{IsDistinct}
use Rattle.std.specs.List.Sorted.{IsSorted}
use Rattle.wgr_model.specs.Consistent.{overlaps}
use Rattle.wgr_model.proofs.SameLemmas.{overlaps_sym}
use Rattle.wgr_checks.specs.Sorted.{pool_cmp}
use Rattle.wgr_columns.specs.Decode.{prefix_at}
use Rattle.wgr_checks.proofs.NetworkLemmas.{put_apart, apart_put}
use Rattle.wgr_checks.proofs.networks.are_own_pools.Goals as goal

pub returns-clause-answer : goal.returns-clause-answer
returns-clause-answer c =
    let some = rw c.in-Some.is at c.in_ok-all.ensures.some in
    let all = c.in-Some.all.items in
    let put = c.sort_pools.new.all.items in
    let value = c.as_slice.ensures.value in (
      (λ told. record { each = some.0; pools = put_apart overlaps overlaps_sym (λ r. prefix_at r 4) c.args.rows.now all put some.1 c.sort_pools.ensures.same (subst (IsDistinct overlaps) value (c.pools_are_apart.ensures.is told)) }),
      (λ own. c.pools_are_apart.ensures.only (subst (IsSorted pool_cmp) (sym value) c.sort_pools.ensures.sorted) (subst (IsDistinct overlaps) (sym value) (apart_put overlaps overlaps_sym (λ r. prefix_at r 4) c.args.rows.now all put some.1 c.sort_pools.ensures.same own.pools))),
    )
