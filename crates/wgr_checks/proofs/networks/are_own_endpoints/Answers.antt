use Rattle.std.proofs.Common.{sym, subst}
use Rattle.std.specs.List.{IsDistinct}
use Rattle.std.specs.List.Sorted.{IsSorted}
use Rattle.wgr_model.specs.Consistent.{same_endpoint}
use Rattle.wgr_model.proofs.SameLemmas.{endpoint_sym}
use Rattle.wgr_checks.specs.Sorted.{endpoint_cmp}
use Rattle.wgr_checks.specs.NetworkRows.{endpoint_at}
use Rattle.wgr_checks.proofs.NetworkLemmas.{put_apart, apart_put}
use Rattle.wgr_checks.proofs.networks.are_own_endpoints.Goals as goal

pub returns-clause-answer : goal.returns-clause-answer
returns-clause-answer c =
    let some = rw c.in-Some.is at c.in_ok-all.ensures.some in
    let all = c.in-Some.all.items in
    let put = c.sort_endpoints.new.all.items in
    let value = c.as_slice.ensures.value in (
      (λ told. record { each = some.0; endpoints = put_apart same_endpoint endpoint_sym endpoint_at c.args.rows.now all put some.1 c.sort_endpoints.ensures.same (subst (IsDistinct same_endpoint) value (c.endpoints_differ.ensures.is told)) }),
      (λ own. c.endpoints_differ.ensures.only (subst (IsSorted endpoint_cmp) (sym value) c.sort_endpoints.ensures.sorted) (subst (IsDistinct same_endpoint) (sym value) (apart_put same_endpoint endpoint_sym endpoint_at c.args.rows.now all put some.1 c.sort_endpoints.ensures.same own.endpoints))),
    )
