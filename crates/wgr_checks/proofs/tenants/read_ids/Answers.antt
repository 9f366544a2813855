use Rattle.std.proofs.Common.{rules, true≢false, nat_eq, refl, sym, subst}
use Rattle.std.specs.List.{AllByRecursion, IsDistinct}
use Rattle.std.specs.List.Sorted.{IsSorted}
use Rattle.std.specs.Ordering.{nat_cmp}
use Rattle.sqlite.specs.Held.{state}
use Rattle.wgr_checks.specs.TenantRows.{IsTenantRow}
use Rattle.wgr_checks.proofs.TenantLemmas.{own_ids, ids_are, ids_each, ids_apart}
use Rattle.wgr_sql.specs.Causes.{HasCause}
use Rattle.wgr_sql.proofs.CauseLemmas.{handed}
use Rattle.wgr_checks.proofs.CauseLemmas.{of_memory}
use Rattle.wgr_checks.proofs.tenants.read_ids.Goals as goal

pub returns-in_default-clause-none : goal.returns-in_default-clause-none
returns-in_default-clause-none g c clean laid =
    let table = (state g.S.Store c.args.conn.now).now.trees 1 in
    let listed = c.in_ok-rows.ensures.listed clean laid in
    let none : AllByRecursion IsTenantRow c.as_slice.result.now → ⊥ = search rules in
    (listed.0, λ own. none (subst (AllByRecursion IsTenantRow) (sym c.as_slice.ensures.value) (ids_each table c.in_ok-rows.rows.items listed.1 own)))

pub returns-then-not-ids_differ-clause-none : goal.returns-then-not-ids_differ-clause-none
returns-then-not-ids_differ-clause-none g c clean laid =
    let table = (state g.S.Store c.args.conn.now).now.trees 1 in
    let rows = c.in_ok-rows.rows.items in
    let ids = c.in-Some.ids.items in
    let listed = c.in_ok-rows.ensures.listed clean laid in
    let some = rw (c.in-Some.is, c.as_slice.ensures.value) at c.in_ok-ids.ensures.some in
    let sorted : IsSorted nat_cmp c.as_slice-2.result.now = subst (IsSorted nat_cmp) (sym c.as_slice-2.ensures.value) (ids_are table rows listed.1 ids some.0 some.1).sorted in (
      listed.0,
      λ own.
          let apart : IsDistinct nat_eq c.as_slice-2.result.now = subst (IsDistinct nat_eq) (sym c.as_slice-2.ensures.value) (ids_apart table rows listed.1 ids some.1 own) in
          true≢false (sym (c.if-not-ids_differ.ensures.only sorted apart)),
    )

pub returns-clause-some : goal.returns-clause-some
returns-clause-some g c clean laid =
    let table = (state g.S.Store c.args.conn.now).now.trees 1 in
    let rows = c.in_ok-rows.rows.items in
    let ids = c.in-Some.ids.items in
    let listed = c.in_ok-rows.ensures.listed clean laid in
    let some = rw (c.in-Some.is, c.as_slice.ensures.value) at c.in_ok-ids.ensures.some in
    let apart : IsDistinct nat_eq ids = subst (IsDistinct nat_eq) c.as_slice-2.ensures.value (c.if-not-ids_differ.ensures.is refl) in
    (listed.0, own_ids table rows listed.1 ids some.0 some.1 apart, ids_are table rows listed.1 ids some.0 some.1)

pub returns-in_err-rows-clause-cause : goal.returns-in_err-rows-clause-cause
returns-in_err-rows-clause-cause g c laid =
    handed (HasCause (state g.S.Store c.args.conn.now) (state g.S.Store c.rows_by_id.new.conn)) c.from_residual.result c.in_err-rows.field-0.0 c.from_residual.ensures.1 (c.in_err-rows.ensures.cause laid)

pub returns-in_err-ids-clause-cause : goal.returns-in_err-ids-clause-cause
returns-in_err-ids-clause-cause g c laid =
    let old = state g.S.Store c.args.conn.now in
    let new = state g.S.Store c.rows_by_id.new.conn in
    handed (HasCause old new) c.from_residual-in_err-ids.result c.in_err-ids.field-0.0 c.from_residual-in_err-ids.ensures.1 (of_memory old new c.in_err-ids.field-0.0 c.in_err-ids.ensures.memory)
