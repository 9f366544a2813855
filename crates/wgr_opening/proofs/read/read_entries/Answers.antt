use Rattle.std.proofs.Common.{rules, IfSome, IfNone, IsTrue, sym, subst, arith}
use Rattle.std.specs.List.Sorted.{IsSorted}
use Rattle.std.specs.Ordering.{nat_cmp}
use Rattle.sqlite.specs.Effect.{Database}
use Rattle.sqlite.specs.State.{HasCleanDisk}
use Rattle.sqlite.specs.Held.{state}
use Rattle.wgr_checks.specs.TenantRows.{AreGoodTenants, AreIdsOf}
use Rattle.wgr_checks.specs.TokenRows.{AreGoodTokens}
use Rattle.wgr_opening.proofs.GoodLemmas.{few_tenants, good_tenants, good_tokens}
use Rattle.wgr_opening.proofs.JoinLemmas.{laid_still, few_ids, few_rows}
use Rattle.wgr_sql.specs.Causes.{HasCause}
use Rattle.wgr_sql.proofs.CauseLemmas.{handed}
use Rattle.wgr_checks.proofs.CauseLemmas.{next_cause}
use Rattle.wgr_opening.proofs.read.read_entries.Goals as goal

pub returns-clause-some : goal.returns-clause-some
returns-clause-some g c clean laid =
    let old = state g.S.Store c.args.conn.now in
    let mid = state g.S.Store c.read_tenants.new.conn in
    let ids = c.in-Some.tenants.items in
    let before : HasCleanDisk mid = omega (arith, c.tokens_are_good.ensures.survives.clean, clean) in
    let found = subst (λ o. IfSome o (λ x. IsTrue old.is_open × AreGoodTenants (old.now.trees 1) × AreIdsOf (old.now.trees 1) x.items)) c.in-Some.is (c.in_ok-tenants.ensures.some before laid) in
    let kept = c.read_tenants.ensures.kept (λ _. laid) in
    let sorted = subst (IsSorted nat_cmp) (sym c.as_slice.ensures.value) found.2.sorted in
    let told = c.in_ok-tokens_are_good.ensures.answer clean (laid_still old mid before laid kept) sorted in
    let tokens = subst (λ l. AreGoodTokens l (mid.now.trees 3)) c.as_slice.ensures.value (told.1.0 c.if-not-branch.false) in (
      found.0,
      record {
        apart = found.1;
        few = few_rows (old.now.trees 1) ids found.2 (omega (arith, c.if-len-gt-MAX_ENTRIES.false, c.len.ensures));
        ids = found.2;
        tokens = subst (λ (d : Database). AreGoodTokens ids (d.trees 3)) (kept before told.0).1 tokens;
      },
    )

pub returns-in_default-clause-none : goal.returns-in_default-clause-none
returns-in_default-clause-none g c clean laid =
    let old = state g.S.Store c.args.conn.now in
    let none = subst (λ o. IfNone o (IsTrue old.is_open × (AreGoodTenants (old.now.trees 1) → ⊥))) c.in_default.is (c.in_ok-tenants.ensures.none clean laid) in
    (none.0, λ good. none.1 (good_tenants old.now good))

pub returns-then-len-gt-MAX_ENTRIES-clause-none : goal.returns-then-len-gt-MAX_ENTRIES-clause-none
returns-then-len-gt-MAX_ENTRIES-clause-none g c clean laid =
    let old = state g.S.Store c.args.conn.now in
    let ids = c.in-Some.tenants.items in
    let found = subst (λ o. IfSome o (λ x. IsTrue old.is_open × AreGoodTenants (old.now.trees 1) × AreIdsOf (old.now.trees 1) x.items)) c.in-Some.is (c.in_ok-tenants.ensures.some clean laid) in
    (found.0, λ good. absurd (omega (arith, few_ids (old.now.trees 1) ids found.2 (few_tenants old.now good), c.if-len-gt-MAX_ENTRIES.true, c.len.ensures)))

pub returns-then-not-branch-clause-none : goal.returns-then-not-branch-clause-none
returns-then-not-branch-clause-none g c clean laid =
    let old = state g.S.Store c.args.conn.now in
    let mid = state g.S.Store c.read_tenants.new.conn in
    let ids = c.in-Some.tenants.items in
    let before : HasCleanDisk mid = omega (arith, c.tokens_are_good.ensures.survives.clean, clean) in
    let found = subst (λ o. IfSome o (λ x. IsTrue old.is_open × AreGoodTenants (old.now.trees 1) × AreIdsOf (old.now.trees 1) x.items)) c.in-Some.is (c.in_ok-tenants.ensures.some before laid) in
    let kept = c.read_tenants.ensures.kept (λ _. laid) in
    let sorted = subst (IsSorted nat_cmp) (sym c.as_slice.ensures.value) found.2.sorted in
    let told = c.in_ok-tokens_are_good.ensures.answer clean (laid_still old mid before laid kept) sorted in (
      found.0,
      λ good.
          let here = subst (λ (d : Database). AreGoodTokens ids (d.trees 3)) (sym (kept before told.0).1) (good_tokens old.now good ids found.2) in
          let so = told.1.1 (subst (λ l. AreGoodTokens l (mid.now.trees 3)) (sym c.as_slice.ensures.value) here) in
          search (rules, so),
    )

pub returns-in_err-tenants-clause-cause : goal.returns-in_err-tenants-clause-cause
returns-in_err-tenants-clause-cause g c laid =
    handed (HasCause (state g.S.Store c.args.conn.now) (state g.S.Store c.read_tenants.new.conn)) c.from_residual.result c.in_err-tenants.field-0.0 c.from_residual.ensures.1 (c.in_err-tenants.ensures.cause laid)

pub returns-in_err-tokens_are_good-clause-cause : goal.returns-in_err-tokens_are_good-clause-cause
returns-in_err-tokens_are_good-clause-cause g c laid =
    let old = state g.S.Store c.args.conn.now in
    let mid = state g.S.Store c.read_tenants.new.conn in
    let new = state g.S.Store c.tokens_are_good.new.conn in
    handed (HasCause old new) c.from_residual-in_err-tokens_are_good.result c.in_err-tokens_are_good.field-0.0 c.from_residual-in_err-tokens_are_good.ensures.1
    (next_cause old mid new c.read_tenants.ensures.survives c.tokens_are_good.ensures.survives c.read_tenants.ensures.kept laid c.in_err-tokens_are_good.field-0.0 c.in_err-tokens_are_good.ensures.cause)
