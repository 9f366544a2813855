use Rattle.std.proofs.Common.{IfSome, IfNone, IsTrue, sym, subst, arith}
use Rattle.std.specs.List.Sorted.{IsSorted}
use Rattle.std.specs.Ordering.{nat_cmp}
use Rattle.sqlite.specs.Effect.{Database}
use Rattle.sqlite.specs.State.{HasCleanDisk}
use Rattle.sqlite.specs.Held.{state}
use Rattle.wgr_sql.proofs.ResultLemmas.{if_ok, if_none}
use Rattle.wgr_checks.specs.NetworkRows.{AreGoodNetworks}
use Rattle.wgr_opening.specs.Good.{HasEntries, HasSoundRows}
use Rattle.wgr_opening.proofs.GoodLemmas.{good_networks}
use Rattle.wgr_opening.proofs.JoinLemmas.{laid_still}
use Rattle.wgr_sql.specs.Causes.{HasCause}
use Rattle.wgr_sql.proofs.CauseLemmas.{handed}
use Rattle.wgr_checks.proofs.CauseLemmas.{next_causes}
use Rattle.wgr_opening.proofs.read.read_network_entries.Goals as goal

pub returns-in_default-clause-none : goal.returns-in_default-clause-none
returns-in_default-clause-none g c clean laid =
    let old = state g.S.Store c.args.conn.now in
    subst (λ o. IfNone o (IsTrue old.is_open × (HasSoundRows old.now → ⊥))) c.in_default.is (c.in_ok-tenants.ensures.none clean laid)

pub returns-clause-none : goal.returns-clause-none
returns-clause-none g c clean laid =
    let old = state g.S.Store c.args.conn.now in
    let mid = state g.S.Store c.read_entries.new.conn in
    let ids = c.in-Some.tenants.items in
    let before : HasCleanDisk mid = omega (arith, c.read_networks.ensures.survives.clean, clean) in
    let found = subst (λ o. IfSome o (λ x. IsTrue old.is_open × HasEntries old.now.trees x.items)) c.in-Some.is (c.in_ok-tenants.ensures.some before laid) in
    let kept = c.read_entries.ensures.kept (λ _. laid) in
    let sorted = subst (IsSorted nat_cmp) (sym c.as_slice.ensures.value) found.1.ids.sorted in
    if_ok c.read_networks.result _ _ (λ networks. if_none networks _ _ (λ none. (
      found.0,
      λ good.
          let here = subst (λ (d : Database). AreGoodNetworks ids (d.trees 5)) (sym (kept before none.0).1) (good_networks old.now good ids found.1.ids) in
          none.1 (subst (λ l. AreGoodNetworks l (mid.now.trees 5)) (sym c.as_slice.ensures.value) here),
    ))) (c.read_networks.ensures.none clean (laid_still old mid before laid kept) sorted)

pub returns-in_err-tenants-clause-cause : goal.returns-in_err-tenants-clause-cause
returns-in_err-tenants-clause-cause g c laid =
    handed (HasCause (state g.S.Store c.args.conn.now) (state g.S.Store c.read_entries.new.conn)) c.from_residual.result c.in_err-tenants.field-0.0 c.from_residual.ensures.1 (c.in_err-tenants.ensures.cause laid)

pub returns-clause-cause : goal.returns-clause-cause
returns-clause-cause g c laid =
    let old = state g.S.Store c.args.conn.now in
    let mid = state g.S.Store c.read_entries.new.conn in
    let new = state g.S.Store c.read_networks.new.conn in
    next_causes old mid new c.read_entries.ensures.survives c.read_networks.ensures.survives c.read_entries.ensures.kept laid c.read_networks.result c.read_networks.ensures.cause
