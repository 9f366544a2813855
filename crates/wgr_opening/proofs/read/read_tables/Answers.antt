use Rattle.std.proofs.Common.{rules, IfSome, IfNone, IsTrue, sym, subst, arith}
use Rattle.std.specs.List.Sorted.{IsSorted}
use Rattle.std.specs.Ordering.{nat_cmp}
use Rattle.sqlite.specs.Effect.{Database}
use Rattle.sqlite.specs.State.{HasCleanDisk}
use Rattle.sqlite.specs.Held.{state}
use Rattle.wgr_checks.specs.AllowedRows.{AreWrittenAllowed}
use Rattle.wgr_checks.specs.PeerRows.{AreWrittenPeers}
use Rattle.wgr_opening.specs.Good.{HasNetworks, HasSoundRows}
use Rattle.wgr_opening.proofs.GoodLemmas.{written_allowed, written_peers}
use Rattle.wgr_opening.proofs.JoinLemmas.{laid_still}
use Rattle.wgr_sql.specs.Causes.{HasCause}
use Rattle.wgr_sql.proofs.CauseLemmas.{handed}
use Rattle.wgr_checks.proofs.CauseLemmas.{next_cause}
use Rattle.wgr_opening.proofs.read.read_tables.Goals as goal

pub returns-in_default-clause-none : goal.returns-in_default-clause-none
returns-in_default-clause-none g c clean laid =
    let old = state g.S.Store c.args.conn.now in
    subst (λ o. IfNone o (IsTrue old.is_open × (HasSoundRows old.now → ⊥))) c.in_default.is (c.in_ok-networks.ensures.none clean laid)

pub returns-then-not-branch-clause-none : goal.returns-then-not-branch-clause-none
returns-then-not-branch-clause-none g c clean laid =
    let old = state g.S.Store c.args.conn.now in
    let mid = state g.S.Store c.read_network_entries.new.conn in
    let ids = c.in-Some.networks.items in
    let before : HasCleanDisk mid = omega (arith, c.are_members_written.ensures.survives.clean, clean) in
    let found = subst (λ o. IfSome o (λ x. IsTrue old.is_open × HasNetworks old.now.trees x.items)) c.in-Some.is (c.in_ok-networks.ensures.some before laid) in
    let kept = c.read_network_entries.ensures.kept (λ _. laid) in
    let sorted = subst (IsSorted nat_cmp) (sym c.as_slice.ensures.value) found.1.ids.sorted in
    let told = c.in_ok-are_members_written.ensures.answer clean (laid_still old mid before laid kept) sorted in (
      found.0,
      λ good.
          let here = subst (λ (d : Database). AreWrittenPeers ids (d.trees 8) × AreWrittenAllowed ids (d.trees 10)) (sym (kept before told.0).1) (written_peers old.now good ids found.1.ids, written_allowed old.now good ids found.1.ids) in
          let so = told.1.1 (subst (λ l. AreWrittenPeers l (mid.now.trees 8) × AreWrittenAllowed l (mid.now.trees 10)) (sym c.as_slice.ensures.value) here) in
          search (rules, so),
    )

pub returns-in_err-networks-clause-cause : goal.returns-in_err-networks-clause-cause
returns-in_err-networks-clause-cause g c laid =
    handed (HasCause (state g.S.Store c.args.conn.now) (state g.S.Store c.read_network_entries.new.conn)) c.from_residual.result c.in_err-networks.field-0.0 c.from_residual.ensures.1 (c.in_err-networks.ensures.cause laid)

pub returns-in_err-are_members_written-clause-cause : goal.returns-in_err-are_members_written-clause-cause
returns-in_err-are_members_written-clause-cause g c laid =
    let old = state g.S.Store c.args.conn.now in
    let mid = state g.S.Store c.read_network_entries.new.conn in
    let new = state g.S.Store c.are_members_written.new.conn in
    handed (HasCause old new) c.from_residual-in_err-are_members_written.result c.in_err-are_members_written.field-0.0 c.from_residual-in_err-are_members_written.ensures.1
    (next_cause old mid new c.read_network_entries.ensures.survives c.are_members_written.ensures.survives c.read_network_entries.ensures.kept laid c.in_err-are_members_written.field-0.0 c.in_err-are_members_written.ensures.cause)
