use Rattle.std.proofs.Common.{IfSome, IfNone, IsTrue, [], not, sym, ap, subst, ◌∙◌}
use Rattle.std.specs.List.{AllByRecursion}
use Rattle.sqlite.specs.Held.{state}
use Rattle.wgr_sql.proofs.ResultLemmas.{if_ok}
use Rattle.wgr_columns.specs.Decode.{tables_of}
use Rattle.wgr_opening.specs.Good.{HasAll, HasSoundRows, StoresNetwork, as_third}
use Rattle.wgr_opening.specs.Outlines.{outline_in}
use Rattle.wgr_opening.proofs.OutlineLemmas.{both_told, outlines_formed}
use Rattle.wgr_opening.proofs.GoodLemmas.{all_told, stored_third}
use Rattle.wgr_opening.proofs.JoinLemmas.{is_sound, register, stands_read, cause_if_clean, ids_apart}
use Rattle.wgr_sql.specs.Causes.{HasCause}
use Rattle.wgr_sql.proofs.CauseLemmas.{handed}
use Rattle.wgr_checks.proofs.WalkCauses.{walk_cause}
use Rattle.wgr_opening.proofs.check.audit.Goals as goal

pub returns-clause-good : goal.returns-clause-good
returns-clause-good g c clean first =
    let old = state g.S.Store c.args.conn.now in
    let before = c.stored_outlines.ensures.reads.clean clean in
    let laid = first in
    let found = subst (λ o. IfSome o (λ x. IsTrue old.is_open × HasAll old.now x.items)) c.in-Some.is (c.in_ok-networks.ensures.some before laid) in
    let live = found.0 in
    let sound = (c.schema-live.ensures.live live).0 in
    let ids = c.in-Some.networks.items in
    let stood = stands_read g.S.Store c.args.conn.now c.read_all.new.conn c.requires.idle c.read_all.ensures.idle live (register old.now c.args.version (first live) sound ids found.1)
    (c.is_autocommit-settled.ensures.settled (c.is_autocommit-settled.ensures.value ∙ ap not c.requires.idle)) (λ trees shown may. g.met.S.Store.settled c.args.conn.now.store trees shown may)
    (c.read_all.ensures.kept (λ _. laid)) c.read_all.ensures.survives in
    both_told c.stored_outlines.result (AllByRecursion (StoresNetwork (tables_of old.now)) c.as_slice.result.now) _ _ (c.stored_outlines.ensures.answer old.now [] stood clean) (c.stored_outlines.ensures.outlines old.now [] stood clean) (λ so outlines stored.
    let good = is_sound old.now c.args.version (first live) sound ids found.1 (subst (AllByRecursion (StoresNetwork (tables_of old.now))) c.as_slice.ensures.value so) in
    (live, good, c.stored_outlines.ensures.reads.stands old.now [] stood, outlines_formed (outline_in outlines) (as_third (tables_of old.now)) good.consistent (λ id outline told. let it = stored id outline told in (it.0, stored_third (tables_of old.now) id it.0 it.1, it.2))))

pub returns-clause-kept : goal.returns-clause-kept
returns-clause-kept g c version clean shown =
    let old = state g.S.Store c.args.conn.now in
    let first = version clean in
    let before = c.stored_outlines.ensures.reads.clean clean in
    let laid = first in
    let found = subst (λ o. IfSome o (λ x. IsTrue old.is_open × HasAll old.now x.items)) c.in-Some.is (c.in_ok-networks.ensures.some before laid) in
    let live = found.0 in
    let sound = (c.schema-live.ensures.live live).0 in
    let ids = c.in-Some.networks.items in
    let stood = stands_read g.S.Store c.args.conn.now c.read_all.new.conn c.requires.idle c.read_all.ensures.idle live (register old.now c.args.version (first live) sound ids found.1)
    (c.is_autocommit-settled.ensures.settled (c.is_autocommit-settled.ensures.value ∙ ap not c.requires.idle)) (λ trees open_then may. g.met.S.Store.settled c.args.conn.now.store trees open_then may)
    (c.read_all.ensures.kept (λ _. laid)) c.read_all.ensures.survives in
    (live, (c.stored_outlines.ensures.reads.stands old.now [] stood).shows clean shown)

pub returns-in_default-clause-only : goal.returns-in_default-clause-only
returns-in_default-clause-only g c clean first =
    let old = state g.S.Store c.args.conn.now in
    let laid = first in
    let none = subst (λ o. IfNone o (IsTrue old.is_open × (HasSoundRows old.now → ⊥))) c.in_default.is (c.in_ok-networks.ensures.none clean laid) in
    (none.0, λ good. absurd (none.1 good))

pub returns-clause-only : goal.returns-clause-only
returns-clause-only g c clean first =
    let old = state g.S.Store c.args.conn.now in
    let before = c.stored_outlines.ensures.reads.clean clean in
    let laid = first in
    let found = subst (λ o. IfSome o (λ x. IsTrue old.is_open × HasAll old.now x.items)) c.in-Some.is (c.in_ok-networks.ensures.some before laid) in
    let live = found.0 in
    let sound = (c.schema-live.ensures.live live).0 in
    let ids = c.in-Some.networks.items in
    let stood = stands_read g.S.Store c.args.conn.now c.read_all.new.conn c.requires.idle c.read_all.ensures.idle live (register old.now c.args.version (first live) sound ids found.1)
    (c.is_autocommit-settled.ensures.settled (c.is_autocommit-settled.ensures.value ∙ ap not c.requires.idle)) (λ trees shown may. g.met.S.Store.settled c.args.conn.now.store trees shown may)
    (c.read_all.ensures.kept (λ _. laid)) c.read_all.ensures.survives in
    if_ok c.stored_outlines.result _ _ (λ is told. (
      live,
      λ good. told.1 (subst (AllByRecursion (StoresNetwork (tables_of old.now))) (sym c.as_slice.ensures.value) (all_told old.now good ids found.1.tables.there.ids)),
    )) (c.stored_outlines.ensures.answer old.now [] stood clean)

pub returns-in_err-networks-clause-cause : goal.returns-in_err-networks-clause-cause
returns-in_err-networks-clause-cause g c version =
    handed (HasCause (state g.S.Store c.args.conn.now) (state g.S.Store c.read_all.new.conn)) c.from_residual.result c.in_err-networks.field-0.0 c.from_residual.ensures.1 (c.in_err-networks.ensures.cause version)

pub returns-clause-cause : goal.returns-clause-cause
returns-clause-cause g c version =
    let old = state g.S.Store c.args.conn.now in
    let mid = state g.S.Store c.read_all.new.conn in
    let new = state g.S.Store c.stored_outlines.new.conn in
    cause_if_clean old new c.stored_outlines.result (λ clean.
    let first = version clean in
    let before = c.stored_outlines.ensures.reads.clean clean in
    let laid = first in
    let found = subst (λ o. IfSome o (λ x. IsTrue old.is_open × HasAll old.now x.items)) c.in-Some.is (c.in_ok-networks.ensures.some before laid) in
    let live = found.0 in
    let sound = (c.schema-live.ensures.live live).0 in
    let ids = c.in-Some.networks.items in
    let stood = stands_read g.S.Store c.args.conn.now c.read_all.new.conn c.requires.idle c.read_all.ensures.idle live (register old.now c.args.version (first live) sound ids found.1)
    (c.is_autocommit-settled.ensures.settled (c.is_autocommit-settled.ensures.value ∙ ap not c.requires.idle)) (λ trees open_then may. g.met.S.Store.settled c.args.conn.now.store trees open_then may)
    (c.read_all.ensures.kept (λ _. laid)) c.read_all.ensures.survives in
    walk_cause old mid new c.read_all.ensures.survives c.stored_outlines.ensures.reads.survives c.stored_outlines.result (c.stored_outlines.ensures.cause old.now [] stood (ids_apart old.now ids found.1.tables)))
