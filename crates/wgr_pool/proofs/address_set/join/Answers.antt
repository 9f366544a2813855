use Rattle.std.proofs.Common.{◌≡◌, ◌<◌, ◌+◌, ◌-◌, subst, sym, refl, slice_index_or}
use Rattle.std.specs.Prelude.{length}
use Rattle.wgr_text.specs.Prefix.{rank}
use Rattle.wgr_text.specs.declared.prefix.Span.{Span}
use Rattle.wgr_pool.specs.Runs.{IsJoined}
use Rattle.wgr_pool.proofs.Joining.{new_run, longer_run, earlier_run, joined_run}
use Rattle.wgr_pool.proofs.address_set.join.Goals as goal

pub returns-in-true-true-clause-joined : goal.returns-in-true-true-clause-joined
returns-in-true-true-clause-joined c =
    let items = c.args.runs.now.items in
    let place = c.args.place in
    let a = c.args.address in
    let first = subst (λ xs. (0 < place) × ((d : Span) → rank a ≡ rank (slice_index_or xs (place - 1) d).hi + 1)) c.deref.ensures.value (c.in-true-true.ensures.next refl) in
    let second = subst (λ xs. (place < length xs) × ((d : Span) → rank (slice_index_or xs place d).lo ≡ rank a + 1)) c.deref-2.ensures.value (c.in-true-true.ensures'.next refl) in
    subst (λ xs. IsJoined items xs a) (sym c.remove.ensures.items)
    (joined_run items place _ _ a c.follows_last-follows.ensures.fits c.requires.in_order first second c.index_mut.ensures.value c.index.ensures)

pub returns-in-true-false-clause-joined : goal.returns-in-true-false-clause-joined
returns-in-true-false-clause-joined c =
    let items = c.args.runs.now.items in
    let place = c.args.place in
    let a = c.args.address in
    let first = subst (λ xs. (0 < place) × ((d : Span) → rank a ≡ rank (slice_index_or xs (place - 1) d).hi + 1)) c.deref.ensures.value (c.in-true-false.ensures.next refl) in
    longer_run items place _ a c.follows_last-follows.ensures.fits c.requires.in_order c.requires.gap first c.index_mut-in-true-false.ensures.value

pub returns-in-false-true-clause-joined : goal.returns-in-false-true-clause-joined
returns-in-false-true-clause-joined c =
    let items = c.args.runs.now.items in
    let place = c.args.place in
    let a = c.args.address in
    let second = subst (λ xs. (place < length xs) × ((d : Span) → rank (slice_index_or xs place d).lo ≡ rank a + 1)) c.deref-2.ensures.value (c.in-false-true.ensures'.next refl) in
    earlier_run items place _ a c.follows_last-follows.ensures.fits c.requires.in_order c.requires.gap second c.index_mut-in-false-true.ensures.value

pub returns-in-Ok-clause-joined : goal.returns-in-Ok-clause-joined
returns-in-Ok-clause-joined c =
    let items = c.args.runs.now.items in
    let a = c.args.address in
    subst (λ xs. IsJoined items xs a) (sym c.in-Ok.ensures.items) (new_run items c.args.place a c.follows_last-follows.ensures.fits c.requires.in_order c.requires.gap)
