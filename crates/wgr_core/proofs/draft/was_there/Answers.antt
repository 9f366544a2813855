use Rattle.std.proofs.Common.{sym, ◌∙◌}
use Rattle.wgr_core.proofs.AlteredLemmas.{was_beyond, was_within}
use Rattle.wgr_core.proofs.draft.was_there.Goals as goal

pub returns-then-place-start : goal.returns-then-place-start
returns-then-place-start c = c.is_same_status.ensures ∙ sym (was_within c.args.start.now c.args.place c.args.peer.now c.index-start-place.result c.if-place-start.true)

pub returns-else-place-start : goal.returns-else-place-start
returns-else-place-start c = was_beyond c.args.start.now c.args.place c.args.peer.now c.if-place-start.false
