use Rattle.std.proofs.Common.{sym, ap, ◌∙◌}
use Rattle.wgr_core.specs.Change.{assign_routes}
use Rattle.wgr_core.proofs.PutRouteLemmas.{assign_none}
use Rattle.wgr_core.proofs.draft.each_once.Goals as goal

pub returns-then-is_empty : goal.returns-then-is_empty
returns-then-is_empty c = ap (assign_routes c.args.start.now) c.into_routes.ensures ∙ assign_none c.args.start.now c.args.routes (sym c.if-is_empty.ensures) c.requires.ordered
