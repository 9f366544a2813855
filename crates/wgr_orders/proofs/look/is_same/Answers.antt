-- `==` goes byte by byte, and the definition by comparison.
use Rattle.std.proofs.Common.{◌∙◌}
use Rattle.std.specs.Cmp.Lexicographic.{texts_ties}
use Rattle.wgr_model.proofs.LookLemmas.{is_same_is}
use Rattle.wgr_orders.proofs.look.is_same.Goals as goal

pub returns : goal.returns
returns c = c.eq.ensures ∙ texts_ties c.args.one.now c.args.other.now ∙ is_same_is c.args.one.now c.args.other.now
