use Rattle.std.proofs.Common.{Option, subst, sym, ◌∙◌}
use Rattle.wgr_opening.specs.Outlines.{AreOutlines, outline_in}
use Rattle.wgr_opening.specs.declared.outlines.Outlines.{Outlines}
use Rattle.wgr_register.specs.Known.{known_outline}
use Rattle.wgr_register.proofs.KnownLemmas.{found_outline}
use Rattle.wgr_register.proofs.outlines.outline_of.Goals as goal

pub returns-in_default : goal.returns-in_default
returns-in_default c t n good known formed = c.unknown.ensures n

pub returns-in-Some-outline : goal.returns-in-Some-outline
returns-in-Some-outline c t n good known formed =
    found_outline t good (outline_in c.in-Some.known) (subst (λ (o : Option Outlines). AreOutlines (known_outline o) t) c.in-Some.is known) c.args.id c.in-Some-outline.outline (sym c.outline.ensures ∙ c.in-Some-outline.is) n formed

pub returns-in-None : goal.returns-in-None
returns-in-None c t n good known formed = c.unknown-in-None.ensures n
