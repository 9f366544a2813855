use Rattle.std.proofs.Common.{ap, cond, nat_eq, Option, Some, ◌∙◌}
use Rattle.wgr_outline.specs.declared.outline.Outline.{Outline}
use Rattle.wgr_opening.specs.Outlines.{outline_in}
use Rattle.wgr_register.specs.Known.{known_outline}
use Rattle.wgr_register.proofs.KnownLemmas.{put_known}
use Rattle.wgr_register.proofs.outlines.note.Goals as goal

pub returns-in-Ok : goal.returns-in-Ok
returns-in-Ok c t n others formed all =
    put_known (known_outline c.args.outlines.now) (outline_in c.put.new.self) t c.args.id c.args.outline n
    (λ other. c.in-Ok.ensures other ∙ ap (λ (o : Option Outline). cond (nat_eq c.args.id other) (Some c.args.outline) o) (c.taken_or_new-known.ensures.outlines other)) others formed all
