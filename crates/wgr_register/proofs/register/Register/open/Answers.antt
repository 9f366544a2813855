use Rattle.std.proofs.Common.{[], sym, subst}
use Rattle.sqlite.specs.Effect.{Database}
use Rattle.wgr_columns.specs.Decode.{tables_of}
use Rattle.wgr_opening.specs.Outlines.{AreOutlines, outline_in}
use Rattle.wgr_register.proofs.StandLemmas.{at_good}
use Rattle.wgr_register.proofs.register.Register.open.Goals as goal

pub invariant_of-result : goal.invariant_of-result
invariant_of-result g c = (
  record {
    idle = c.check_register.ensures.idle;
    somewhere = λ clean. let found = c.in-Ok.ensures.right clean in (_, [], at_good g.S.Store c.check_register.new.conn _ found.0 found.1);
  },
  λ clean live.
      let found = c.in-Ok.ensures.right clean in
      c.of.ensures _ (subst (λ (d : Database). AreOutlines (outline_in c.in-Ok.outlines) (tables_of d)) (sym (found.1.shows clean live)) (c.in-Ok.ensures.outlines clean)),
)

pub returns-in-Ok-clause-good : goal.returns-in-Ok-clause-good
returns-in-Ok-clause-good g c clean = let found = c.in-Ok.ensures.right clean in (found.0, at_good g.S.Store c.check_register.new.conn _ found.0 found.1)
