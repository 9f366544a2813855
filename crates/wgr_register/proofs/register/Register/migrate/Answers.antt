use Rattle.std.proofs.Common.{[], sym, subst}
use Rattle.sqlite.specs.Effect.{Database}
use Rattle.wgr_columns.specs.Decode.{tables_of}
use Rattle.wgr_opening.specs.Outlines.{AreOutlines, outline_in}
use Rattle.wgr_register.proofs.StandLemmas.{at_good}
use Rattle.wgr_register.proofs.register.Register.migrate.Goals as goal

pub invariant_of-result : goal.invariant_of-result
invariant_of-result g c = (
  record {
    idle = c.migrate_tables.ensures.idle;
    somewhere = λ clean. let found = c.in-Ok.ensures.done clean in (found.0, [], at_good g.S.Store c.migrate_tables.new.conn found.0 found.1.good found.2);
  },
  λ clean live.
      let found = c.in-Ok.ensures.done clean in
      c.of.ensures _ (subst (λ (d : Database). AreOutlines (outline_in c.in-Ok.outlines) (tables_of d)) (sym (found.2.shows clean live)) found.3),
)

pub returns-in-Ok-clause-done : goal.returns-in-Ok-clause-done
returns-in-Ok-clause-done g c clean = let found = c.in-Ok.ensures.done clean in (found.0, found.1, at_good g.S.Store c.migrate_tables.new.conn found.0 found.1.good found.2)
