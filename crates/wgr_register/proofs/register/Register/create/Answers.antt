use Rattle.std.proofs.Common.{[]}
use Rattle.sqlite.specs.Held.{state}
use Rattle.wgr_columns.specs.Decode.{tables_of}
use Rattle.wgr_register.proofs.StandLemmas.{at_fresh}
use Rattle.wgr_register.proofs.register.Register.create.Goals as goal

pub invariant_of-result : goal.invariant_of-result
invariant_of-result g c = (
  record {
    idle = c.make.ensures.idle;
    somewhere = λ clean. let made = c.in-Ok.ensures.done clean in (made.0, [], at_fresh g.S.Store c.make.new.conn made.0 made.1 made.2);
  },
  λ clean live. c.new.ensures (tables_of (state g.S.Store c.make.new.conn).now),
)

pub returns-in-Ok-clause-done : goal.returns-in-Ok-clause-done
returns-in-Ok-clause-done g c clean = let made = c.in-Ok.ensures.done clean in (made.0, made.1, at_fresh g.S.Store c.make.new.conn made.0 made.1 made.2)
