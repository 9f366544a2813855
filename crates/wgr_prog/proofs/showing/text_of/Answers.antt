use Rattle.wgr_prog.proofs.showing.text_of.Goals as goal

pub returns-in-Ok-Some-clause-says : goal.returns-in-Ok-Some-clause-says
returns-in-Ok-Some-clause-says g c = λ db late at now. record {
  census = c.in-Ok.census;
  counted = c.in-Ok.ensures.listed db late at now;
  there = rw c.in-Ok-Some.field-0-is at c.in-Ok-Some.ensures.some;
  json = rw c.in-Ok-Some.field-0-is at c.in-Ok-Some.ensures.json;
}

pub returns-in-Ok-None-clause-says : goal.returns-in-Ok-None-clause-says
returns-in-Ok-None-clause-says g c = λ db late at now. (c.in-Ok.census, c.in-Ok.ensures.listed db late at now, rw c.in-Ok-None.field-0-is at c.in-Ok-None.ensures.none)
