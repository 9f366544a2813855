use Rattle.wgr_opening.proofs.migrate.audited.Goals as goal

pub returns-in-Ok-Some-clause-good : goal.returns-in-Ok-Some-clause-good
returns-in-Ok-Some-clause-good g c = rw c.in-Ok-Some.field-0-is at c.in-Ok-Some.ensures.good
