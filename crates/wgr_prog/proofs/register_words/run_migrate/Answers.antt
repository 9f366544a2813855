use Rattle.std.proofs.Common.{Ok, Err, refl}
use Rattle.wgr_prog.specs.declared.register_words.Failure.TheVariants as failure
use Rattle.wgr_prog.proofs.register_words.run_migrate.Goals as goal

pub returns-in-Ok : goal.returns-in-Ok
returns-in-Ok g c input failed = record { answer = Ok (record {}); migrated = c.in-Ok.ensures.migrated; kept = tt; fault = tt; reported = c.done.ensures; unread = (refl, refl) }

pub returns-in-Err : goal.returns-in-Err
returns-in-Err g c input failed =
    record { answer = Err (failure.Register c.in-Err.fault); migrated = tt; kept = c.in-Err.ensures.kept; fault = refl; reported = (c.failure.ensures.status, refl, refl); unread = (refl, refl) }
