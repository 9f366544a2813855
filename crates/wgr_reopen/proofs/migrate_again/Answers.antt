use Rattle.std.proofs.Common.{◌≡◌}
use Rattle.sqlite.specs.Files.{file_state}
use Rattle.wgr_schema.specs.declared.version.Version.{Version}
use Rattle.wgr_schema.specs.declared.fault.RegisterFault.TheVariants.{NotARegister, NotEmpty, NotGood}
use Rattle.wgr_opening.specs.Good.{IsReady, HasSoundRows}
use Rattle.wgr_opening.specs.Migrated.{MayMigrate}
use Rattle.wgr_reopen.proofs.AgainLemmas.{migrating_fails_by_fault, never_migrating, stands_migrated}
use Rattle.wgr_reopen.proofs.migrate_again.Goals as goal

pub returns-in-Ok-clause-stands : goal.returns-in-Ok-clause-stands
returns-in-Ok-clause-stands g c version old can held =
    stands_migrated version old can c.args.files c.in-Ok.conn held c.in-Ok.ensures.opened c.in-Ok.ensures.found c.migrate.result c.migrate.ensures.clean c.migrate.ensures.done

pub returns-in-Ok-clause-foreign : goal.returns-in-Ok-clause-foreign
returns-in-Ok-clause-foreign g c version old can held =
    never_migrating version old can c.args.files c.in-Ok.conn held c.in-Ok.ensures.opened c.in-Ok.ensures.found c.migrate.result (λ e. e.fault ≡ NotARegister)
    ((v : Version) → MayMigrate v (file_state c.in-Ok.conn).now → ⊥) (λ e. e.connection) c.migrate.ensures.unharmed c.migrate.ensures.foreign (λ never v it. never v it.may)

pub returns-in-Ok-clause-taken : goal.returns-in-Ok-clause-taken
returns-in-Ok-clause-taken g c version old can held =
    never_migrating version old can c.args.files c.in-Ok.conn held c.in-Ok.ensures.opened c.in-Ok.ensures.found c.migrate.result (λ e. e.fault ≡ NotEmpty)
    ((v : Version) → IsReady v (file_state c.in-Ok.conn).now → ⊥) (λ e. e.connection) c.migrate.ensures.unharmed c.migrate.ensures.taken (λ never v it. never v (it.may.0, it.free))

pub returns-in-Ok-clause-bad : goal.returns-in-Ok-clause-bad
returns-in-Ok-clause-bad g c version old can held =
    never_migrating version old can c.args.files c.in-Ok.conn held c.in-Ok.ensures.opened c.in-Ok.ensures.found c.migrate.result (λ e. e.fault ≡ NotGood)
    (HasSoundRows (file_state c.in-Ok.conn).now → ⊥) (λ e. e.connection) c.migrate.ensures.unharmed c.migrate.ensures.bad (λ never v it. never it.sound)

pub returns-in-Err-clause-cause : goal.returns-in-Err-clause-cause
returns-in-Err-clause-cause g c old held clean = migrating_fails_by_fault c.args.files old c.in-Err.refused.1 c.in-Err.refused.0 held (c.in-Err.ensures.cause clean)
