use Rattle.std.proofs.Common.{◌≡◌}
use Rattle.sqlite.specs.WalFiles.{image_at}
use Rattle.wgr_file.proofs.FileLemmas.{found_as, migrated, stays}
use Rattle.wgr_opening.specs.Good.{IsReady, HasSoundRows}
use Rattle.wgr_opening.specs.Migrated.{MayMigrate}
use Rattle.wgr_schema.specs.declared.version.Version.{Version}
use Rattle.wgr_file.proofs.opening.migrate_register.Goals as goal

pub returns-in-Ok-clause-migrated : goal.returns-in-Ok-clause-migrated
returns-in-Ok-clause-migrated g c =
    migrated c.in-Ok-Some.conn c.in-Ok.migrated (image_at g.S.Start) c.close.result (rw c.in-Ok-Some.field-0-is at c.in-Ok-Some.ensures.found) c.in-Ok.ensures.clean c.in-Ok.ensures.done c.close.ensures

pub returns-in-Err-migrate-clause-kept : goal.returns-in-Err-migrate-clause-kept
returns-in-Err-migrate-clause-kept g c =
    stays c.in-Ok-Some.conn c.in-Err-migrate.field-0.connection (image_at g.S.Start) c.close-in-Err-migrate.result (rw c.in-Ok-Some.field-0-is at c.in-Ok-Some.ensures.found) c.in-Err-migrate.ensures.unharmed
    c.in-Err-migrate.ensures.kept c.close-in-Err-migrate.ensures

pub returns-in-Err-migrate-clause-foreign : goal.returns-in-Err-migrate-clause-foreign
returns-in-Err-migrate-clause-foreign g c told =
    found_as c.in-Ok-Some.conn c.in-Err-migrate.field-0.connection (image_at g.S.Start) c.close-in-Err-migrate.result (λ db. (version : Version) → MayMigrate version db → ⊥) (rw c.in-Ok-Some.field-0-is at c.in-Ok-Some.ensures.found) c.in-Err-migrate.ensures.unharmed
    (λ now. c.in-Err-migrate.ensures.foreign now told) c.close-in-Err-migrate.ensures

pub returns-in-Err-migrate-clause-taken : goal.returns-in-Err-migrate-clause-taken
returns-in-Err-migrate-clause-taken g c told =
    found_as c.in-Ok-Some.conn c.in-Err-migrate.field-0.connection (image_at g.S.Start) c.close-in-Err-migrate.result (λ db. (version : Version) → IsReady version db → ⊥) (rw c.in-Ok-Some.field-0-is at c.in-Ok-Some.ensures.found) c.in-Err-migrate.ensures.unharmed
    (λ now. c.in-Err-migrate.ensures.taken now told) c.close-in-Err-migrate.ensures

pub returns-in-Err-migrate-clause-bad : goal.returns-in-Err-migrate-clause-bad
returns-in-Err-migrate-clause-bad g c told =
    found_as c.in-Ok-Some.conn c.in-Err-migrate.field-0.connection (image_at g.S.Start) c.close-in-Err-migrate.result (λ db. HasSoundRows db → ⊥) (rw c.in-Ok-Some.field-0-is at c.in-Ok-Some.ensures.found) c.in-Err-migrate.ensures.unharmed
    (λ now. c.in-Err-migrate.ensures.bad now told) c.close-in-Err-migrate.ensures
