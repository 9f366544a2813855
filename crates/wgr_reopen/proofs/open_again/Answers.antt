use Rattle.std.proofs.Common.{◌≡◌}
use Rattle.sqlite.specs.Files.{file_state}
use Rattle.wgr_schema.specs.Versions.{IsOfEarlierVersion, IsOfVersion}
use Rattle.wgr_schema.specs.declared.version.Version.{Version}
use Rattle.wgr_schema.specs.declared.version.Version.TheVariants.{Three}
use Rattle.wgr_schema.specs.declared.fault.RegisterFault.TheVariants.{EarlierVersion, NotARegister, NotGood}
use Rattle.wgr_opening.specs.Good.{IsGood}
use Rattle.wgr_reopen.proofs.AgainLemmas.{fails_by_fault, good_is_present, good_is_third, never_told, stands_again}
use Rattle.wgr_reopen.proofs.open_again.Goals as goal

pub returns-in-Ok-clause-stands : goal.returns-in-Ok-clause-stands
returns-in-Ok-clause-stands g c db late held =
    stands_again db late c.args.files c.in-Ok.conn (λ clean. held) c.in-Ok.ensures.opened c.in-Ok.ensures.found c.open.result c.open.ensures.clean c.open.ensures.good

pub returns-in-Ok-clause-foreign : goal.returns-in-Ok-clause-foreign
returns-in-Ok-clause-foreign g c db late held =
    never_told db late c.args.files c.in-Ok.conn (λ clean. held) c.in-Ok.ensures.opened c.in-Ok.ensures.found c.open.result (λ e. e.fault ≡ NotARegister)
    ((version : Version) → IsOfVersion version (file_state c.in-Ok.conn).now → ⊥) (λ e. e.connection) c.open.ensures.unharmed c.open.ensures.foreign (λ never good. never Three (good_is_third (file_state c.in-Ok.conn).now good))

pub returns-in-Ok-clause-earlier : goal.returns-in-Ok-clause-earlier
returns-in-Ok-clause-earlier g c db late held =
    never_told db late c.args.files c.in-Ok.conn (λ clean. held) c.in-Ok.ensures.opened c.in-Ok.ensures.found c.open.result (λ e. e.fault ≡ EarlierVersion)
    (IsOfEarlierVersion (file_state c.in-Ok.conn).now) (λ e. e.connection) c.open.ensures.unharmed c.open.ensures.earlier (λ is good. good_is_present (file_state c.in-Ok.conn).now good is)

pub returns-in-Ok-clause-bad : goal.returns-in-Ok-clause-bad
returns-in-Ok-clause-bad g c db late held =
    never_told db late c.args.files c.in-Ok.conn (λ clean. held) c.in-Ok.ensures.opened c.in-Ok.ensures.found c.open.result (λ e. e.fault ≡ NotGood)
    (IsGood (file_state c.in-Ok.conn).now → ⊥) (λ e. e.connection) c.open.ensures.unharmed c.open.ensures.bad (λ never good. never good)

pub returns-in-Err-clause-cause : goal.returns-in-Err-clause-cause
returns-in-Err-clause-cause g c db late held clean = fails_by_fault c.args.files db late c.in-Err.refused.1 c.in-Err.refused.0 held (c.in-Err.ensures.cause clean)
