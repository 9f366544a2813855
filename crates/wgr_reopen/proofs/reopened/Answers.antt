use Rattle.std.proofs.Common.{◌≡◌}
use Rattle.sqlite.specs.Files.{file_state}
use Rattle.wgr_schema.specs.Versions.{IsOfEarlierVersion, IsOfVersion}
use Rattle.wgr_schema.specs.declared.version.Version.{Version}
use Rattle.wgr_schema.specs.declared.version.Version.TheVariants.{Three}
use Rattle.wgr_schema.specs.declared.fault.RegisterFault.TheVariants.{EarlierVersion, NotARegister, NotGood}
use Rattle.wgr_opening.specs.Good.{IsGood}
use Rattle.wgr_reopen.proofs.AgainLemmas.{good_is_present, good_is_third, holds_left, never_told, stands_again}
use Rattle.wgr_reopen.proofs.reopened.Goals as goal

pub returns-in-Ok-clause-stands : goal.returns-in-Ok-clause-stands
returns-in-Ok-clause-stands g c db late at =
    let files = c.stopped-files.result in
    stands_again db late files c.in-Ok.conn (λ clean. holds_left c.args.register files db late at (c.stopped-files.ensures.left (c.in-Ok.ensures.found clean).honest)) c.in-Ok.ensures.opened c.in-Ok.ensures.found
    c.open.result c.open.ensures.clean c.open.ensures.good

pub returns-in-Ok-clause-foreign : goal.returns-in-Ok-clause-foreign
returns-in-Ok-clause-foreign g c db late at =
    let files = c.stopped-files.result in
    never_told db late files c.in-Ok.conn (λ clean. holds_left c.args.register files db late at (c.stopped-files.ensures.left (c.in-Ok.ensures.found clean).honest)) c.in-Ok.ensures.opened c.in-Ok.ensures.found c.open.result (λ e. e.fault ≡ NotARegister)
    ((version : Version) → IsOfVersion version (file_state c.in-Ok.conn).now → ⊥) (λ e. e.connection) c.open.ensures.unharmed c.open.ensures.foreign (λ never good. never Three (good_is_third (file_state c.in-Ok.conn).now good))

pub returns-in-Ok-clause-earlier : goal.returns-in-Ok-clause-earlier
returns-in-Ok-clause-earlier g c db late at =
    let files = c.stopped-files.result in
    never_told db late files c.in-Ok.conn (λ clean. holds_left c.args.register files db late at (c.stopped-files.ensures.left (c.in-Ok.ensures.found clean).honest)) c.in-Ok.ensures.opened c.in-Ok.ensures.found c.open.result (λ e. e.fault ≡ EarlierVersion)
    (IsOfEarlierVersion (file_state c.in-Ok.conn).now) (λ e. e.connection) c.open.ensures.unharmed c.open.ensures.earlier (λ is good. good_is_present (file_state c.in-Ok.conn).now good is)

pub returns-in-Ok-clause-bad : goal.returns-in-Ok-clause-bad
returns-in-Ok-clause-bad g c db late at =
    let files = c.stopped-files.result in
    never_told db late files c.in-Ok.conn (λ clean. holds_left c.args.register files db late at (c.stopped-files.ensures.left (c.in-Ok.ensures.found clean).honest)) c.in-Ok.ensures.opened c.in-Ok.ensures.found c.open.result (λ e. e.fault ≡ NotGood)
    (IsGood (file_state c.in-Ok.conn).now → ⊥) (λ e. e.connection) c.open.ensures.unharmed c.open.ensures.bad (λ never good. never good)
