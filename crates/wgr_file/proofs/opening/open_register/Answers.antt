use Rattle.sqlite.specs.WalFiles.{image_at}
use Rattle.wgr_file.proofs.FileLemmas.{found_as, open_in, stays}
use Rattle.wgr_opening.specs.Good.{IsGood}
use Rattle.wgr_schema.specs.Versions.{IsOfEarlierVersion, IsOfVersion}
use Rattle.wgr_schema.specs.declared.version.Version.{Version}
use Rattle.wgr_schema.specs.declared.version.Version.TheVariants.{Three}
use Rattle.wgr_file.proofs.opening.open_register.Goals as goal

pub returns-in-Ok-clause-open : goal.returns-in-Ok-clause-open
returns-in-Ok-clause-open g c =
    open_in c.in-Ok-Some.conn c.in-Ok.register (image_at g.S.Start) (rw c.in-Ok-Some.field-0-is at c.in-Ok-Some.ensures.found) c.in-Ok.ensures.clean c.in-Ok.ensures.good

pub returns-in-Err-open-clause-kept : goal.returns-in-Err-open-clause-kept
returns-in-Err-open-clause-kept g c =
    stays c.in-Ok-Some.conn c.in-Err-open.field-0.connection (image_at g.S.Start) c.close.result (rw c.in-Ok-Some.field-0-is at c.in-Ok-Some.ensures.found) c.in-Err-open.ensures.unharmed
    c.in-Err-open.ensures.kept c.close.ensures

pub returns-in-Err-open-clause-foreign : goal.returns-in-Err-open-clause-foreign
returns-in-Err-open-clause-foreign g c told =
    found_as c.in-Ok-Some.conn c.in-Err-open.field-0.connection (image_at g.S.Start) c.close.result (λ db. (version : Version) → IsOfVersion version db → ⊥) (rw c.in-Ok-Some.field-0-is at c.in-Ok-Some.ensures.found) c.in-Err-open.ensures.unharmed
    (λ now. c.in-Err-open.ensures.foreign now told) c.close.ensures

pub returns-in-Err-open-clause-earlier : goal.returns-in-Err-open-clause-earlier
returns-in-Err-open-clause-earlier g c told =
    found_as c.in-Ok-Some.conn c.in-Err-open.field-0.connection (image_at g.S.Start) c.close.result IsOfEarlierVersion (rw c.in-Ok-Some.field-0-is at c.in-Ok-Some.ensures.found) c.in-Err-open.ensures.unharmed
    (λ now. c.in-Err-open.ensures.earlier now told) c.close.ensures

pub returns-in-Err-open-clause-bad : goal.returns-in-Err-open-clause-bad
returns-in-Err-open-clause-bad g c told =
    found_as c.in-Ok-Some.conn c.in-Err-open.field-0.connection (image_at g.S.Start) c.close.result (λ db. IsOfVersion Three db × (IsGood db → ⊥)) (rw c.in-Ok-Some.field-0-is at c.in-Ok-Some.ensures.found) c.in-Err-open.ensures.unharmed
    (λ now. (c.in-Err-open.ensures.version now told, c.in-Err-open.ensures.bad now told)) c.close.ensures
