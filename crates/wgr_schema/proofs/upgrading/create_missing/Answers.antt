use Rattle.std.proofs.Common.{◌≡◌, true≢false, refl, sym, subst}
use Rattle.sqlite.specs.Held.{state}
use Rattle.wgr_schema.specs.Fresh.{Lays}
use Rattle.wgr_schema.specs.Upgrade.{Begins, MadeBoth, StopsFrom, StopsUpgrade}
use Rattle.wgr_schema.specs.declared.version.Version.TheVariants.{One}
use Rattle.wgr_schema.proofs.UpgradeSteps.{begins_older}
use Rattle.wgr_schema.proofs.upgrading.create_missing.Goals as goal

pub returns-then-lacks_second-clause-step : goal.returns-then-lacks_second-clause-step
returns-then-lacks_second-clause-step g c clean start =
    let a = state g.S.Store c.args.tx.now.conn.now in
    let b = state g.S.Store c.create_both.new.tx.conn.now in
    let is : c.args.from ≡ One = c.if-lacks_second.ensures.is refl in
    subst (λ v. Lays (Begins v start) (MadeBoth start) a b c.create_both.result) (sym is) (c.create_both.ensures.step clean start)

pub returns-then-lacks_second-clause-cause : goal.returns-then-lacks_second-clause-cause
returns-then-lacks_second-clause-cause g c start =
    let a = state g.S.Store c.args.tx.now.conn.now in
    let b = state g.S.Store c.create_both.new.tx.conn.now in
    let is : c.args.from ≡ One = c.if-lacks_second.ensures.is refl in
    subst (λ v. StopsFrom (StopsUpgrade start) (Begins v start) a b c.create_both.result) (sym is) (c.create_both.ensures.cause start)

pub returns-clause-step : goal.returns-clause-step
returns-clause-step g c clean start inside at =
    let later : c.args.from ≡ One → ⊥ = λ e. true≢false (sym (c.if-lacks_second.ensures.only e)) in
    c.create_reader.ensures.step clean start inside (λ live. begins_older c.args.from start _ later (at live))

pub returns-clause-cause : goal.returns-clause-cause
returns-clause-cause g c start inside at =
    let later : c.args.from ≡ One → ⊥ = λ e. true≢false (sym (c.if-lacks_second.ensures.only e)) in
    c.create_reader.ensures.cause start inside (λ live. begins_older c.args.from start _ later (at live))
