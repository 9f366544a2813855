use Rattle.std.proofs.Common.{[], refl, arith}
use Rattle.wgr_checks.specs.NetworkRows.{HasSettingColumns}
use Rattle.wgr_checks.proofs.ListLemmas.{all_places}
use Rattle.wgr_checks.proofs.networks.have_settings.Goals as goal

pub returns : goal.returns
returns c = ((λ told. all_places HasSettingColumns c.args.rows.now [] (λ k low. c.loop-row.invariant k (omega (arith, low, c.loop-row-test.false)))), (λ all. refl))
