use Rattle.std.proofs.Common.{◌≡◌, [], ◌∷◌, ◌++◌, sym, ap, ap₂, ◌∙◌}
use Rattle.std.proofs.lemmas.List.{map_more}
use Rattle.wgr_columns.specs.Decode.{network_in}
use Rattle.wgr_entries.specs.Lookups.{settled}
use Rattle.wgr_sql.specs.Faults.{IsStore}
use Rattle.wgr_sql.proofs.CauseLemmas.{handed}
use Rattle.wgr_columns.specs.Stored.{IsKeptNetwork, stored_network}
use Rattle.wgr_entries.specs.Kept.{AreOf}
use Rattle.wgr_entries.proofs.KeptLemmas.{has_at}
use Rattle.wgr_entries.proofs.all.settled_in.Goals as goal

pub loop-row-preserved : goal.loop-row-preserved
loop-row-preserved c =
    c.in_ok-keep.ensures.kept ∙ ap₂ (λ xs h. xs ++ h ∷ []) c.loop-row.invariant (c.in_ok-network.ensures.value ∙ ap (λ r. settled (network_in r)) c.row-item.is)
    ∙ sym (map_more (λ r. settled (network_in r)) c.args.rows.now c.loop-row.row-index c.row-item.result c.loop-row-test.true)

pub returns-in_err-network-clause-only : goal.returns-in_err-network-clause-only
returns-in_err-network-clause-only c =
    handed (λ why. IsStore why → AreOf IsKeptNetwork stored_network c.args.rows.now → ⊥) c.from_residual.result c.in_err-network.field-0.0 c.from_residual.ensures.1
    (λ is all. let it = all c.row-item.result (has_at c.args.rows.now c.loop-row.row-index c.row-item.result c.loop-row-test.true c.row-item.is) in c.in_err-network.ensures.only is it.0 it.1 it.2)
