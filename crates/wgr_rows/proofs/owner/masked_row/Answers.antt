use Rattle.std.proofs.Common.{ap, ◌∙◌}
use Rattle.wgr_core.specs.Network.{live_at}
use Rattle.wgr_model.specs.Rows.{network_entry_of}
use Rattle.wgr_sql.proofs.ResultLemmas.{if_ok}
use Rattle.wgr_columns.specs.Decode.{tables_of}
use Rattle.wgr_rows.specs.Holder.{prefix_holder}
use Rattle.wgr_rows.proofs.owner.masked_row.Goals as goal

pub returns-clause-found : goal.returns-clause-found
returns-clause-found g c short db pending w stood is here id clean =
    if_ok c.allowed_row.result _ _ (λ found e. e ∙ ap (prefix_holder (live_at (network_entry_of (tables_of db) w).network c.args.now)) c.in-Some.ensures.value) (c.allowed_row.ensures.found db pending w stood is here id clean)
