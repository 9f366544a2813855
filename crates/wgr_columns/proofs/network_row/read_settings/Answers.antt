use Rattle.std.proofs.Common.{rules, ◌≡◌, ap}
use Rattle.sqlite.specs.Order.{Row}
use Rattle.sqlite_value.specs.Order.{column}
use Rattle.wgr_model.specs.Rows.{NetworkRow}
use Rattle.wgr_columns.specs.Fields.{IsHostAt, IsPoolAt}
use Rattle.wgr_columns.specs.Stored.{AreSettings, stored_network}
use Rattle.wgr_columns.proofs.FieldLemmas.{host_there, pool_there}
use Rattle.wgr_columns.proofs.network_row.read_settings.Goals as goal

pub returns-in_err-pool-clause-only : goal.returns-in_err-pool-clause-only
returns-in_err-pool-clause-only c =
    let there : (w : NetworkRow) → AreSettings w → c.args.row.now ≡ stored_network w → IsPoolAt c.args.row.now 4 = (λ w settings is.
    let at = λ (p : _). ap (λ (x : Row). column x p) is in
    pool_there c.args.row.now 4 w.pool settings.pool ((at 4, at 5), at 6)) in
    search (rules, there)

pub returns-in_err-host-clause-only : goal.returns-in_err-host-clause-only
returns-in_err-host-clause-only c =
    let there : (w : NetworkRow) → AreSettings w → c.args.row.now ≡ stored_network w → IsHostAt c.args.row.now 7 = (λ w settings is. host_there c.args.row.now 7 w.host settings.host (ap (λ (x : Row). column x 7) is)) in
    search (rules, there)
