use Rattle.std.proofs.Common.{ap}
use Rattle.wgr_model.specs.RowLaws.{rows_view}
use Rattle.wgr_model.specs.Rows.{Tables}
use Rattle.wgr_opening.proofs.laws.migrations_keep_views.Goals as goal

pub returns : goal.returns
returns c old new is = (ap (λ (t : Tables). t.tenants) is.rows, λ me. ap (λ (t : Tables). rows_view t me) is.rows)
