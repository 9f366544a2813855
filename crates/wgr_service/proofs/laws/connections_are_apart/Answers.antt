use Rattle.std.proofs.Common.{map}
use Rattle.wgr_model.specs.RowLaws.{rows_view}
use Rattle.wgr_office.proofs.WorldLemmas.{given_own}
use Rattle.wgr_service.specs.Connections.{given_answer, asked_event}
use Rattle.wgr_service.proofs.laws.connections_are_apart.Goals as goal

pub returns : goal.returns
returns c rows after xs served world =
    (λ tenant. (given_own tenant (rows_view rows tenant) (map asked_event xs) (map given_answer xs) served world.reported (world.apart.answered tenant), world.apart.views tenant), world.apart.holders)
