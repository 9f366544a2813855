use Rattle.std.proofs.Common.{◌≡◌, map, take}
use Rattle.wgr_model.specs.Rows.{route_row}
use Rattle.wgr_columns.specs.Decode.{allowed_in}
use Rattle.wgr_tables.proofs.read.routes_of.Given as goal

abbrev pub invariant-loop-row : goal.invariant-loop-row
invariant-loop-row l = map (route_row l.network) l.routes.items ≡ map allowed_in (take l.row-index l.rows)
