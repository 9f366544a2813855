use Rattle.std.proofs.Common.{◌≡◌, map, take}
use Rattle.wgr_model.specs.Rows.{peer_id}
use Rattle.wgr_columns.specs.Decode.{number_at}
use Rattle.wgr_rows.proofs.expired.numbers_of.Given as goal

abbrev pub invariant-loop-row : goal.invariant-loop-row
invariant-loop-row l = map (peer_id l.network) l.numbers.items ≡ map (λ r. number_at r 0) (take l.row-index l.rows)
