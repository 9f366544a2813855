use Rattle.std.proofs.Common.{◌≡◌, map, take}
use Rattle.wgr_columns.specs.Decode.{number_at}
use Rattle.wgr_entries.proofs.all.ids_in.Given as goal

abbrev pub invariant-loop-row : goal.invariant-loop-row
invariant-loop-row l = l.ids.items ≡ map (λ r. number_at r 0) (take l.row-index l.rows)
