use Rattle.std.proofs.Common.{◌≡◌, map, take}
use Rattle.wgr_columns.specs.Decode.{reader_in}
use Rattle.wgr_entries.proofs.reader.digests_in.Given as goal

abbrev pub invariant-loop-row : goal.invariant-loop-row
invariant-loop-row l = l.digests.items ≡ map reader_in (take l.row-index l.rows)
