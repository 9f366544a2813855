use Rattle.std.proofs.Common.{◌≡◌, map, take}
use Rattle.wgr_columns.specs.Decode.{token_in}
use Rattle.wgr_entries.proofs.all.tokens_in.Given as goal

abbrev pub invariant-loop-row : goal.invariant-loop-row
invariant-loop-row l = l.tokens.items ≡ map token_in (take l.row-index l.rows)
