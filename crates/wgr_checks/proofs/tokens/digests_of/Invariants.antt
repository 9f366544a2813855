use Rattle.std.proofs.Common.{◌≡◌, ◌<◌, ℕ, [], map, take, slice_index_or}
use Rattle.wgr_columns.specs.Decode.{bytes_at}
use Rattle.wgr_columns.specs.Fields.{IsDigestAt}
use Rattle.wgr_checks.proofs.tokens.digests_of.Given as goal

abbrev pub invariant-loop-row : goal.invariant-loop-row
invariant-loop-row l = (l.all.items ≡ map (λ r. bytes_at r 1) (take l.row-index l.rows)) × ((k : ℕ) → k < l.row-index → IsDigestAt (slice_index_or l.rows k []) 1)
