use Rattle.sqlite.specs.State.{HasCleanDisk}
use Rattle.sqlite.specs.Held.{state}
use Rattle.wgr_core.specs.Network.{live_at}
use Rattle.wgr_core.specs.Owner.{allowed}
use Rattle.wgr_tables.specs.Standing.{OnlyReads}
use Rattle.wgr_rows.specs.Directed.{OnNetwork}
use Rattle.wgr_rows.proofs.MatchLemmas.{HasNoneFrom}
use Rattle.wgr_rows.proofs.owner.owner_row.Given as goal

abbrev pub invariant-loop-length : goal.invariant-loop-length
invariant-loop-length g l =
    let old = l.fn.conn in
    let new = l.conn in record {
      reads : OnlyReads g.S.Store old new;
      none : OnNetwork g.S.Store old l.network (λ n. HasCleanDisk (state g.S.Store new) → HasNoneFrom (allowed (live_at n l.now)) l.address l.length);
    }
