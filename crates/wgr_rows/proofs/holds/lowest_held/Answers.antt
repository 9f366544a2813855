use Rattle.sqlite.specs.Held.{state}
use Rattle.wgr_rows.proofs.StopLemmas.{stopped_cause}
use Rattle.wgr_rows.proofs.holds.lowest_held.Goals as goal

pub returns-in-Err-clause-cause : goal.returns-in-Err-clause-cause
returns-in-Err-clause-cause g c running known =
    let old = c.args.holds.now in
    let new = c.lowest_free.new.holds in
    stopped_cause old.network old.pool (state g.S.Store old.rows.now.conn.now) (state g.S.Store new.rows.now.conn.now) old.at new.at _ c.fault_at.result running c.in-Err.ensures.stop c.fault_at.ensures c.lowest_free.ensures.keeps.2.3 known
