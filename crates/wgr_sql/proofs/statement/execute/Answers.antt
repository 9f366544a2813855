use Rattle.sqlite.specs.Values.{bound}
use Rattle.sqlite.specs.Held.{state}
use Rattle.wgr_sql.specs.Causes.{Refuses}
use Rattle.wgr_sql.proofs.CauseLemmas.{mapped_cause, write_cause}
use Rattle.wgr_sql.proofs.statement.execute.Goals as goal

pub returns-clause-cause : goal.returns-clause-cause
returns-clause-cause g c inside writing =
    let old = state g.S.Store c.args.tx.now.conn.now in
    let new = state g.S.Store c.execute.new.self.conn.now in
    mapped_cause (Refuses old.step_limit old.now c.args.sql.now (bound c.args.values.now)) old new c.execute.result c.map_err.result c.map_err.ensures.cases (write_cause c.args.sql.now (bound c.args.values.now) old new c.execute.result (λ clean. c.execute.ensures.runs clean inside) writing)
