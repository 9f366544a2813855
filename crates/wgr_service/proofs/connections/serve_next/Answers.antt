use Rattle.std.proofs.Common.{◌∙◌, subst}
use Rattle.wgr_service.specs.Connections.{IsAppended}
use Rattle.wgr_service.proofs.ConnectionLemmas.{report_is}
use Rattle.wgr_service.proofs.connections.serve_next.Goals as goal

pub returns-clause-served : goal.returns-clause-served
returns-clause-served g c =
    let (outcome, has, door, reports, contacts, counts) = c.serve_one-door.ensures.outcome in
    (outcome, has, door, reports, subst (IsAppended (g.E.Write.failed c.write_report.new.err) (g.E.Write.contents c.args.err.now) (g.E.Write.contents c.write_report.new.err)) (report_is c.serve_one-door.result.0 c.serve_one-door.result.1 outcome door reports) c.write_report.ensures.written, contacts, c.count_report.ensures ∙ counts)
