use Rattle.std.proofs.Common.{refl, sym}
use Rattle.wgr_service.specs.Connections.{ends_of}
use Rattle.wgr_service.specs.Counts.{replies_of}
use Rattle.wgr_service.proofs.ConnectionLemmas.{no_moment, request_answered, request_broken}
use Rattle.wgr_service.proofs.connections.serve_request.Goals as goal

pub returns-in_default-clause-outcome : goal.returns-in_default-clause-outcome
returns-in_default-clause-outcome g c sound =
    let ends = ends_of g.R.Read.remaining g.R.Read.failed g.W.Write.contents g.W.Write.failed c.args.input.now c.args.out.now in
    no_moment g.S.Store c.args.now c.args.clock ends ends sound c.args.office.now (replies_of c.args.desk.now) refl (sym c.in_default.ensures)

pub returns-in-Ok-clause-outcome : goal.returns-in-Ok-clause-outcome
returns-in-Ok-clause-outcome g c sound =
    let before = ends_of g.R.Read.remaining g.R.Read.failed g.W.Write.contents g.W.Write.failed c.args.input.now c.args.out.now in
    let after = ends_of g.R.Read.remaining g.R.Read.failed g.W.Write.contents g.W.Write.failed c.serve_one.new.input c.serve_one.new.out in
    let (takes, written) = c.in-Ok.ensures.ok in
    request_answered g.S.Store c.args.now c.args.clock before after sound c.args.office.now c.serve_one.new.self c.serve_one.ensures.clean c.in-Some.moment (sym c.in-Some.ensures) c.report_of.new.office c.in-Ok.answer c.is_available.result c.report_of.result (replies_of c.args.desk.now) (replies_of c.count_reply.new.self) c.count_reply.ensures takes written c.is_available.ensures
    c.in-Ok.ensures.sound.0 c.in-Ok.ensures.sound.1 c.report_of.ensures.report c.report_of.ensures.keeps

pub returns-in-Err-clause-outcome : goal.returns-in-Err-clause-outcome
returns-in-Err-clause-outcome g c sound =
    let before = ends_of g.R.Read.remaining g.R.Read.failed g.W.Write.contents g.W.Write.failed c.args.input.now c.args.out.now in
    let after = ends_of g.R.Read.remaining g.R.Read.failed g.W.Write.contents g.W.Write.failed c.serve_one.new.input c.serve_one.new.out in
    request_broken g.S.Store c.args.now c.args.clock before after sound c.args.office.now c.serve_one.new.self c.serve_one.ensures.clean c.in-Some.moment (sym c.in-Some.ensures) c.in-Err.field-0 (replies_of c.args.desk.now) c.in-Err.ensures.fault
