use Rattle.wgr_service.specs.Connections.{ends_of}
use Rattle.wgr_service.specs.Counts.{replies_of}
use Rattle.wgr_service.proofs.ConnectionLemmas.{line_answered, line_broken, line_unread}
use Rattle.wgr_service.proofs.connections.serve_order.Goals as goal
use Rattle.std.proofs.Common.{◌∙◌, refl}

pub returns-in-Err-clause-outcome : goal.returns-in-Err-clause-outcome
returns-in-Err-clause-outcome g c now clock sound =
    let before = ends_of g.R.Read.remaining g.R.Read.failed g.W.Write.contents g.W.Write.failed c.args.input.now c.args.out.now in
    let after = ends_of g.R.Read.remaining g.R.Read.failed g.W.Write.contents g.W.Write.failed c.take_line.new.input c.args.out.now in
    line_unread g.S.Store now clock before after sound (replies_of c.args.desk.now) (replies_of c.take_line.new.desk) c.take_line.ensures.counts c.args.office.now c.take_line.new.office c.in-Err.ensures.undone refl refl c.in-Err.ensures.failed

pub returns-in-Ok-write_taken-clause-outcome : goal.returns-in-Ok-write_taken-clause-outcome
returns-in-Ok-write_taken-clause-outcome g c now clock sound =
    let before = ends_of g.R.Read.remaining g.R.Read.failed g.W.Write.contents g.W.Write.failed c.args.input.now c.args.out.now in
    let after = ends_of g.R.Read.remaining g.R.Read.failed g.W.Write.contents g.W.Write.failed c.take_line.new.input c.write_taken.new.out in
    line_answered g.S.Store now clock before after sound (replies_of c.args.desk.now) (replies_of c.count_taken.new.self) (c.count_taken.ensures ∙ c.take_line.ensures.counts) c.args.office.now c.take_line.new.office c.report_of_taken.new.office c.in-Ok.taken c.report_of_taken.result c.in-Ok.ensures.ok c.in-Ok-write_taken.ensures.ok
    c.in-Ok.ensures.sound c.in-Ok-write_taken.ensures.sound c.report_of_taken.ensures.report c.report_of_taken.ensures.keeps c.report_of_taken.ensures.same

pub returns-clause-outcome : goal.returns-clause-outcome
returns-clause-outcome g c now clock sound =
    let before = ends_of g.R.Read.remaining g.R.Read.failed g.W.Write.contents g.W.Write.failed c.args.input.now c.args.out.now in
    let after = ends_of g.R.Read.remaining g.R.Read.failed g.W.Write.contents g.W.Write.failed c.take_line.new.input c.write_taken.new.out in
    line_broken g.S.Store now clock before after sound (replies_of c.args.desk.now) (replies_of c.count_taken.new.self) (c.count_taken.ensures ∙ c.take_line.ensures.counts) c.args.office.now c.take_line.new.office c.in-Ok.taken c.in-Ok.ensures.ok c.in-Err-write_taken.ensures.cut c.in-Ok.ensures.sound c.in-Err-write_taken.ensures.failed
