use Rattle.std.proofs.Common.{subst}
use Rattle.std.specs.Io.KnownBytes.{Appends}
use Rattle.wgr_office.proofs.office.Office.serve_one.Goals as goal

pub returns-in-Ok-write_all-clause-taken : goal.returns-in-Ok-write_all-clause-taken
returns-in-Ok-write_all-clause-taken g c =
    let (message, is, answered) = c.in-Ok.ensures.taken in
    (message, is, (c.in-Ok.answer, answered, subst (Appends (g.W.Write.contents c.args.out.now) (g.W.Write.contents c.write_all.new.out)) c.reply.ensures c.in-Ok-write_all.ensures.ok))
