use Rattle.std.proofs.Common.{◌≡◌, Err, ap, rules}
use Rattle.sqlite.specs.WalFiles.{image_at}
use Rattle.wgr_file.proofs.FileLemmas.{stays_open}
use Rattle.wgr_service.specs.declared.batch.BatchFault.TheVariants as batch_fault
use Rattle.wgr_prog.specs.Answering.{output_of}
use Rattle.wgr_prog.proofs.AnsweringLemmas.{broken_off, replied}
use Rattle.wgr_prog.proofs.request_words.answer_requests.Goals as goal

pub returns-in-Ok-answered : goal.returns-in-Ok-answered
returns-in-Ok-answered g c =
    replied _ _ c.close_office-closed.result c.args.requests.now c.in-Ok.office c.answer_all-answered.new.office c.in-Ok.ensures.open c.in-Ok-answered.ensures.clean c.close_office-closed.ensures _ _ c.in-Ok-answered.whole
    c.in-Ok-answered.ensures.answered c.in-Ok-answered.ensures.sound

pub returns-in-Err-NoMemory : goal.returns-in-Err-NoMemory
returns-in-Err-NoMemory g c =
    let is : c.answer_all-answered.result ≡ Err batch_fault.NoMemory = search rules in
    let undone = c.answer_all-answered.ensures.undone is in (
      ap (output_of g.W.Write.contents g.W.Write.failed) undone.1,
      stays_open c.in-Ok.office c.answer_all-answered.new.office (image_at g.S.Start) c.close_office-closed.result c.in-Ok.ensures.open undone.0 c.close_office-closed.ensures,
    )

pub returns-in-Err-Write : goal.returns-in-Err-Write
returns-in-Err-Write g c =
    let is : c.answer_all-answered.result ≡ Err batch_fault.Write = search rules in
    broken_off _ _ c.close_office-closed.result c.args.requests.now c.in-Ok.office c.answer_all-answered.new.office c.in-Ok.ensures.open c.answer_all-answered.ensures.clean c.close_office-closed.ensures _ _
    (c.answer_all-answered.ensures.cut is)
