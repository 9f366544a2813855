use Rattle.std.proofs.Common.{ℕ, List, Bor, map}
use Rattle.wgr_prog.specs.Answering.{output_of}
use Rattle.wgr_prog.proofs.AnsweringLemmas.{ends_batch}
use Rattle.wgr_prog.proofs.request_words.answer_files.Goals as goal

pub returns-in-Ok : goal.returns-in-Ok
returns-in-Ok g c =
    let output = output_of g.W.Write.contents g.W.Write.failed in
    let files = map (λ (file : Bor (List ℕ)). file.now) c.args.files.now in
    ends_batch _ _ _ c.args.now.now files c.in-Ok.requests.items c.deref.result.now c.deref.ensures.value c.in-Ok.ensures.ok (output c.args.out.now) (output c.answer_requests.new.out) c.answer_requests.result.0
    c.answer_requests.ensures
