use Rattle.std.proofs.Common.{◌∙◌, [], ◌∷◌, ◌++◌, take, ap, refl, subst, sym}
use Rattle.std.specs.Io.KnownBytes.{Appends}
use Rattle.std.proofs.lemmas.List.{take_more}
use Rattle.wgr_office.specs.Serving.{written_reply}
use Rattle.wgr_service.proofs.BatchLemmas.{cut_within, on_err, one_more}
use Rattle.wgr_service.proofs.ConnectionLemmas.{appends_none}
use Rattle.wgr_service.proofs.batch.write_replies.Goals as goal

pub loop-answer-init : goal.loop-answer-init
loop-answer-init g c = record { sound = refl; written = appends_none (g.W.Write.contents c.args.out.now) }

pub loop-answer-preserved : goal.loop-answer-preserved
loop-answer-preserved g c =
    let at = c.loop-answer.answer-index in
    let answers = c.args.answers.now in
    let next = take_more answers at c.answer-item.result c.loop-answer-test.true ∙ ap (λ x. take at answers ++ x ∷ []) (sym c.answer-item.is) in
    let wrote = subst (Appends (g.W.Write.contents c.loop-answer.out) (g.W.Write.contents c.write_all.new.out)) c.reply.ensures c.in_ok-write_all.ensures.ok in
    record {
      sound = c.in_ok-write_all.ensures.sound ∙ c.loop-answer.invariant.sound;
      written = one_more written_reply answers at c.answer-item.result next (g.W.Write.contents c.args.out.now) (g.W.Write.contents c.loop-answer.out) (g.W.Write.contents c.write_all.new.out) c.loop-answer.invariant.written wrote;
    }

pub returns-in_err-write_all-clause-cut : goal.returns-in_err-write_all-clause-cut
returns-in_err-write_all-clause-cut g c =
    let at = c.loop-answer.answer-index in
    let answers = c.args.answers.now in
    let next = take_more answers at c.answer-item.result c.loop-answer-test.true ∙ ap (λ x. take at answers ++ x ∷ []) (sym c.answer-item.is) in
    let sent = c.in_err-write_all.field-0.0.sent in
    let wrote = subst (λ bytes. Appends (g.W.Write.contents c.loop-answer.out) (g.W.Write.contents c.write_all.new.out) (take sent bytes)) c.reply.ensures c.in_err-write_all.ensures.sent in
    on_err _ (cut_within written_reply answers at c.answer-item.result next (g.W.Write.contents c.args.out.now) (g.W.Write.contents c.loop-answer.out) (g.W.Write.contents c.write_all.new.out) sent c.loop-answer.invariant.written wrote)
