use Rattle.std.proofs.Common.{◌∙◌, ap, subst}
use Rattle.std.specs.Prelude.{flat_map}
use Rattle.std.specs.Io.KnownBytes.{Appends}
use Rattle.std.specs.List.{list_all}
use Rattle.wgr_office.specs.Serving.{is_available, written_reply}
use Rattle.wgr_io.specs.Device.{IsCut}
use Rattle.wgr_service.proofs.batch.answer_all.Goals as goal

pub returns-in-Ok-write_replies-clause-answered : goal.returns-in-Ok-write_replies-clause-answered
returns-in-Ok-write_replies-clause-answered g c =
    let wrote = subst (λ xs. Appends (g.W.Write.contents c.args.out.now) (g.W.Write.contents c.write_replies.new.out) (flat_map written_reply xs)) c.deref.ensures.value c.in-Ok-write_replies.ensures.ok in
    (c.in-Ok.answers.items, (c.in-Ok.ensures.each, c.in-Ok.ensures.between), wrote, c.are_available.ensures ∙ ap (list_all is_available) c.deref-in-Ok-write_replies.ensures.value)

pub returns-clause-cut : goal.returns-clause-cut
returns-clause-cut g c is =
    let cut = subst (λ xs. IsCut (g.W.Write.contents c.args.out.now) (g.W.Write.contents c.write_replies.new.out) (flat_map written_reply xs)) c.deref.ensures.value c.in-Err-write_replies.ensures.cut in
    (c.in-Err-write_replies.ensures.failed, (c.in-Ok.answers.items, (c.in-Ok.ensures.each, c.in-Ok.ensures.between), cut))
