use Rattle.std.proofs.Common.{[], ◌∷◌, ◌∙◌, subst, sym, take}
use Rattle.std.specs.Io.KnownBytes.{Appends}
use Rattle.std.specs.List.{join_with_byte}
use Rattle.std.proofs.KnownBytes.{Appends-trans}
use Rattle.wgr_io.proofs.CutLemmas.{on_err}
use Rattle.wgr_words.proofs.LineLemmas.{cut_first, cut_next, texts, words_more}
use Rattle.wgr_words.proofs.written.write_words.Goals as goal

pub loop-word-preserved : goal.loop-word-preserved
loop-word-preserved g c =
    let rest = c.args.rest.now in
    let next = words_more c.args.first.now rest c.loop-word.word-index (record { ref_ptr = (0, 0); now = [] }) c.loop-word-test.true in
    let both = Appends-trans (g.W.Write.contents c.args.out.now) (g.W.Write.contents c.loop-word.out) (g.W.Write.contents c.write_next.new.out)
    (join_with_byte 32 (c.args.first.now ∷ texts (take c.loop-word.word-index rest))) _ c.loop-word.invariant.appended c.in_ok-write_next.ensures.ok in
    record {
      appended = subst (Appends (g.W.Write.contents c.args.out.now) (g.W.Write.contents c.write_next.new.out)) (sym next) both;
      sound = c.in_ok-write_next.ensures.sound ∙ c.loop-word.invariant.sound;
    }

pub returns-in_err-write_all-clause-cut : goal.returns-in_err-write_all-clause-cut
returns-in_err-write_all-clause-cut g c =
    on_err _ (cut_first (g.W.Write.contents c.args.out.now) (g.W.Write.contents c.write_all.new.out) c.args.first.now c.as_bytes.result.now (texts c.args.rest.now) c.in_err-write_all.field-0.0.sent c.as_bytes.ensures.value c.in_err-write_all.ensures.sent)

pub returns-in_err-write_next-clause-cut : goal.returns-in_err-write_next-clause-cut
returns-in_err-write_next-clause-cut g c =
    on_err _ (cut_next (g.W.Write.contents c.args.out.now) (g.W.Write.contents c.loop-word.out) (g.W.Write.contents c.write_next.new.out) c.args.first.now c.args.rest.now c.loop-word.word-index (record { ref_ptr = (0, 0); now = [] }) c.loop-word-test.true
    c.loop-word.invariant.appended c.in_err-write_next.ensures.cut)
