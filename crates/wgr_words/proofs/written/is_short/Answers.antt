use Rattle.std.proofs.Common.{[], arith}
use Rattle.wgr_words.proofs.LineLemmas.{long_line, short_line, total_left}
use Rattle.wgr_words.proofs.written.is_short.Goals as goal

pub returns-then-word-left : goal.returns-then-word-left
returns-then-word-left c = long_line c.args.words.now c.loop-word.word-index c.loop-word.left _ c.loop-word-test.true c.loop-word.invariant.counted c.if-word-left.true

pub loop-word-preserved : goal.loop-word-preserved
loop-word-preserved c =
    let step = total_left c.args.words.now c.loop-word.word-index (record { ref_ptr = (0, 0); now = [] }) c.loop-word-test.true in
    record {
      within = omega (arith, c.loop-word.invariant.within);
      counted = omega (arith, step, c.loop-word.invariant.counted, c.if-word-left.false);
    }

pub returns : goal.returns
returns c = short_line c.args.words.now c.loop-word.word-index c.loop-word.left c.loop-word-test.false c.loop-word.invariant.counted
