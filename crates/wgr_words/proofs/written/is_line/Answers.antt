use Rattle.std.proofs.Common.{false, sym, true, refl, ◌∙◌}
use Rattle.wgr_words.proofs.LineLemmas.{line_test}
use Rattle.wgr_words.proofs.written.is_line.Goals as goal

pub returns-then-not-are_words : goal.returns-then-not-are_words
returns-then-not-are_words c = line_test c.args.words.now false _ (sym c.if-is_empty.false ∙ c.is_empty.ensures) (sym c.if-not-are_words.true ∙ c.are_words.ensures) refl

pub returns : goal.returns
returns c = rw (sym (line_test c.args.words.now true c.is_short.result (sym c.if-is_empty.false ∙ c.is_empty.ensures) (sym c.if-not-are_words.false ∙ c.are_words.ensures) c.is_short.ensures)) refl
