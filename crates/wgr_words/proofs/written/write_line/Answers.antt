use Rattle.std.proofs.Common.{[], ◌∷◌, Bor, List, map, subst, sym, ℕ}
use Rattle.wgr_io.proofs.CutLemmas.{cut_longer, on_err}
use Rattle.wgr_io.specs.Device.{IsCut}
use Rattle.wgr_words.specs.Line.{line_text}
use Rattle.wgr_words.proofs.written.write_line.Goals as goal

pub returns-in_err-write_words-clause-cut : goal.returns-in_err-write_words-clause-cut
returns-in_err-write_words-clause-cut g c =
    let old = g.W.Write.contents c.args.out.now in
    let new = g.W.Write.contents c.write_words.new.out in
    on_err _ (subst (λ (words : List (Bor (List ℕ))). IsCut old new (line_text (map (λ (word : Bor (List ℕ)). word.now) words))) (sym c.in-Some.ensures.cases.0) (cut_longer old new _ (10 ∷ []) c.in_err-write_words.ensures.cut))
