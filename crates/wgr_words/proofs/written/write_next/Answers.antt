use Rattle.std.proofs.Common.{[], ◌∷◌, IfErr, List, subst, take, ℕ}
use Rattle.std.specs.Io.KnownBytes.{Appends}
use Rattle.wgr_io.proofs.CutLemmas.{cut_if_failed}
use Rattle.wgr_words.proofs.written.write_next.Goals as goal

pub returns-clause-cut : goal.returns-clause-cut
returns-clause-cut g c =
    let mid = g.W.Write.contents c.write_all.new.out in
    let new = g.W.Write.contents c.write_all-2.new.out in
    cut_if_failed c.write_all-2.result (g.W.Write.contents c.args.out.now) mid new (32 ∷ []) c.args.word.now c.in_ok-write_all.ensures.ok
    (subst (λ (text : List ℕ). IfErr c.write_all-2.result (λ fault. Appends mid new (take fault.sent text))) c.as_bytes.ensures.value c.write_all-2.ensures.sent)
