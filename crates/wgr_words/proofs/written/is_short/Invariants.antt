use Rattle.std.proofs.Common.{◌≡◌, ◌+◌, ◌≤◌, ℕ, Bor, List, drop, map}
use Rattle.wgr_words.proofs.LineLemmas.{total}
use Rattle.wgr_words.proofs.written.is_short.Given as goal

abbrev pub invariant-loop-word : goal.invariant-loop-word
invariant-loop-word l = record {
  within : l.left ≤ 4096;
  counted : total (map (λ (w : Bor (List ℕ)). w.now) (drop l.word-index l.words)) + 4096 ≡ total (map (λ (w : Bor (List ℕ)). w.now) l.words) + l.left;
}
