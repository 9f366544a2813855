use Rattle.std.proofs.Common.{◌∙◌, ap, List, ℕ, Bor, Ok, map, arith}
use Rattle.std.specs.declared.alloc.AllocError.{AllocError}
use Rattle.std.proofs.lemmas.Iterator.Consumers.{map_from_collect}
use Rattle.std.proofs.lemmas.Iterator.Splits.{YieldsList-from_str_split}
use Rattle.wgr_words.specs.Reading.{reading_in}
use Rattle.wgr_words.proofs.reading.read_text.Goals as goal

pub returns : goal.returns
returns c =
    c.reading_of.ensures ∙ ap reading_in (ap (map (λ (word : Bor (List ℕ)). word.now)) c.deref.ensures.value
    ∙ map_from_collect {E = AllocError} (Ok c.in_ok-words.words) c.in_ok-words.ensures.ran
    (YieldsList-from_str_split 32 c.args.text.now (omega (arith)) c.split.ensures.text c.split.ensures.has_more c.split.ensures.pattern))
