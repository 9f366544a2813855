use Rattle.wgr_text.proofs.KeyLemmas.{length-key_text, key_text_injective}
use Rattle.wgr_text.proofs.laws.key_texts_are_unique.Goals as goal

pub returns : goal.returns
returns c = record { length = length-key_text; differ = key_text_injective }
