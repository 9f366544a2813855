use Rattle.std.proofs.Common.{List, ℕ, refl, subst, sym}
use Rattle.wgr_text.specs.PrefixText.{Spells}
use Rattle.wgr_words.proofs.field.read_pool.Goals as goal

pub returns-in-None : goal.returns-in-None
returns-in-None c = (refl, λ place s. c.in-None.ensures.none place.0 place.1 (subst (λ (t : List ℕ). Spells t place.0 place.1) (sym c.as_bytes.ensures.value) s))
