use Rattle.std.proofs.Common.{List, ℕ, refl, subst, sym}
use Rattle.wgr_words.specs.Words.{SpellsEndpoint}
use Rattle.wgr_words.proofs.field.read_endpoint_field.Goals as goal

pub returns-in-None : goal.returns-in-None
returns-in-None c = (refl, λ endpoint s. c.in-None.ensures.none endpoint (subst (λ (t : List ℕ). SpellsEndpoint t endpoint) (sym c.as_bytes.ensures.value) s))
