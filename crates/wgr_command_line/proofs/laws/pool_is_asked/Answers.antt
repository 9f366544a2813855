use Rattle.std.proofs.Common.{◌≡◌, ◌≢◌, ℕ, [], ◌∷◌, Some, None, ◌==◌, false, codes, refl, ap}
use Rattle.std.specs.Prelude.{slice_get}
use Rattle.std.proofs.lemmas.Bool.{ne_eqb}
use Rattle.clap.specs.Lexer.{long_of, short_of}
use Rattle.clap.specs.Words.{Text}
use Rattle.clap.proofs.OnLiterals.{clap_on_literals}
use Rattle.wgr_command_line.specs.Words.{asked_by, Plan}
use Rattle.wgr_command_line.proofs.laws.pool_is_asked.Goals as goal

no_text : asked_by (codes "plan" ∷ [] ∷ []) ≡ Some (Plan [])
unfolding clap_on_literals
no_text = refl

no_long : (first : ℕ) (rest : Text) → (first == 45) ≡ false → long_of (first ∷ rest) ≡ None
no_long first rest is = rw is refl

no_short : (first : ℕ) (rest : Text) → (first == 45) ≡ false → short_of (first ∷ rest) ≡ None
no_short first rest is = rw is refl

no_flag : (first : ℕ) (rest : Text) → (first == 45) ≡ false → asked_by (codes "plan" ∷ (first ∷ rest) ∷ []) ≡ Some (Plan (first ∷ rest))
unfolding clap_on_literals
no_flag first rest is = rw (no_long first rest is, no_short first rest is, is) refl

asked : (pool : Text) → slice_get pool 0 ≢ Some 45 → asked_by (codes "plan" ∷ pool ∷ []) ≡ Some (Plan pool)
asked [] plain = no_text
asked (first ∷ rest) plain = no_flag first rest (ne_eqb first 45 (λ (is : first ≡ 45). plain (ap (λ (byte : ℕ). Some byte) is)))

pub returns : goal.returns
returns c = asked
