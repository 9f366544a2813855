use Rattle.std.proofs.Common.{◌∙◌, ℕ, ap, option_map, sym, take}
use Rattle.wgr_words.proofs.LineLemmas.{before_newline_is}
use Rattle.wgr_words.proofs.input.before_newline.Goals as goal

pub returns-in-Some : goal.returns-in-Some
returns-in-Some c = ap (option_map (λ (end : ℕ). take end c.args.text.now)) (sym c.in-Some.is ∙ c.newline.ensures) ∙ before_newline_is c.args.text.now

pub returns-in-None : goal.returns-in-None
returns-in-None c = ap (option_map (λ (end : ℕ). take end c.args.text.now)) (sym c.in-None.is ∙ c.newline.ensures) ∙ before_newline_is c.args.text.now
