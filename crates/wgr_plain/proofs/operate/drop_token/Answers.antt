use Rattle.std.proofs.Common.{not, rules}
use Rattle.std.proofs.lemmas.Fn.{filter_same}
use Rattle.wgr_model.specs.Register.{Token, is_same}
use Rattle.wgr_plain.proofs.operate.drop_token.Goals as goal

pub returns : goal.returns
returns c = filter_same _ (λ (t : Token). not (is_same c.args.digest.now t.digest)) _ (λ x b f' k. search rules) _ _ c.retain.ensures.filtered
