use Rattle.std.proofs.Common.{not, rules}
use Rattle.std.proofs.lemmas.Fn.{filter_same}
use Rattle.wgr_model.specs.Register.{Bytes, is_same}
use Rattle.wgr_plain.proofs.operate.drop_reader.Goals as goal

pub returns : goal.returns
returns c = filter_same _ (λ (d : Bytes). not (is_same c.args.digest.now d)) _ (λ x b f' k. search rules) _ _ c.retain.ensures.filtered
