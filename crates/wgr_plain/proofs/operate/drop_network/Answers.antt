use Rattle.std.proofs.Common.{not, rules}
use Rattle.std.proofs.lemmas.Fn.{filter_same}
use Rattle.wgr_model.specs.Consistent.{same_slot, slot}
use Rattle.wgr_model.specs.Register.{NetworkEntry}
use Rattle.wgr_plain.proofs.operate.drop_network.Goals as goal

pub returns : goal.returns
returns c = filter_same _ (λ (h : NetworkEntry). not (same_slot (c.args.id, c.args.name.now) (slot h))) _ (λ x b f' k. search rules) _ _ c.retain.ensures.filtered
