use Rattle.wgr_text.specs.PrefixText.{groups_of_number}
use Rattle.wgr_text.proofs.Bytes.{groups_small}
use Rattle.wgr_text.proofs.Recommended.{written_is_recommended, recommended_is_written, written_is_lower_hex}
use Rattle.wgr_text.proofs.laws.written_is_recommended.Goals as goal

pub returns : goal.returns
returns c = record {
  text = λ n fits text. (written_is_recommended (groups_of_number n) text (groups_small n), recommended_is_written (groups_of_number n) text);
  bytes = λ n fits. written_is_lower_hex (groups_of_number n) (groups_small n);
}
