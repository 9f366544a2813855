use Rattle.wgr_words.proofs.ReadingLemmas.{no_orders}
use Rattle.wgr_words.proofs.laws.readings_are_no_orders.Goals as goal

pub returns : goal.returns
returns c = no_orders
