use Rattle.wgr_model.proofs.OrderLemmas.{order_is_no_account}
use Rattle.wgr_model.proofs.laws.order_is_no_account.Goals as goal

pub returns : goal.returns
returns c = order_is_no_account
