use Rattle.wgr_service.proofs.CountLemmas.{each_is_counted}
use Rattle.wgr_service.proofs.laws.each_reply_is_counted.Goals as goal

pub returns : goal.returns
returns c = each_is_counted
