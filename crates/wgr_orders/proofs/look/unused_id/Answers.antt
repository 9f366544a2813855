use Rattle.std.proofs.Common.{false}
use Rattle.std.proofs.lemmas.List.{get_or-replicate}
use Rattle.wgr_orders.proofs.look.unused_id.Goals as goal

pub lowest-requires-clause-clear : goal.lowest-requires-clause-clear
lowest-requires-clause-clear c = λ id lt. get_or-replicate 65537 id false false lt
