-- A change of nothing leaves the network.
use Rattle.std.proofs.Common.{◌≡◌, sym, subst, ◌∙◌}
use Rattle.std.proofs.lemmas.Result.{IfOk-weaker}
use Rattle.wgr_core.specs.Network.{IsNetwork, NetworkValue}
use Rattle.wgr_core.specs.Change.{applied}
use Rattle.wgr_plain.proofs.CopyLemmas.{nothing_leaves}
use Rattle.wgr_plain.proofs.ask.copied.Goals as goal

pub apply-requires : goal.apply-requires
apply-requires c = subst IsNetwork (sym (nothing_leaves c.args.network.now c.new.result c.new-2.result c.new-3.result c.new-4.result c.next.result c.new.ensures c.new-2.ensures c.new-3.ensures c.new-4.ensures c.next.ensures.value)) c.next.ensures.rules

pub returns : goal.returns
returns c =
    let same = nothing_leaves c.args.network.now c.new.result c.new-2.result c.new-3.result c.new-4.result c.next.result c.new.ensures c.new-2.ensures c.new-3.ensures c.new-4.ensures c.next.ensures.value in
    IfOk-weaker c.apply.result (λ (n : NetworkValue). n ≡ applied (record { removed = c.new.result; peers = c.new-2.result; routes_put = c.new-3.result; routes_gone = c.new-4.result; next = c.next.result }) c.args.network.now) (λ (n : NetworkValue). n ≡ c.args.network.now) (λ n e. e ∙ same) c.apply.ensures
