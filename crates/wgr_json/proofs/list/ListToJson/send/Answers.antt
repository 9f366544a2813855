use Rattle.std.proofs.Common.{◌≡◌, [], drop, map, Some, sym, subst, arith}
use Rattle.std.proofs.lemmas.List.{drop_all}
use Rattle.std.proofs.lemmas.Result.{on_ok_weaker}
use Rattle.serde.specs.Event.{Logs, seq_begins}
use Rattle.serde_json.specs.Events.{SendsItems}
use Rattle.serde_json.specs.View.{items_of}
use Rattle.wgr_json.proofs.Items.{items_shown}
use Rattle.wgr_json.proofs.list.ListToJson.send.Goals as goal

pub returns : goal.returns
returns g c =
    let show = g.T.ToJson.shown in
    let xs = c.args.self.now.0.now in
    let first = g.S.Serializer.written c.begin_seq.new.self in
    let end = g.S.Serializer.written c.end_seq.new.self in
    let begun = subst (λ n. Logs (g.S.Serializer.written c.args.out.now) first (seq_begins (Some n))) (sym (items_shown show xs)) c.in_ok-begin_seq.ensures in
    let none : drop c.loop-item.item-index xs ≡ [] = drop_all c.loop-item.item-index xs (omega arith) in
    on_ok_weaker c.end_seq.result (λ e. (
      first,
      begun,
      c.loop-item.invariant end (subst (λ ys. SendsItems (items_of (map show ys)) (g.S.Serializer.written c.loop-item.out) end) (sym none) e),
    )) c.end_seq.ensures
