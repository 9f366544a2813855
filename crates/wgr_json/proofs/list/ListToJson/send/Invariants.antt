use Rattle.std.proofs.Common.{drop, map}
use Rattle.serde.specs.Event.{Log}
use Rattle.serde_json.specs.Events.{SendsItems}
use Rattle.serde_json.specs.View.{items_of}
use Rattle.wgr_json.proofs.list.ListToJson.send.Given as goal

-- whatever ends it well from here ends it well from the start
abbrev pub invariant-loop-item : goal.invariant-loop-item
invariant-loop-item g l =
    (end : Log) → SendsItems (items_of (map g.T.ToJson.shown (drop l.item-index l.item-items))) (g.S.Serializer.written l.out) end
    → SendsItems (items_of (map g.T.ToJson.shown l.item-items)) (g.S.Serializer.written l.initial.out) end
