use Rattle.std.proofs.Common.{ℕ, ◌≡◌, ◌<◌, ◌++◌, ◌∷◌, [], sym, ◌∙◌, ap, subst, cond, Option, Some, None}
use Rattle.std.specs.List.{All}
use Rattle.wgr_peers.specs.Peers.{same_key, key_holder}
use Rattle.wgr_peers.specs.PeerIndex.{HasSame, IsIndexed}
use Rattle.wgr_peers.proofs.TableLemmas.{indexed_push, indexed_same}
use Rattle.wgr_peers.proofs.peer_table.PeerTable.push.Goals as goal

pub invariant_of-self-in_err-insert_addresses : goal.invariant_of-self-in_err-insert_addresses
invariant_of-self-in_err-insert_addresses c =
    let failed = c.in_err-insert_addresses.ensures in
    indexed_same _ _ c.self.inside.numbers c.reserve-2.new.self c.self.inside.addresses c.insert_addresses.new.addresses c.self.inside.seconds c.insert_addresses.new.seconds _ c.self.invariant c.reserve.ensures.items c.reserve-2.ensures.entries.2
    failed.same (subst (HasSame c.self.inside.seconds) (sym failed.same_seconds) (λ b fits. ((λ h. h), (λ h. h))))

pub invariant_of-self-2 : goal.invariant_of-self-2
invariant_of-self-2 c =
    let p = c.args.peer in
    let items : c.push_reserved.new.self.items ≡ c.self.inside.peers.items ++ p ∷ [] = c.push_reserved.ensures.items ∙ ap (λ ps. ps ++ p ∷ []) c.reserve.ensures.items in
    let new_key : key_holder c.self.inside.peers.items p.key ≡ None = ap (λ ps. key_holder ps p.key) c.self.view_is ∙ c.requires.new_key in
    subst (λ ps. IsIndexed ps c.insert.new.self c.insert_addresses.new.addresses c.insert_addresses.new.seconds c.sooner-self-inside.result) (sym items)
    (indexed_push c.self.inside.peers.items c.self.inside.numbers c.insert.new.self c.self.inside.addresses c.insert_addresses.new.addresses c.self.inside.seconds c.insert_addresses.new.seconds _ _ p c.self.invariant (subst (All (λ q. q.number < p.number)) (sym c.self.view_is) c.requires.above) new_key
    (λ q. c.in-Ok.ensures.updates.0 q ∙ ap (λ (o : Option ℕ). cond (same_key p.key q) (Some p.number) o) (c.reserve-2.ensures.entries.2 q))
    c.in_ok-insert_addresses.ensures.first c.in_ok-insert_addresses.ensures.second c.sooner-self-inside.ensures.at_most c.sooner-self-inside.ensures.ends)
