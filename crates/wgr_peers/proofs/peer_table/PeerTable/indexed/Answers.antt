use Rattle.std.proofs.Common.{map, ap, subst, ◌∙◌}
use Rattle.std.specs.List.{All, flat_map}
use Rattle.std.specs.Prelude.{option_to_list}
use Rattle.wgr_peers.specs.declared.peer.Peer.{Peer}
use Rattle.wgr_peers.specs.PeerIndex.{EndsFrom}
use Rattle.wgr_peers.proofs.CollectLemmas.{indexed_collected}
use Rattle.wgr_peers.proofs.peer_table.PeerTable.indexed.Goals as goal

pub invariant_of-result : goal.invariant_of-result
invariant_of-result c =
    indexed_collected c.args.peers.items c.in_ok-first_addresses.field-0.items c.in_ok-second_addresses.field-0.items c.args.numbers c.in_ok-collect.field-0 c.in_ok-collect-2.field-0 c.soonest_end.result c.requires.numbered
    (c.in_ok-first_addresses.ensures ∙ ap (map (λ (p : Peer). p.address)) c.deref.ensures.value)
    (c.in_ok-second_addresses.ensures ∙ ap (flat_map (λ (p : Peer). option_to_list p.second)) c.deref-2.ensures.value)
    c.requires.by_key
    c.in_ok-collect.ensures
    c.in_ok-collect-2.ensures
    (subst (All (EndsFrom c.soonest_end.result)) c.deref-3.ensures.value c.soonest_end.ensures)
