use Rattle.std.proofs.Common.{◌≡◌, Bool, true, false, ◌||◌, sym, ap, ◌∙◌}
use Rattle.std.specs.List.{list_any}
use Rattle.wgr_peers.proofs.HeldLemmas.{any_either, tested}
use Rattle.wgr_peers.specs.declared.peer.Peer.{Peer}
use Rattle.wgr_peers.specs.Peers.{is_first, is_own, is_second}
use Rattle.wgr_peers.proofs.peer_table.PeerTable.owns.Goals as goal

pub returns-then-contains : goal.returns-then-contains
returns-then-contains c =
    let a = c.args.address.now in
    let peers = c.self.inside.peers.items in
    c.if-contains.true
    ∙ sym (ap (λ b. b || list_any (λ (p : Peer). is_second p a) peers) ((c.self.invariant.by_address a c.rules_hold.ensures).0 (c.contains.ensures.0 c.if-contains.true)))
    ∙ sym (any_either (λ p. is_first p a) (λ p. is_second p a) peers)
    ∙ ap (λ ps. is_own ps a) c.self.view_is

pub returns-else-contains : goal.returns-else-contains
returns-else-contains c =
    let a = c.args.address.now in
    let peers = c.self.inside.peers.items in
    let first = tested c.contains.result (list_any (λ (p : Peer). is_first p a) peers) c.contains.ensures (c.self.invariant.by_address a c.rules_hold.ensures) in
    let second = tested c.contains-else-contains.result (list_any (λ (p : Peer). is_second p a) peers) c.contains-else-contains.ensures (c.self.invariant.by_second a c.rules_hold.ensures) in
    second
    ∙ sym (ap (λ b. b || list_any (λ (p : Peer). is_second p a) peers) (sym first ∙ c.if-contains.false))
    ∙ sym (any_either (λ p. is_first p a) (λ p. is_second p a) peers)
    ∙ ap (λ ps. is_own ps a) c.self.view_is
