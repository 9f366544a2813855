use Rattle.std.proofs.Common.{◌≡◌, not, ◌&&◌, List, sym, ap, ◌∙◌}
use Rattle.std.specs.List.{list_any}
use Rattle.wgr_text.specs.Prefix.{AddrValue}
use Rattle.wgr_peers.specs.declared.peer.Peer.{Peer}
use Rattle.wgr_pool.specs.PrefixTests.{same_address}
use Rattle.wgr_peers.specs.Peers.{expired_addresses, is_own}
use Rattle.wgr_core.specs.Network.{NetworkValue}
use Rattle.wgr_core.proofs.AloneLemmas.{members_alone}
use Rattle.wgr_core.proofs.LiveLooks.{own_live}
use Rattle.wgr_core.proofs.live.Live.owns.Goals as goal

pub returns-then-owns : goal.returns-then-owns
returns-then-owns c =
    let n = c.self.inside.network.now in
    let a = c.args.address.now in
    let over = list_any (λ b. same_address b a) (expired_addresses c.self.inside.moment n.peers) in
    let own = own_live c.self.inside.moment n.peers a c.self.invariant.whole.apart (members_alone n c.self.invariant.whole) in
    let here : c.owns.result ≡ is_own n.peers a = c.owns.ensures ∙ ap (λ (ps : List Peer). is_own ps a) c.table.ensures.value in
    ap not (c.is_one_of.ensures ∙ ap (λ (xs : List AddrValue). list_any (λ b. same_address b a) xs) (c.as_slice.ensures ∙ c.self.invariant.addresses))
    ∙ sym (own ∙ ap (λ b. b && not over) (sym here ∙ c.if-owns.true))
    ∙ ap (λ (m : NetworkValue). is_own m.peers a) c.self.view_is

pub returns-else-owns : goal.returns-else-owns
returns-else-owns c =
    let n = c.self.inside.network.now in
    let a = c.args.address.now in
    let over = list_any (λ b. same_address b a) (expired_addresses c.self.inside.moment n.peers) in
    let own = own_live c.self.inside.moment n.peers a c.self.invariant.whole.apart (members_alone n c.self.invariant.whole) in
    let here : c.owns.result ≡ is_own n.peers a = c.owns.ensures ∙ ap (λ (ps : List Peer). is_own ps a) c.table.ensures.value in
    c.if-owns.false
    ∙ sym (own ∙ ap (λ b. b && not over) (sym here ∙ c.if-owns.false))
    ∙ ap (λ (m : NetworkValue). is_own m.peers a) c.self.view_is
