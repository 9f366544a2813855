use Rattle.std.proofs.Common.{◌≡◌, ℕ, List, ap, ◌∙◌}
use Rattle.wgr_peers.specs.Peers.{expired, expired_addresses}
use Rattle.wgr_core.specs.Network.{is_among}
use Rattle.wgr_core.proofs.LiveLemmas.{live_is_network}
use Rattle.wgr_core.proofs.live.Live.at.Goals as goal

pub invariant_of-live : goal.invariant_of-live
invariant_of-live c =
    let n = c.args.network.now in
    let given = c.in_ok-numbers.field-0 in
    let numbers : given.numbers ≡ expired c.args.now n.peers = c.in_ok-numbers.ensures.numbers ∙ ap (expired c.args.now) c.table.ensures.value in
    let addresses : given.addresses ≡ expired_addresses c.args.now n.peers = c.in_ok-numbers.ensures.addresses ∙ ap (expired_addresses c.args.now) c.table.ensures.value in
    let listed : c.as_slice.result.now ≡ expired c.args.now n.peers = c.as_slice.ensures ∙ numbers in
    record {
      whole = c.table.ensures.rules;
      live = live_is_network n c.args.now c.table.ensures.rules;
      numbers = λ i. c.in_ok-expired.ensures i ∙ ap (λ (ns : List ℕ). is_among ns i) listed;
      addresses = addresses;
    }
