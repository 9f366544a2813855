use Rattle.std.proofs.Common.{◌≡◌, ℕ, ◌<◌, ◌+◌, List, [], ◌∷◌, sym, ◌∙◌, ap, arith}
use Rattle.std.specs.List.{All}
use Rattle.wgr_text.specs.Prefix.{PrefixValue}
use Rattle.wgr_peers.specs.declared.peer.Peer.{Peer}
use Rattle.wgr_core.specs.declared.change.Change.{Change}
use Rattle.wgr_core.specs.declared.reply.Reply.TheVariants as reply
use Rattle.wgr_peers.specs.Routes.{routes_to}
use Rattle.wgr_core.specs.Change.{put_peers, assign_routes, without_routes}
use Rattle.wgr_core.proofs.CommandLemmas.{put_peer_above, none_to_next}
use Rattle.wgr_core.proofs.live.Live.joined.Goals as goal

pub returns : goal.returns
returns c =
    let n = c.args.self.now in
    let p = c.args.peer in
    let is = c.next.ensures.rules in
    let put = c.in_ok-change.ensures in
    let none : routes_to n.routes p.number ≡ [] = ap (routes_to n.routes) c.requires.next ∙ none_to_next n is in
    let above : All (λ q. q.number < p.number) n.peers = λ k d h. omega (arith, (is.members k d h).numbered.1, c.requires.next) in (
      ap (λ (rs : List PrefixValue). reply.Peer (record { peer = p; routes = rs })) (c.new-routes.ensures ∙ sym none),
      (
        ap (λ (change : Change). change.removed) put,
        ap (λ (change : Change). record n { next = c.next.result + 1; peers = put_peers n.peers change.peers; routes = assign_routes (without_routes n.routes change.routes_gone) change.routes_put }) put
            ∙ ap (λ (m : ℕ). record n { next = m + 1; peers = put_peers n.peers (p ∷ []) }) c.next.ensures.value
            ∙ ap (λ (ps : List Peer). record n { next = n.next + 1; peers = ps }) (put_peer_above n.peers p above),
      ),
    )
