use Rattle.std.proofs.Common.{◌≡◌, ◌&&◌, ◌∙◌, ℕ, length, is_some, map, take, ap, arith}
use Rattle.std.specs.List.{filter}
use Rattle.std.proofs.lemmas.List.{take_all}
use Rattle.wgr_text.specs.Prefix.{PrefixValue}
use Rattle.wgr_peers.specs.Peers.{peer_of}
use Rattle.wgr_peers.specs.Routes.{Routes}
use Rattle.wgr_core.specs.Network.{live_at}
use Rattle.wgr_conf.specs.Files.{is_beside}
use Rattle.wgr_conf.proofs.Live.{beside_live}
use Rattle.wgr_conf.proofs.peer.routes_beside.Goals as goal

pub returns : goal.returns
returns c =
    let n = c.args.network.now in
    let routes = c.routes-route-items.result.now in
    let end : ℕ = c.loop-route.route-index in
    let whole : end ≡ length routes = omega (arith, c.loop-route-test.false, c.loop-route.auto.route-index-end) in
    let all : take end routes ≡ routes = take_all end routes (omega (arith, whole)) in
    c.loop-route.invariant.0
    ∙ ap (λ (rs : Routes). map (λ r. r.0) (filter (λ (r : PrefixValue × ℕ). is_some (peer_of (live_at n c.args.now).peers r.1) && is_beside n c.args.number r) rs)) (all ∙ c.loop-route.invariant.1)
    ∙ beside_live n c.args.now c.args.number
