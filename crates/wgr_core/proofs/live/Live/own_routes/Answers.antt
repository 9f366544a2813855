use Rattle.std.proofs.Common.{◌≡◌, ℕ, true, false, nat_eq, [], is_some, sym, ap, ◌∙◌, subst}
use Rattle.std.specs.List.{filter}
use Rattle.std.proofs.lemmas.Result.{IfOk-weaker}
use Rattle.wgr_text.specs.Prefix.{PrefixValue}
use Rattle.wgr_peers.specs.Peers.{peer_of}
use Rattle.wgr_core.specs.Network.{NetworkValue, live_at}
use Rattle.wgr_core.proofs.LiveLooks.{routes_led, routes_not_led}
use Rattle.wgr_core.proofs.live.Live.own_routes.Goals as goal

pub returns-in_default : goal.returns-in_default
returns-in_default c =
    let n = c.self.inside.network.now in
    let i = c.args.number in
    let none = subst (λ (m : NetworkValue). is_some (peer_of m.peers i) ≡ false → filter (λ (r : PrefixValue × ℕ). nat_eq r.1 i) m.routes ≡ []) c.self.view_is
    (routes_not_led (λ j. is_some (peer_of (live_at n c.self.inside.moment).peers j)) n.routes i) in
    c.new.ensures.items ∙ sym (none (ap is_some (sym c.in_default.ensures)))

pub returns : goal.returns
returns c =
    let n = c.self.inside.network.now in
    let i = c.args.number in
    let led = subst (λ (m : NetworkValue). is_some (peer_of m.peers i) ≡ true → filter (λ (r : PrefixValue × ℕ). nat_eq r.1 i) m.routes ≡ filter (λ (r : PrefixValue × ℕ). nat_eq r.1 i) n.routes) c.self.view_is
    (routes_led (λ j. is_some (peer_of (live_at n c.self.inside.moment).peers j)) n.routes i) in
    IfOk-weaker c.own_routes.result (λ own. own.items ≡ filter (λ (r : PrefixValue × ℕ). nat_eq r.1 i) n.routes) _ (λ own is. is ∙ sym (led (ap is_some (sym c.in-Some.ensures)))) c.own_routes.ensures
