use Rattle.std.proofs.Common.{◌≡◌, ◌||◌, List, [], ◌∷◌, ◌++◌, take, true, cond, Some, sym, ap, ◌∙◌, subst, arith, nat_eq}
use Rattle.std.specs.HashSet.{contains}
use Rattle.std.specs.List.{All}
use Rattle.std.proofs.lemmas.List.{take_all}
use Rattle.wgr_text.specs.Prefix.{AddrValue, PrefixValue}
use Rattle.wgr_pool.specs.PrefixTests.{has}
use Rattle.wgr_pool.specs.Allot.{is_assignable, lower, lowest_where}
use Rattle.wgr_pool.specs.HeldSpans.{is_routed, standing}
use Rattle.wgr_peers.specs.Peers.{is_own}
use Rattle.wgr_core.specs.Network.{NetworkValue, lowest_free}
use Rattle.wgr_core.proofs.FreedLemmas.{all_given, begin_with, given_assignable, given_in_pool, held_but, one_given, take_next}
use Rattle.wgr_core.proofs.live.Live.lowest_free.Goals as goal

pub loop-address-init : goal.loop-address-init
loop-address-init c =
    let n = c.self.inside.network.now in
    let same_pool = c.requires ∙ sym (ap (λ (m : NetworkValue). m.pool) c.self.view_is) in
    c.lowest_beside-lowest.ensures
    ∙ ap (λ (pool : PrefixValue). lowest_where pool (λ a. is_own n.peers a || is_routed pool (standing (contains nat_eq c.self.inside.expired) n.routes) a)) same_pool
    ∙ begin_with n c.self.inside.moment (contains nat_eq c.self.inside.expired) c.self.invariant.whole c.self.invariant.numbers
    ∙ ap (λ (m : NetworkValue). lowest_where m.pool (held_but [] m.pool n.peers m.routes)) c.self.view_is

pub or_freed-lowest-requires : goal.or_freed-lowest-requires
or_freed-lowest-requires c =
    let n = c.self.inside.network.now in
    let m = c.args.self.now in
    let x = c.address-item.result in
    let i = c.loop-address.address-index in
    let addresses = c.as_slice-address-items.result.now in
    let given : is_assignable n.pool x ≡ true = subst (λ a. is_assignable n.pool a ≡ true) (sym c.address-item.is)
    (subst (All (λ a. is_assignable n.pool a ≡ true)) (sym c.as_slice-address-items.ensures) (given_assignable n c.self.inside.moment c.self.inside.addresses c.self.invariant.whole c.self.invariant.addresses) i x c.loop-address-test.true) in
    subst (λ (m : NetworkValue). has m.pool x ≡ true) c.self.view_is (given_in_pool n.pool x given)

pub loop-address-preserved : goal.loop-address-preserved
loop-address-preserved c =
    let n = c.self.inside.network.now in
    let m = c.args.self.now in
    let x = c.address-item.result in
    let i = c.loop-address.address-index in
    let addresses = c.as_slice-address-items.result.now in
    let given : is_assignable n.pool x ≡ true = subst (λ a. is_assignable n.pool a ≡ true) (sym c.address-item.is)
    (subst (All (λ a. is_assignable n.pool a ≡ true)) (sym c.as_slice-address-items.ensures) (given_assignable n c.self.inside.moment c.self.inside.addresses c.self.invariant.whole c.self.invariant.addresses) i x c.loop-address-test.true) in
    let here = subst (λ (m : NetworkValue). is_assignable m.pool x ≡ true) c.self.view_is given in
    c.or_freed-lowest.ensures
    ∙ ap (λ o. cond (is_routed m.pool m.routes x) o (Some (lower o x))) c.loop-address.invariant
    ∙ sym (one_given (take i addresses) x m.pool n.peers m.routes here)
    ∙ ap (λ (ys : List AddrValue). lowest_where m.pool (held_but ys m.pool n.peers m.routes))
    (ap (λ y. take i addresses ++ y ∷ []) c.address-item.is ∙ sym (take_next addresses i x c.loop-address-test.true))

pub returns-clause-value : goal.returns-clause-value
returns-clause-value c =
    let n = c.self.inside.network.now in
    let m = c.args.self.now in
    let addresses = c.as_slice-address-items.result.now in
    let whole = take_all c.loop-address.address-index addresses (omega (arith, c.loop-address-test.false, c.loop-address.auto.address-index-end)) in
    c.loop-address.invariant
    ∙ ap (λ (ys : List AddrValue). lowest_where m.pool (held_but ys m.pool n.peers m.routes)) (whole ∙ c.as_slice-address-items.ensures)
    ∙ subst (λ (m : NetworkValue). lowest_where m.pool (held_but c.self.inside.addresses m.pool n.peers m.routes) ≡ lowest_free m m.pool) c.self.view_is (all_given n c.self.inside.moment c.self.inside.addresses c.self.invariant.whole c.self.invariant.addresses)
    ∙ ap (lowest_free m) (sym c.requires)
