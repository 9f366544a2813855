use Rattle.std.proofs.Common.{ℕ, List, ap, sym, subst, ◌∙◌}
use Rattle.wgr_core.specs.Network.{IsNetwork, is_among}
use Rattle.wgr_core.proofs.ApplyLemmas.{applied_in_place, one_at_most, pop_renews, routes_shrunk}
use Rattle.wgr_core.proofs.network.Network.shrink.Goals as goal

pub renew-requires-clause-fits : goal.renew-requires-clause-fits
renew-requires-clause-fits c =
    let n = c.args.self.now in
    let change = c.args.change in
    let among = λ (m : ℕ). c.of-gone.ensures m ∙ ap (λ (ns : List ℕ). is_among ns m) c.into_vec.ensures in
    let one = one_at_most n change.removed change.peers c.requires.shrinks.peers in
    let made = applied_in_place change n c.of-gone.result c.pop-coming.result c.into_vec-2.result.items c.pop-coming.new.self.items c.into_vec-2.result.len _ one c.into_vec-2.ensures c.into_vec-2.result.ok.0 c.pop-coming.ensures.items c.pop-coming.ensures.rest among (routes_shrunk change n c.of-gone.result c.as_slice.result.now c.as_slice.ensures c.requires.shrinks among) in
    subst IsNetwork (sym made) c.requires.fits

pub renew-requires-clause-renews : goal.renew-requires-clause-renews
renew-requires-clause-renews c =
    let among = λ (m : ℕ). c.of-gone.ensures m ∙ ap (λ (ns : List ℕ). is_among ns m) c.into_vec.ensures in
    pop_renews c.args.change c.args.self.now c.of-gone.result c.pop-coming.result c.into_vec-2.result.items c.pop-coming.new.self.items c.into_vec-2.result.len c.requires.shrinks c.into_vec-2.ensures c.into_vec-2.result.ok.0 c.pop-coming.ensures.items c.pop-coming.ensures.rest among

pub returns : goal.returns
returns c =
    let n = c.args.self.now in
    let change = c.args.change in
    let among = λ (m : ℕ). c.of-gone.ensures m ∙ ap (λ (ns : List ℕ). is_among ns m) c.into_vec.ensures in
    let one = one_at_most n change.removed change.peers c.requires.shrinks.peers in
    let made = applied_in_place change n c.of-gone.result c.pop-coming.result c.into_vec-2.result.items c.pop-coming.new.self.items c.into_vec-2.result.len _ one c.into_vec-2.ensures c.into_vec-2.result.ok.0 c.pop-coming.ensures.items c.pop-coming.ensures.rest among (routes_shrunk change n c.of-gone.result c.as_slice.result.now c.as_slice.ensures c.requires.shrinks among) in
    c.renew.ensures ∙ made
