use Rattle.std.proofs.Common.{◌≡◌, ℕ, List, ap, sym, subst, ◌∙◌}
use Rattle.std.specs.Prelude.{OnOk}
use Rattle.wgr_core.specs.Network.{NetworkValue, IsNetwork, is_among}
use Rattle.wgr_core.proofs.ApplyLemmas.{applied_in_place}
use Rattle.wgr_core.proofs.network.Network.apply_in_place.Goals as goal

pub change-requires : goal.change-requires
change-requires c =
    let among = λ (n : ℕ). c.of-gone.ensures n ∙ ap (λ (ns : List ℕ). is_among ns n) c.into_vec.ensures in
    let made = applied_in_place c.args.change c.args.self.now c.of-gone.result c.pop-coming.result c.into_vec-2.result.items c.pop-coming.new.self.items c.into_vec-2.result.len c.in_ok-routes.routes.items c.requires.one c.into_vec-2.ensures c.into_vec-2.result.ok.0 c.pop-coming.ensures.items c.pop-coming.ensures.rest among c.in_ok-routes.ensures in
    subst IsNetwork (sym made) c.requires.fits

pub returns-clause-ok : goal.returns-clause-ok
returns-clause-ok c =
    let among = λ (n : ℕ). c.of-gone.ensures n ∙ ap (λ (ns : List ℕ). is_among ns n) c.into_vec.ensures in
    let made = applied_in_place c.args.change c.args.self.now c.of-gone.result c.pop-coming.result c.into_vec-2.result.items c.pop-coming.new.self.items c.into_vec-2.result.len c.in_ok-routes.routes.items c.requires.one c.into_vec-2.ensures c.into_vec-2.result.ok.0 c.pop-coming.ensures.items c.pop-coming.ensures.rest among c.in_ok-routes.ensures in
    subst (λ (n : NetworkValue). OnOk c.change.result (c.change.new.self ≡ n)) made c.change.ensures.ok
