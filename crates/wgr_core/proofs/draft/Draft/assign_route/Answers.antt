use Rattle.std.proofs.Common.{◌≡◌, [], ◌∷◌, ◌++◌, sym, ap, subst, ◌∙◌}
use Rattle.wgr_peers.specs.Routes.{Routes, assign_route}
use Rattle.wgr_core.specs.Change.{assign_routes}
use Rattle.wgr_core.specs.Draft.{DraftValue, IsGrown, drafted}
use Rattle.wgr_core.specs.Network.{NetworkValue, IsNetwork}
use Rattle.wgr_core.proofs.PutRouteLemmas.{assign_routes_push}
use Rattle.wgr_core.proofs.draft.Draft.assign_route.Goals as goal

pub invariant_of-self : goal.invariant_of-self
invariant_of-self c = subst (IsGrown c.self.inside.start.now (drafted c.self.inside.start.now c.self.inside.peers c.self.inside.routes c.self.inside.next)) (sym c.reserve.ensures.items) c.self.invariant

pub invariant_of-self-in_err-put : goal.invariant_of-self-in_err-put
invariant_of-self-in_err-put c =
    let start = c.self.inside.start.now in
    subst (λ (rs : Routes). IsGrown start (drafted start c.self.inside.peers rs c.self.inside.next) c.reserve.new.self.items) (sym c.in_err-put.ensures.err)
    (subst (IsGrown start (drafted start c.self.inside.peers c.self.inside.routes c.self.inside.next)) (sym c.reserve.ensures.items) c.self.invariant)

pub invariant_of-self-2 : goal.invariant_of-self-2
invariant_of-self-2 c =
    let p = c.args.prefix in
    let number = c.args.number in
    let start = c.self.inside.start.now in
    let puts = c.self.inside.routes_put.items in
    let n = drafted start c.self.inside.peers c.self.inside.routes c.self.inside.next in
    let same : n ≡ c.args.self.now.network = ap (λ (d : DraftValue). d.network) c.self.view_is in
    let put : drafted start c.self.inside.peers c.put.new.self c.self.inside.next ≡ record n { routes = assign_route n.routes p number } = ap (λ (rs : Routes). record n { routes = rs }) c.in_ok-put.ensures.ok in
    let pushed : c.push_reserved.new.self.items ≡ puts ++ (p, number) ∷ [] = c.push_reserved.ensures.items ∙ ap (λ (rs : Routes). rs ++ (p, number) ∷ []) c.reserve.ensures.items in
    record {
      rules = subst IsNetwork (sym (put ∙ ap (λ (m : NetworkValue). record m { routes = assign_route m.routes p number }) same)) c.requires;
      noted = c.self.invariant.noted;
      routed =
          ap (assign_routes start.routes) pushed
          ∙ assign_routes_push start.routes puts (p, number)
          ∙ ap (λ (rs : Routes). assign_route rs p number) c.self.invariant.routed
          ∙ sym c.in_ok-put.ensures.ok;
    }
