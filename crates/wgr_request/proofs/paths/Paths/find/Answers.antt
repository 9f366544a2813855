use Rattle.std.proofs.Common.{◌≡◌, Some, refl, sym, subst}
use Rattle.matchit.specs.Router.{RouteOf}
use Rattle.matchit.specs.Seek.{first}
use Rattle.wgr_request.specs.Target.{ArePartsTexts, all_ascii}
use Rattle.wgr_request.specs.declared.paths.Place.{Place}
use Rattle.wgr_request.proofs.PartLemmas.{ascii_taken, route_texts}
use Rattle.wgr_request.proofs.paths.Paths.find.Goals as goal

-- the path is ASCII, and so are its parts
pub parts_of-requires : goal.parts_of-requires
parts_of-requires c =
    let params = c.in-Ok.found.params in
    let path = c.in_ok-path.path.now in
    let route : RouteOf Place = record { pattern = params.pattern.now; text = params.text.now; names = params.names.now; value = c.in-Ok.found.value.now } in
    let ascii = ascii_taken (all_ascii c.args.target.now) c.args.target.now path refl c.in_ok-path.ensures in
    let found = subst (λ rows. first rows path ≡ Some route) c.args.self.now.rows c.in-Ok.ensures.found in
    subst (λ p. ArePartsTexts params.pattern.now params.text.now p params.names.now) (sym c.in-Ok.ensures.path) (route_texts path route ascii found)
