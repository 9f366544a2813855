use Rattle.std.proofs.Common.{◌≡◌, Some, true, false, map, refl, sym, ◌∙◌}
use Rattle.serde_json.specs.View.{view}
use Rattle.wgr_request.specs.Bodies.{has_only}
use Rattle.wgr_request.proofs.bodies.object_of.Goals as goal

pub returns-then-has_only : goal.returns-then-has_only
returns-then-has_only c =
    let test : has_only (map (λ n. n.now) c.args.listed.now) (view c.in-Ok.value) ≡ true = sym c.has_only.ensures ∙ c.if-has_only.true in
    (Some (view c.in-Ok.value), c.in-Ok.ensures.ok, rw test refl)

pub returns-else-has_only : goal.returns-else-has_only
returns-else-has_only c =
    let test : has_only (map (λ n. n.now) c.args.listed.now) (view c.in-Ok.value) ≡ false = sym c.has_only.ensures ∙ c.if-has_only.false in
    (Some (view c.in-Ok.value), c.in-Ok.ensures.ok, rw test refl)
