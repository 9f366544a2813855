use Rattle.std.proofs.Common.{map, ap, ◌∙◌}
use Rattle.wgr_request.specs.Bodies.{only}
use Rattle.wgr_request.proofs.ListedLemmas.{same_names}
use Rattle.wgr_request.proofs.bodies.has_only.Goals as goal

pub returns-in-Some : goal.returns-in-Some
returns-in-Some c =
    c.are_listed.ensures ∙ same_names c.args.listed.now c.in-Some.members.now.entries ∙ ap (only (map (λ n. n.now) c.args.listed.now)) c.in-Some.ensures
