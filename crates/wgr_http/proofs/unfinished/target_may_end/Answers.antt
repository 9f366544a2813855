use Rattle.std.proofs.Common.{◌≡◌, Option, Some, IsSomeAnd, List, ℕ, subst}
use Rattle.wgr_http.specs.Text.{NeverBecomesText}
use Rattle.wgr_http.specs.Unfinished.{open_target}
use Rattle.wgr_http.proofs.unfinished.target_may_end.Goals as goal

pub returns-in-Some-clause-never : goal.returns-in-Some-clause-never
returns-in-Some-clause-never c is =
    let found : Some c.in-Some.target.now ≡ open_target c.args.front.now = rw c.in-Some.is at c.open_target.ensures in
    subst (λ (x : Option (List ℕ)). IsSomeAnd x NeverBecomesText) found (c.may_become_text.ensures.never is)
