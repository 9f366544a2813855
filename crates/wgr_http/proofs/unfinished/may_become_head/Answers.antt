use Rattle.std.proofs.Common.{◌<◌, ◌≤◌, ℕ, List, true, arith, subst, sym}
use Rattle.httparse.specs.Grammar.{HasNoRequest, MayBecomeRequest}
use Rattle.wgr_http.specs.Head.{MayBecomeHead}
use Rattle.wgr_http.specs.Unfinished.{begun_lines}
use Rattle.wgr_http.proofs.HeadLemmas.{whole_may}
use Rattle.wgr_http.proofs.RoomLemmas.{room_never}
use Rattle.wgr_http.proofs.TargetLemmas.{target_never, unfinished_may}
use Rattle.wgr_http.proofs.unfinished.may_become_head.Goals as goal

pub returns-in-Ok-Complete-clause-may : goal.returns-in-Ok-Complete-clause-may
returns-in-Ok-Complete-clause-may c is =
    let within = rw c.in-Ok-Complete.field-0-is at c.in-Ok-Complete.ensures.within in
    let made = rw c.in-Ok-Complete.field-0-is at c.in-Ok-Complete.ensures.complete in
    subst MayBecomeHead c.front_of-front.ensures (whole_may c.front_of-front.result.now c.parse_request.new.headers c.in-Ok-Complete.field-0-0 c.parse_request.auto.headers within made)

pub returns-then-lines_begun-clause-may : goal.returns-then-lines_begun-clause-may
returns-then-lines_begun-clause-may c is =
    let front : List ℕ = c.front_of-front.result.now in
    let open_yet : MayBecomeRequest front = rw c.in-Ok-Partial.field-0-is at c.in-Ok-Partial.ensures.unfinished in
    let few : begun_lines true front ≤ 33 = omega (arith, c.lines_begun.ensures, c.if-lines_begun.true) in
    subst MayBecomeHead c.front_of-front.ensures (unfinished_may front open_yet few (c.target_may_end.ensures.may is))

pub returns-then-lines_begun-clause-never : goal.returns-then-lines_begun-clause-never
returns-then-lines_begun-clause-never c is may =
    target_never c.front_of-front.result.now (c.target_may_end.ensures.never is) (subst MayBecomeHead (sym c.front_of-front.ensures) may)

pub returns-else-lines_begun-clause-never : goal.returns-else-lines_begun-clause-never
returns-else-lines_begun-clause-never c is may =
    let front : List ℕ = c.front_of-front.result.now in
    let not_yet : HasNoRequest front = rw c.in-Ok-Partial.field-0-is at c.in-Ok-Partial.ensures.partial in
    let over : 33 < begun_lines true front = omega (arith, c.lines_begun.ensures, c.if-lines_begun.false) in
    room_never front not_yet over (subst MayBecomeHead (sym c.front_of-front.ensures) may)
