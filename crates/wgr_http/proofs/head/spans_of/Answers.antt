use Rattle.std.proofs.Common.{◌∙◌, length}
use Rattle.std.specs.declared.result.Result.TheVariants.{Ok}
use Rattle.httparse.specs.declared.Status.TheVariants.{Partial}
use Rattle.wgr_http.proofs.HeadLemmas.{head_from_front, no_head}
use Rattle.wgr_http.proofs.head.spans_of.Goals as goal

pub returns-in-Ok-Complete-clause-head : goal.returns-in-Ok-Complete-clause-head
returns-in-Ok-Complete-clause-head c =
    let made = rw (c.front_of.ensures, c.in-Ok-Complete.field-0-is) at c.in-Ok-Complete.ensures.complete in
    let within = rw (c.front_of.ensures, c.in-Ok-Complete.field-0-is) at c.in-Ok-Complete.ensures.within in
    (made.0, head_from_front c.args.bytes.now _ _ made.0 (c.parse_request.auto.headers ∙ c.told-headers) within made.1, made.1)

pub returns-in-Ok-Partial-clause-none : goal.returns-in-Ok-Partial-clause-none
returns-in-Ok-Partial-clause-none c =
    let finds = rw (c.front_of.ensures, c.in-Ok-Partial.field-0-is) at c.in-Ok-Partial.ensures.found in
    no_head c.args.bytes.now (length c.args.headers.now) c.parse_request.new.headers (Ok Partial) c.told-headers finds (λ h bad. bad)

pub returns-in-Err-clause-none : goal.returns-in-Err-clause-none
returns-in-Err-clause-none c =
    let finds = rw c.front_of.ensures at c.parse_request.ensures.found in
    no_head c.args.bytes.now (length c.args.headers.now) c.parse_request.new.headers c.parse_request.result c.told-headers finds (λ h bad. rw c.in-Err.is at bad)
