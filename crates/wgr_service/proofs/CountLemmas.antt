-- How many replies there are of each status.
use Rattle.std.proofs.Common.{◌≡◌, ◌+◌, ◌<◌, ◌∙◌, ℕ, Bool, [], ◌∷◌, None, Option, Some, ap, arith, refl, sym}
use Rattle.std.proofs.lemmas.List.Sums.{sum_by-cons}
use Rattle.std.specs.Prelude.{◌^◌, count_by, if◌then◌else◌}
use Rattle.wgr_http.specs.declared.status_code.StatusCode.{StatusCode}
use Rattle.wgr_http.specs.declared.status_code.StatusCode.TheVariants as status
use Rattle.wgr_show.specs.Figures.{capped}
use Rattle.wgr_service.specs.Connections.{ConnectionEnd, status_in}
use Rattle.wgr_service.specs.Counts.{count_of, counted, counted_if}
use Rattle.wgr_service.specs.Laws.{EachIsCounted, is_status}
use Rattle.wgr_service.specs.declared.desk.Replies.{Replies}

abbrev one_if : Bool → ℕ
one_if b = if b then 1 else 0

stays : (n : ℕ) → n < 2 ^ 64 → n ≡ capped (n + 0)
stays n small = omega (arith, small)

-- a reply is counted under its own status alone
one_counted : (code told : StatusCode) (before : Replies) → count_of code before < 2 ^ 64 → count_of code (counted told before) ≡ capped (count_of code before + one_if (is_status code (Some told)))
one_counted status.Done status.Done before small = refl
one_counted status.Done told before small = stays (count_of status.Done before) small
one_counted status.BadRequest status.BadRequest before small = refl
one_counted status.BadRequest told before small = stays (count_of status.BadRequest before) small
one_counted status.Unauthorized status.Unauthorized before small = refl
one_counted status.Unauthorized told before small = stays (count_of status.Unauthorized before) small
one_counted status.Forbidden status.Forbidden before small = refl
one_counted status.Forbidden told before small = stays (count_of status.Forbidden before) small
one_counted status.NotFound status.NotFound before small = refl
one_counted status.NotFound told before small = stays (count_of status.NotFound before) small
one_counted status.MethodNotAllowed status.MethodNotAllowed before small = refl
one_counted status.MethodNotAllowed told before small = stays (count_of status.MethodNotAllowed before) small
one_counted status.Conflict status.Conflict before small = refl
one_counted status.Conflict told before small = stays (count_of status.Conflict before) small
one_counted status.LengthRequired status.LengthRequired before small = refl
one_counted status.LengthRequired told before small = stays (count_of status.LengthRequired before) small
one_counted status.ContentTooLarge status.ContentTooLarge before small = refl
one_counted status.ContentTooLarge told before small = stays (count_of status.ContentTooLarge before) small
one_counted status.ServiceUnavailable status.ServiceUnavailable before small = refl
one_counted status.ServiceUnavailable told before small = stays (count_of status.ServiceUnavailable before) small

if_counted : (code : StatusCode) (told : Option StatusCode) (before : Replies) → count_of code before < 2 ^ 64 → count_of code (counted_if told before) ≡ capped (count_of code before + one_if (is_status code told))
if_counted code None before small = stays (count_of code before) small
if_counted code (Some told) before small = one_counted code told before small

caps : (n k m : ℕ) → capped (capped (n + k) + m) ≡ capped (n + (k + m))
caps n k m = omega arith

pub each_is_counted : EachIsCounted
each_is_counted code [] before small = stays (count_of code before) small
each_is_counted code (outcome ∷ outcomes) before small =
    let next = counted_if (status_in outcome) before in
    let more = count_by (λ (o : ConnectionEnd). is_status code (status_in o)) outcomes in
    let one = if_counted code (status_in outcome) before small in
    let rest = each_is_counted code outcomes next (omega (arith, one)) in
    let all = sum_by-cons (λ (o : ConnectionEnd). one_if (is_status code (status_in o))) outcome outcomes in
    rest ∙ ap (λ n. capped (n + more)) one ∙ caps (count_of code before) (one_if (is_status code (status_in outcome))) more ∙ ap (λ n. capped (count_of code before + n)) (sym all)
