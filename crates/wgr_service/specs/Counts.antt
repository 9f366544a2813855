-- How replies are counted by their status.
use Rattle.std.specs.Prelude.{◌+◌, ℕ, Option, Some, None}
use Rattle.wgr_http.specs.declared.status_code.StatusCode.{StatusCode}
use Rattle.wgr_http.specs.declared.status_code.StatusCode.TheVariants as status
use Rattle.wgr_show.specs.Figures.{capped}
use Rattle.wgr_service.specs.declared.desk.Desk.{Desk}
use Rattle.wgr_service.specs.declared.desk.Replies.{Replies}

-- how many replies of this status were counted
abbrev pub count_of : StatusCode → Replies → ℕ
count_of status.Done replies = replies.done
count_of status.BadRequest replies = replies.bad_request
count_of status.Unauthorized replies = replies.unauthorized
count_of status.Forbidden replies = replies.forbidden
count_of status.NotFound replies = replies.not_found
count_of status.MethodNotAllowed replies = replies.wrong_method
count_of status.Conflict replies = replies.conflict
count_of status.LengthRequired replies = replies.no_length
count_of status.ContentTooLarge replies = replies.too_large
count_of status.ServiceUnavailable replies = replies.unavailable

-- one more of this status; a count stays at the greatest number of 64 bits
abbrev pub counted : StatusCode → Replies → Replies
counted status.Done replies = record replies { done = capped (replies.done + 1) }
counted status.BadRequest replies = record replies { bad_request = capped (replies.bad_request + 1) }
counted status.Unauthorized replies = record replies { unauthorized = capped (replies.unauthorized + 1) }
counted status.Forbidden replies = record replies { forbidden = capped (replies.forbidden + 1) }
counted status.NotFound replies = record replies { not_found = capped (replies.not_found + 1) }
counted status.MethodNotAllowed replies = record replies { wrong_method = capped (replies.wrong_method + 1) }
counted status.Conflict replies = record replies { conflict = capped (replies.conflict + 1) }
counted status.LengthRequired replies = record replies { no_length = capped (replies.no_length + 1) }
counted status.ContentTooLarge replies = record replies { too_large = capped (replies.too_large + 1) }
counted status.ServiceUnavailable replies = record replies { unavailable = capped (replies.unavailable + 1) }

-- where there is a status
abbrev pub counted_if : Option StatusCode → Replies → Replies
counted_if None replies = replies
counted_if (Some code) replies = counted code replies

abbrev pub no_replies : Replies
no_replies = record { done = 0; bad_request = 0; unauthorized = 0; forbidden = 0; not_found = 0; wrong_method = 0; conflict = 0; no_length = 0; too_large = 0; unavailable = 0 }

-- what a desk has counted so far
abbrev pub replies_of : {A : Type 0} → Desk A → Replies
replies_of desk = desk.tally.replies
