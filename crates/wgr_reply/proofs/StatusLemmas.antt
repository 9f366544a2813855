-- The status in the first line of a reply.
use Rattle.std.proofs.Common.{◌≡◌, ◌++◌, ◌<◌, ◌^◌, ◌∙◌, ℕ, List, ap, codes, decimal, drop, length, refl, sym, take, arith}
use Rattle.std.specs.Fmt.{digits}
use Rattle.std.specs.Prelude.{◌==◌, if◌then◌else◌}
use Rattle.std.proofs.lemmas.Fmt.{decimal_injective}
use Rattle.wgr_http.specs.Reply.{extra_line, first_lines, last_lines, media_type, reply_bytes}
use Rattle.wgr_http.specs.StatusCode.{status_number}
use Rattle.wgr_http.specs.declared.reply.Kind.{Kind}
use Rattle.wgr_http.specs.declared.status_code.StatusCode.{StatusCode}
use Rattle.wgr_http.specs.declared.status_code.StatusCode.TheVariants as status
use Rattle.wgr_reply.specs.Response.{Shown, content_bytes, content_kind, shown_bytes}
use Rattle.wgr_reply.specs.StatusLine.{HaveOneStatus, IsOfStatus, status_line}

-- what follows the first line
after_line : StatusCode → Kind → List ℕ → List ℕ → List ℕ
after_line code kind allow body =
    (codes "Content-Type: " ++ media_type kind ++ codes "\r\nContent-Length: " ++ decimal (length body) ++ codes "\r\n") ++ extra_line code allow ++ last_lines ++ body

pub of_status : (code : StatusCode) (kind : Kind) (allow body : List ℕ) → IsOfStatus code (reply_bytes code kind allow body)
unfolding first_lines digits after_line
of_status status.Done kind allow body = (after_line status.Done kind allow body, refl)
of_status status.BadRequest kind allow body = (after_line status.BadRequest kind allow body, refl)
of_status status.Unauthorized kind allow body = (after_line status.Unauthorized kind allow body, refl)
of_status status.Forbidden kind allow body = (after_line status.Forbidden kind allow body, refl)
of_status status.NotFound kind allow body = (after_line status.NotFound kind allow body, refl)
of_status status.MethodNotAllowed kind allow body = (after_line status.MethodNotAllowed kind allow body, refl)
of_status status.Conflict kind allow body = (after_line status.Conflict kind allow body, refl)
of_status status.LengthRequired kind allow body = (after_line status.LengthRequired kind allow body, refl)
of_status status.ContentTooLarge kind allow body = (after_line status.ContentTooLarge kind allow body, refl)
of_status status.ServiceUnavailable kind allow body = (after_line status.ServiceUnavailable kind allow body, refl)

pub of_shown : (s : Shown) → IsOfStatus s.status (shown_bytes s)
of_shown s = of_status s.status (content_kind s.content) s.allow (content_bytes s.content)

-- ---- bytes have one status

-- the three digits behind `HTTP/1.1 `
digits_in : (code : StatusCode) (rest : List ℕ) → take 3 (drop 9 (status_line code ++ rest)) ≡ decimal (status_number code)
unfolding digits
digits_in status.Done rest = refl
digits_in status.BadRequest rest = refl
digits_in status.Unauthorized rest = refl
digits_in status.Forbidden rest = refl
digits_in status.NotFound rest = refl
digits_in status.MethodNotAllowed rest = refl
digits_in status.Conflict rest = refl
digits_in status.LengthRequired rest = refl
digits_in status.ContentTooLarge rest = refl
digits_in status.ServiceUnavailable rest = refl

digits_of : (code : StatusCode) (bytes : List ℕ) → IsOfStatus code bytes → take 3 (drop 9 bytes) ≡ decimal (status_number code)
digits_of code bytes (rest, is) = ap (λ text. take 3 (drop 9 text)) is ∙ digits_in code rest

small : (code : StatusCode) → status_number code < 2 ^ 64
small status.Done = omega arith
small status.BadRequest = omega arith
small status.Unauthorized = omega arith
small status.Forbidden = omega arith
small status.NotFound = omega arith
small status.MethodNotAllowed = omega arith
small status.Conflict = omega arith
small status.LengthRequired = omega arith
small status.ContentTooLarge = omega arith
small status.ServiceUnavailable = omega arith

-- the status of a number
named : ℕ → StatusCode
named n =
    if n == 200 then status.Done else
    if n == 400 then status.BadRequest else
    if n == 401 then status.Unauthorized else
    if n == 403 then status.Forbidden else
    if n == 404 then status.NotFound else
    if n == 405 then status.MethodNotAllowed else
    if n == 409 then status.Conflict else
    if n == 411 then status.LengthRequired else
    if n == 413 then status.ContentTooLarge else
    status.ServiceUnavailable

is_named : (code : StatusCode) → named (status_number code) ≡ code
unfolding named
is_named status.Done = refl
is_named status.BadRequest = refl
is_named status.Unauthorized = refl
is_named status.Forbidden = refl
is_named status.NotFound = refl
is_named status.MethodNotAllowed = refl
is_named status.Conflict = refl
is_named status.LengthRequired = refl
is_named status.ContentTooLarge = refl
is_named status.ServiceUnavailable = refl

pub one_status : HaveOneStatus
one_status one other bytes first second =
    let same = decimal_injective (status_number one) (status_number other) (small one) (small other) (sym (digits_of one bytes first) ∙ digits_of other bytes second) in
    sym (is_named one) ∙ ap named same ∙ is_named other
