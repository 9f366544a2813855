-- The bytes of a reply (RFC 9112 sections 4 and 5).
use Rattle.std.specs.Prelude.{ℕ, List, [], ◌++◌, codes, decimal, length}
use Rattle.wgr_http.specs.StatusCode.{status_number, reason}
use Rattle.wgr_http.specs.declared.reply.Kind.{Kind}
use Rattle.wgr_http.specs.declared.reply.Kind.TheVariants.{Json, Text}
use Rattle.wgr_http.specs.declared.status_code.StatusCode.{StatusCode}
use Rattle.wgr_http.specs.declared.status_code.StatusCode.TheVariants as status

abbrev pub media_type : Kind → List ℕ
media_type Json = codes "application/json"
media_type Text = codes "text/plain"

-- the line that a 401 has to have (RFC 9110 section 11.6.1), and that of a 405 (section 15.5.6)
abbrev pub extra_line : StatusCode → List ℕ → List ℕ
extra_line status.Done allow = []
extra_line status.BadRequest allow = []
extra_line status.Unauthorized allow = codes "WWW-Authenticate: Bearer\r\n"
extra_line status.Forbidden allow = []
extra_line status.NotFound allow = []
extra_line status.MethodNotAllowed allow = codes "Allow: " ++ allow ++ codes "\r\n"
extra_line status.Conflict allow = []
extra_line status.LengthRequired allow = []
extra_line status.ContentTooLarge allow = []
extra_line status.ServiceUnavailable allow = []

-- the lines of each reply, up to the length of its body
unfoldable pub first_lines : StatusCode → Kind → ℕ → List ℕ
first_lines code kind size =
    codes "HTTP/1.1 " ++ decimal (status_number code) ++ codes " " ++ reason code ++ codes "\r\nContent-Type: " ++ media_type kind
    ++ codes "\r\nContent-Length: " ++ decimal size ++ codes "\r\n"

-- the last line, and the empty line before the body
unfoldable pub last_lines : List ℕ
last_lines = codes "Connection: close\r\n\r\n"

abbrev pub reply_bytes : StatusCode → Kind → List ℕ → List ℕ → List ℕ
reply_bytes code kind allow body = first_lines code kind (length body) ++ extra_line code allow ++ last_lines ++ body
