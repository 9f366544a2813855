-- The first line of a reply (RFC 9112 section 4).
use Rattle.std.specs.Prelude.{◌≡◌, ◌++◌, List, ℕ, codes, decimal}
use Rattle.wgr_http.specs.StatusCode.{reason, status_number}
use Rattle.wgr_http.specs.declared.status_code.StatusCode.{StatusCode}
use Rattle.wgr_reply.specs.declared.response.HttpReply.{HttpReply}

abbrev pub status_line : StatusCode → List ℕ
status_line code = codes "HTTP/1.1 " ++ decimal (status_number code) ++ codes " " ++ reason code ++ codes "\r\n"

-- the bytes begin with the first line of a reply of this status
abbrev pub IsOfStatus : StatusCode → List ℕ → Type 0
IsOfStatus code bytes = (rest : List ℕ) × (bytes ≡ status_line code ++ rest)

-- which is at most one
abbrev pub HaveOneStatus : Type 0
HaveOneStatus = (one other : StatusCode) (bytes : List ℕ) → IsOfStatus one bytes → IsOfStatus other bytes → one ≡ other

-- a reply has these bytes, and the status of their first line
pub record IsReply (reply : HttpReply) (wanted : List ℕ) : Type 0 where
  pub bytes : reply.bytes.items ≡ wanted
  pub status : IsOfStatus reply.status reply.bytes.items
