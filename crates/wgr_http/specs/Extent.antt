-- How many bytes of a message decide it.
use Rattle.std.specs.Prelude.{◌≡◌, ℕ, ◌+◌, List, length, drop, nat_lt, codes, cond, Option, Some, None}
use Rattle.httparse.specs.Grammar.{RequestHead, print_request}
use Rattle.wgr_http.specs.Field.{Occurrence, absent, once, repeated, field_view, in_head}
use Rattle.wgr_http.specs.Head.{HasHead}
use Rattle.wgr_http.specs.Length.{length_value, max_body}
use Rattle.wgr_http.specs.declared.head.Head.{Head}

-- what is kept of a head
pub record IsHeadOf (head : Head) (h : RequestHead) : Type 0 where
  pub len : head.len ≡ length (print_request h)
  pub method : head.method.now ≡ h.method
  pub target : head.target.now ≡ h.target
  pub authorization : field_view head.authorization ≡ in_head (codes "authorization") h
  pub content_length : field_view head.content_length ≡ in_head (codes "content-length") h
  pub transfer_encoding : field_view head.transfer_encoding ≡ in_head (codes "transfer-encoding") h

-- the body bytes that a length asks for, where they are not too many
abbrev pub asked_length : Option ℕ → ℕ
asked_length None = 0
asked_length (Some n) = cond (nat_lt max_body n) 0 n

-- the body bytes that decide a message: none where its head does
abbrev pub wanted : Occurrence → Occurrence → Occurrence → ℕ
wanted repeated length coding = 0
wanted authorization (once value) absent = asked_length (length_value value)
wanted authorization length coding = 0

-- the bytes of a head and of the body that it wants
abbrev pub extent : RequestHead → ℕ
extent h =
    length (print_request h)
    + wanted (in_head (codes "authorization") h) (in_head (codes "content-length") h) (in_head (codes "transfer-encoding") h)

-- a message that begins so is decided by its first n bytes
abbrev pub HasExtent : List ℕ → ℕ → Type 0
HasExtent bytes n = (h : RequestHead) × HasHead bytes h (drop (length (print_request h)) bytes) × (n ≡ extent h)
