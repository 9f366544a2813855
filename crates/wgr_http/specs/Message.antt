-- What a request message is, or its first fault.
use Rattle.std.specs.Prelude.{◌≡◌, ℕ, ◌<◌, ◌≤◌, List, [], length, take, nat_lt, codes, bytes_eq, cond, Option, Some, None, option_map, Result, Ok, Err}
use Rattle.std.specs.Borrow.{Bor}
use Rattle.httparse.specs.Grammar.{RequestHead}
use Rattle.wgr_http.specs.Field.{Occurrence, absent, once, repeated, in_head}
use Rattle.wgr_http.specs.Head.{HasHead, HasNoHead, IsRefused, MayBecomeHead, max_head}
use Rattle.wgr_http.specs.Length.{length_value, max_body}
use Rattle.wgr_http.specs.Token.{bearer_token}
use Rattle.wgr_http.specs.declared.message.Message.{Message}
use Rattle.wgr_http.specs.declared.message.MessageFault.{MessageFault}
use Rattle.wgr_http.specs.declared.message.MessageFault.TheVariants.{BadFields, BadHead, TooLarge, LengthRequired, Truncated}
use Rattle.wgr_http.specs.declared.status_code.StatusCode.{StatusCode}
use Rattle.wgr_http.specs.declared.status_code.StatusCode.TheVariants as status

-- the parts of a message
pub record MessageView : Type 0 where
  pub method : List ℕ
  pub target : List ℕ
  pub token : Option (List ℕ)
  pub body : List ℕ

abbrev pub view_result : Result Message MessageFault → Result MessageView MessageFault
view_result (Ok m) =
    Ok (record { method = m.method.now; target = m.target.now; token = option_map (λ t. t.now) m.token; body = m.body.now })
view_result (Err fault) = Err fault

abbrev pub body_view : Result (Bor (List ℕ)) MessageFault → Result (List ℕ) MessageFault
body_view (Ok body) = Ok body.now
body_view (Err fault) = Err fault

-- the fault of bytes that have no head
pub data IsHeadless (bytes : List ℕ) : MessageFault → Type 0 where
  empty : bytes ≡ [] → IsHeadless bytes Truncated
  refused : IsRefused bytes → IsHeadless bytes BadHead
  long : MayBecomeHead (take max_head bytes) → max_head < length bytes → IsHeadless bytes TooLarge
  cut : 0 < length bytes → length bytes ≤ max_head → IsHeadless bytes BadHead

-- the body of n bytes at the front of the rest
abbrev pub sized : List ℕ → ℕ → Result (List ℕ) MessageFault
sized rest n = cond (nat_lt max_body n) (Err TooLarge) (cond (nat_lt (length rest) n) (Err Truncated) (Ok (take n rest)))

-- the body of the length that Content-Length gives
abbrev pub sized_by : List ℕ → Option ℕ → Result (List ℕ) MessageFault
sized_by rest None = Err BadFields
sized_by rest (Some n) = sized rest n

abbrev pub token_given : Occurrence → Option (List ℕ)
token_given absent = None
token_given (once credentials) = bearer_token credentials
token_given repeated = None

abbrev pub with_body : List ℕ → List ℕ → Option (List ℕ) → Result (List ℕ) MessageFault → Result MessageView MessageFault
with_body method target token (Ok body) = Ok (record { method = method; target = target; token = token; body = body })
with_body method target token (Err fault) = Err fault

-- the body where there is no Transfer-Encoding: Content-Length decides it (RFC 9112 section 6.3)
abbrev pub body_of : List ℕ → Occurrence → List ℕ → Result (List ℕ) MessageFault
body_of method absent rest = cond (bytes_eq method (codes "POST")) (Err LengthRequired) (Ok [])
body_of method (once value) rest = sized_by rest (length_value value)
body_of method repeated rest = Err BadFields

-- the checks of Authorization, Content-Length and Transfer-Encoding, in their order
abbrev pub judged : List ℕ → List ℕ → Occurrence → Occurrence → Occurrence → List ℕ → Result MessageView MessageFault
judged method target repeated length coding rest = Err BadFields
judged method target authorization repeated coding rest = Err BadFields
judged method target authorization length (once coding) rest = Err LengthRequired
judged method target authorization length repeated rest = Err LengthRequired
judged method target authorization length absent rest =
    with_body method target (token_given authorization) (body_of method length rest)

-- the message that a head and the bytes after it are
abbrev pub message_of : RequestHead → List ℕ → Result MessageView MessageFault
message_of h rest =
    judged h.method h.target (in_head (codes "authorization") h) (in_head (codes "content-length") h)
    (in_head (codes "transfer-encoding") h) rest

-- the answer for the bytes of a message, of which there is one
pub data Answers (bytes : List ℕ) : Result MessageView MessageFault → Type 0 where
  headed : (h : RequestHead) (rest : List ℕ) → HasHead bytes h rest → Answers bytes (message_of h rest)
  unheaded : (fault : MessageFault) → HasNoHead bytes → IsHeadless bytes fault → Answers bytes (Err fault)

-- the status of the reply that reports a fault
abbrev pub fault_status : MessageFault → StatusCode
fault_status BadHead = status.BadRequest
fault_status BadFields = status.BadRequest
fault_status TooLarge = status.ContentTooLarge
fault_status LengthRequired = status.LengthRequired
fault_status Truncated = status.BadRequest

-- its name in that reply
abbrev pub fault_name : MessageFault → List ℕ
fault_name BadHead = codes "bad_head"
fault_name BadFields = codes "bad_head"
fault_name TooLarge = codes "too_large"
fault_name LengthRequired = codes "length_required"
fault_name Truncated = codes "truncated"
