-- A message has the bytes that its head wants, so it ends where it does.
use Rattle.std.proofs.Common.{◌≡◌, ℕ, ◌≤◌, List, ◌++◌, length, arith, refl, subst, inl, inr, codes}
use Rattle.std.specs.Prelude.{Option, Some, None, Result, Ok}
use Rattle.std.proofs.lemmas.Bool.{cases_lt, lt-ltb, le-ltb}
use Rattle.wgr_http.specs.Extent.{asked_length, wanted, extent}
use Rattle.wgr_http.specs.Field.{Occurrence, absent, once, repeated, in_head}
use Rattle.wgr_http.specs.Length.{length_value, max_body}
use Rattle.wgr_http.specs.Message.{Answers, headed, unheaded, MessageView, judged, sized_by, token_given, with_body}
use Rattle.wgr_http.specs.declared.message.MessageFault.{MessageFault}
use Rattle.wgr_http.proofs.Deciding.{head_decides, rest_length}

none_wanted : (n : ℕ) → 0 ≤ n
none_wanted n = omega arith

body_is_there : (method target : List ℕ) (token : Option (List ℕ)) (rest : List ℕ) (value : Option ℕ) (m : MessageView)
    → with_body method target token (sized_by rest value) ≡ Ok m → asked_length value ≤ length rest
body_is_there method target token rest None m is = cc is
body_is_there method target token rest (Some n) m is = elim (cases_lt max_body n) [
  | inl over ↦ rw (lt-ltb max_body n over) (none_wanted (length rest))
  | inr within ↦ elim (cases_lt (length rest) n) [
    | inl short ↦ (let bad = rw (le-ltb max_body n within, lt-ltb (length rest) n short) at is in cc bad)
    | inr room ↦ rw (le-ltb max_body n within) room
  ]
]

message_is_there : (method target : List ℕ) (authorization size coding : Occurrence) (rest : List ℕ) (m : MessageView)
    → judged method target authorization size coding rest ≡ Ok m → wanted authorization size coding ≤ length rest
message_is_there method target repeated size coding rest m is = none_wanted (length rest)
message_is_there method target absent repeated coding rest m is = none_wanted (length rest)
message_is_there method target absent absent coding rest m is = none_wanted (length rest)
message_is_there method target absent (once value) absent rest m is = body_is_there method target None rest (length_value value) m is
message_is_there method target absent (once value) (once e) rest m is = none_wanted (length rest)
message_is_there method target absent (once value) repeated rest m is = none_wanted (length rest)
message_is_there method target (once a) repeated coding rest m is = none_wanted (length rest)
message_is_there method target (once a) absent coding rest m is = none_wanted (length rest)
message_is_there method target (once a) (once value) absent rest m is =
    body_is_there method target (token_given (once a)) rest (length_value value) m is
message_is_there method target (once a) (once value) (once e) rest m is = none_wanted (length rest)
message_is_there method target (once a) (once value) repeated rest m is = none_wanted (length rest)

ends : (bytes more : List ℕ) (r : Result MessageView MessageFault) (m : MessageView) → Answers bytes r → r ≡ Ok m → Answers (bytes ++ more) (Ok m)
ends bytes more r m (headed h rest has) is =
    let authorization : Occurrence = in_head (codes "authorization") h in
    let size : Occurrence = in_head (codes "content-length") h in
    let coding : Occurrence = in_head (codes "transfer-encoding") h in
    let room : wanted authorization size coding ≤ length rest = message_is_there h.method h.target authorization size coding rest m is in
    let le : extent h ≤ length bytes = omega (arith, room, rest_length bytes h rest has) in
    head_decides bytes h rest has le more (Ok m) (subst (Answers bytes) is (headed h rest has))
ends bytes more r m (unheaded f none a) is = cc is

pub messages_end : (bytes more : List ℕ) (m : MessageView) → Answers bytes (Ok m) → Answers (bytes ++ more) (Ok m)
messages_end bytes more m answers = ends bytes more (Ok m) m answers refl
