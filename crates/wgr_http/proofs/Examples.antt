-- What heads and the bytes after them are, tokens and replies, by computation.
use Rattle.std.proofs.Common.{◌≡◌, ℕ, true, List, [], ◌∷◌, length, take, arith, codes, Some, None, refl}
use Rattle.std.specs.Fmt.{digits}
use Rattle.std.specs.Prelude.{Result, Ok, Err}
use Rattle.httparse.proofs.OnLiterals.{httparse_on_literals}
use Rattle.httparse.specs.Grammar.{Field, crlf}
use Rattle.wgr_http.specs.Extent.{wanted}
use Rattle.wgr_http.specs.Field.{absent, once}
use Rattle.wgr_http.specs.Head.{IsRefused, MayBecomeHead}
use Rattle.wgr_http.specs.Message.{MessageView, IsHeadless, empty, refused, long, cut, message_of}
use Rattle.wgr_http.specs.Reply.{first_lines, last_lines, reply_bytes}
use Rattle.wgr_http.specs.Token.{bearer_token}
use Rattle.wgr_http.specs.Unfinished.{begun_lines, open_target}
use Rattle.wgr_http.specs.declared.message.MessageFault.{MessageFault}
use Rattle.wgr_http.specs.declared.message.MessageFault.TheVariants.{BadFields, BadHead, TooLarge, LengthRequired, Truncated}
use Rattle.wgr_http.specs.declared.reply.Kind.TheVariants.{Json, Text}
use Rattle.wgr_http.specs.declared.status_code.StatusCode.TheVariants as status

abbrev line : List ℕ → List ℕ → Field
line name raw = record { name = name; raw = raw; end = crlf }

-- what a request of this method and of these fields is
abbrev asked : List ℕ → List Field → List ℕ → Result MessageView MessageFault
asked method fields rest =
    message_of (record { blank = []; method = method; target = codes "/networks"; minor = 1; line_end = crlf; fields = fields; last = crlf }) rest

abbrev token : Field
token = line (codes "Authorization") (codes " Bearer abc")

abbrev coding : Field
coding = line (codes "Transfer-Encoding") (codes " chunked")

-- a whole message, and bytes after it
whole : asked (codes "POST") (token ∷ line (codes "CONTENT-length") (codes " 02\t") ∷ []) (codes "{}GET ")
    ≡ Ok (record { method = codes "POST"; target = codes "/networks"; token = Some (codes "abc"); body = codes "{}" })
unfolding httparse_on_literals
whole = refl

no_length : asked (codes "GET") [] (codes "{}")
    ≡ Ok (record { method = codes "GET"; target = codes "/networks"; token = None; body = [] })
unfolding httparse_on_literals
no_length = refl

length_of_a_get : asked (codes "GET") (line (codes "Content-Length") (codes "1") ∷ []) (codes "{}")
    ≡ Ok (record { method = codes "GET"; target = codes "/networks"; token = None; body = codes "{" })
unfolding httparse_on_literals
length_of_a_get = refl

-- where two checks fail, the first one tells
two_tokens_and_a_coding : asked (codes "POST") (token ∷ coding ∷ line (codes "authorization") (codes "") ∷ []) [] ≡ Err BadFields
unfolding httparse_on_literals
two_tokens_and_a_coding = refl

two_lengths_and_a_coding : asked (codes "POST")
    (line (codes "Content-Length") (codes " 0") ∷ line (codes "content-length") (codes " 0") ∷ coding ∷ []) [] ≡ Err BadFields
unfolding httparse_on_literals
two_lengths_and_a_coding = refl

coding_and_a_bad_length : asked (codes "POST") (coding ∷ line (codes "Content-Length") (codes " x") ∷ []) [] ≡ Err LengthRequired
unfolding httparse_on_literals
coding_and_a_bad_length = refl

coding_and_a_great_length : asked (codes "GET") (line (codes "Content-Length") (codes " 2097153") ∷ coding ∷ []) [] ≡ Err LengthRequired
unfolding httparse_on_literals
coding_and_a_great_length = refl

two_codings : asked (codes "GET") (coding ∷ coding ∷ []) [] ≡ Err LengthRequired
unfolding httparse_on_literals
two_codings = refl

post_without_length : asked (codes "POST") (token ∷ []) (codes "{}") ≡ Err LengthRequired
unfolding httparse_on_literals
post_without_length = refl

no_digits : asked (codes "POST") (line (codes "Content-Length") (codes " ") ∷ []) [] ≡ Err BadFields
unfolding httparse_on_literals
no_digits = refl

sign : asked (codes "POST") (line (codes "Content-Length") (codes " +2") ∷ []) (codes "{}") ≡ Err BadFields
unfolding httparse_on_literals
sign = refl

twenty_digits : asked (codes "POST") (line (codes "Content-Length") (codes " 00000000000000000001") ∷ []) (codes "{}")
    ≡ Ok (record { method = codes "POST"; target = codes "/networks"; token = None; body = codes "{" })
unfolding httparse_on_literals
twenty_digits = refl

twenty_one_digits : asked (codes "POST") (line (codes "Content-Length") (codes " 000000000000000000001") ∷ []) (codes "{}") ≡ Err BadFields
unfolding httparse_on_literals
twenty_one_digits = refl

too_large_and_truncated : asked (codes "POST") (line (codes "Content-Length") (codes " 2097153") ∷ []) [] ≡ Err TooLarge
unfolding httparse_on_literals
too_large_and_truncated = refl

largest_body_is_missing : asked (codes "POST") (line (codes "Content-Length") (codes " 2097152") ∷ []) [] ≡ Err Truncated
unfolding httparse_on_literals
largest_body_is_missing = refl

last_byte_is_missing : asked (codes "POST") (line (codes "Content-Length") (codes " 3") ∷ []) (codes "{}") ≡ Err Truncated
unfolding httparse_on_literals
last_byte_is_missing = refl

-- no head
no_bytes : IsHeadless [] Truncated
no_bytes = empty refl

bytes_8192 : (bytes : List ℕ) → length bytes ≡ 8192 → IsHeadless bytes BadHead
bytes_8192 bytes is = cut (omega (arith, is)) (omega (arith, is))

bytes_8193 : (bytes : List ℕ) → length bytes ≡ 8193 → MayBecomeHead (take 8192 bytes) → IsHeadless bytes TooLarge
bytes_8193 bytes is may = long may (omega (arith, is))

refused_8193 : (bytes : List ℕ) → length bytes ≡ 8193 → IsRefused bytes → IsHeadless bytes BadHead
refused_8193 bytes is never = refused never

-- what has begun: a request line and two fields, though the last has one byte; and a CR begins none
two_fields : begun_lines true (codes "\r\n\nGET / HTTP/1.1\r\nA: b\nC") ≡ 3
two_fields = refl

one_field : begun_lines true (codes "GET / HTTP/1.1\r\nA: b\r\n\r") ≡ 2
one_field = refl

target_begins : open_target (codes "GET ") ≡ Some []
target_begins = refl

target_goes_on : open_target (codes "\nGET /a") ≡ Some (codes "/a")
target_goes_on = refl

target_has_ended : open_target (codes "GET /a ") ≡ None
target_has_ended = refl

method_goes_on : open_target (codes "GET") ≡ None
method_goes_on = refl

-- what is read of a body
largest_body_is_wanted : wanted absent (once (codes "2097152")) absent ≡ 2097152
largest_body_is_wanted = refl

larger_body_is_not : wanted absent (once (codes "2097153")) absent ≡ 0
larger_body_is_not = refl

-- tokens
spaces_before_the_token : bearer_token (codes "bEARER   a.b~") ≡ Some (codes "a.b~")
spaces_before_the_token = refl

another_scheme : bearer_token (codes "Basic abc") ≡ None
another_scheme = refl

no_space : bearer_token (codes "Bearerabc") ≡ None
no_space = refl

tab : bearer_token (codes "Bearer\tabc") ≡ None
tab = refl

blank_in_the_token : bearer_token (codes "Bearer a b") ≡ None
blank_in_the_token = refl

no_token : bearer_token (codes "Bearer") ≡ None
no_token = refl

-- replies
not_found : reply_bytes status.NotFound Json (codes "GET") (codes "{\"error\":\"no_such_network\"}")
    ≡ codes "HTTP/1.1 404 Not Found\r\nContent-Type: application/json\r\nContent-Length: 27\r\nConnection: close\r\n\r\n{\"error\":\"no_such_network\"}"
unfolding first_lines last_lines digits
not_found = refl

unauthorized : reply_bytes status.Unauthorized Json [] (codes "{\"error\":\"unknown_token\"}")
    ≡ codes "HTTP/1.1 401 Unauthorized\r\nContent-Type: application/json\r\nContent-Length: 25\r\nWWW-Authenticate: Bearer\r\nConnection: close\r\n\r\n{\"error\":\"unknown_token\"}"
unfolding first_lines last_lines digits
unauthorized = refl

forbidden : reply_bytes status.Forbidden Json [] (codes "{\"error\":\"read_only\"}")
    ≡ codes "HTTP/1.1 403 Forbidden\r\nContent-Type: application/json\r\nContent-Length: 21\r\nConnection: close\r\n\r\n{\"error\":\"read_only\"}"
unfolding first_lines last_lines digits
forbidden = refl

method_not_allowed : reply_bytes status.MethodNotAllowed Text (codes "GET, POST") []
    ≡ codes "HTTP/1.1 405 Method Not Allowed\r\nContent-Type: text/plain\r\nContent-Length: 0\r\nAllow: GET, POST\r\nConnection: close\r\n\r\n"
unfolding first_lines last_lines digits
method_not_allowed = refl
