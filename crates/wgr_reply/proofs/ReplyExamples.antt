-- Replies, byte for byte, by computation.
use Rattle.std.proofs.Common.{◌≡◌, ℕ, List, [], refl, codes}
use Rattle.std.specs.Fmt.{digits}
use Rattle.serde_json.proofs.OnLiterals.{serde_json_on_literals}
use Rattle.wgr_core.specs.declared.refusal.CommandRefusal.{CommandRefusal}
use Rattle.wgr_core.specs.declared.refusal.Refusal.TheVariants as refusal
use Rattle.wgr_http.specs.Reply.{first_lines, last_lines}
use Rattle.wgr_http.specs.declared.message.MessageFault.TheVariants.{LengthRequired}
use Rattle.wgr_core.specs.RefusalNames.{refusal_name}
use Rattle.wgr_core.specs.Refusals.{of_command, of_line}
use Rattle.wgr_reply.specs.Refused.{refusal_facts, refusal_status}
use Rattle.wgr_reply.specs.Response.{fault_shown, problem, response_bytes, shown_bytes}
use Rattle.wgr_reply.specs.declared.response.Response.TheVariants as response
use Rattle.wgr_request.specs.declared.fault.RequestFault.TheVariants.{Message, WrongMethod, UnknownToken, BadField, BadDump}
use Rattle.wgr_request.specs.declared.fault.RequestField.TheVariants.{Body}
use Rattle.wgr_request.specs.declared.paths.Methods.TheVariants.{GetOrPost, Delete}

wrong_method : shown_bytes (fault_shown (WrongMethod GetOrPost))
    ≡ codes "HTTP/1.1 405 Method Not Allowed\r\nContent-Type: application/json\r\nContent-Length: 24\r\nAllow: GET, POST\r\nConnection: close\r\n\r\n{\"error\":\"wrong_method\"}"
unfolding serde_json_on_literals first_lines last_lines digits
wrong_method = refl

only_delete : shown_bytes (fault_shown (WrongMethod Delete))
    ≡ codes "HTTP/1.1 405 Method Not Allowed\r\nContent-Type: application/json\r\nContent-Length: 24\r\nAllow: DELETE\r\nConnection: close\r\n\r\n{\"error\":\"wrong_method\"}"
unfolding serde_json_on_literals first_lines last_lines digits
only_delete = refl

unknown_token : shown_bytes (fault_shown UnknownToken)
    ≡ codes "HTTP/1.1 401 Unauthorized\r\nContent-Type: application/json\r\nContent-Length: 25\r\nWWW-Authenticate: Bearer\r\nConnection: close\r\n\r\n{\"error\":\"unknown_token\"}"
unfolding serde_json_on_literals first_lines last_lines digits
unknown_token = refl

read_only : response_bytes response.ReadOnly
    ≡ codes "HTTP/1.1 403 Forbidden\r\nContent-Type: application/json\r\nContent-Length: 21\r\nConnection: close\r\n\r\n{\"error\":\"read_only\"}"
unfolding serde_json_on_literals first_lines last_lines digits
read_only = refl

bad_field : shown_bytes (fault_shown (BadField Body))
    ≡ codes "HTTP/1.1 400 Bad Request\r\nContent-Type: application/json\r\nContent-Length: 36\r\nConnection: close\r\n\r\n{\"error\":\"bad_field\",\"field\":\"body\"}"
unfolding serde_json_on_literals first_lines last_lines digits
bad_field = refl

bad_dump : shown_bytes (fault_shown (BadDump 4 6))
    ≡ codes "HTTP/1.1 400 Bad Request\r\nContent-Type: application/json\r\nContent-Length: 39\r\nConnection: close\r\n\r\n{\"error\":\"bad_dump\",\"field\":6,\"line\":4}"
unfolding serde_json_on_literals first_lines last_lines digits
bad_dump = refl

length_required : shown_bytes (fault_shown (Message LengthRequired))
    ≡ codes "HTTP/1.1 411 Length Required\r\nContent-Type: application/json\r\nContent-Length: 27\r\nConnection: close\r\n\r\n{\"error\":\"length_required\"}"
unfolding serde_json_on_literals first_lines last_lines digits
length_required = refl

abbrev refused : CommandRefusal → List ℕ
refused r = shown_bytes (problem (refusal_status r) [] (refusal_name r.why) (refusal_facts r))

key_held : refused (of_command (refusal.KeyHeld 1))
    ≡ codes "HTTP/1.1 409 Conflict\r\nContent-Type: application/json\r\nContent-Length: 31\r\nConnection: close\r\n\r\n{\"error\":\"key_held\",\"number\":1}"
unfolding serde_json_on_literals first_lines last_lines digits
key_held = refl

line_refused : refused (of_line 3 refusal.AddressHeld)
    ≡ codes "HTTP/1.1 409 Conflict\r\nContent-Type: application/json\r\nContent-Length: 33\r\nConnection: close\r\n\r\n{\"error\":\"address_held\",\"line\":3}"
unfolding serde_json_on_literals first_lines last_lines digits
line_refused = refl

nobodys_address : refused (of_command refusal.NobodysAddress)
    ≡ codes "HTTP/1.1 404 Not Found\r\nContent-Type: application/json\r\nContent-Length: 27\r\nConnection: close\r\n\r\n{\"error\":\"nobodys_address\"}"
unfolding serde_json_on_literals first_lines last_lines digits
nobodys_address = refl
