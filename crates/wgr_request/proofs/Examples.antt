-- What targets name, and tokens, by computation.
use Rattle.std.proofs.Common.{◌≡◌, ℕ, ◌++◌, true, List, [], ◌∷◌, Some, None, refl, codes}
use Rattle.std.specs.Fmt.{digits}
use Rattle.std.specs.Prelude.{nat_lt, Result, Ok, Err}
use Rattle.matchit.proofs.OnLiterals.{matchit_on_literals}
use Rattle.wgr_core.specs.declared.form.Form.TheVariants.{Wg, Quick}
use Rattle.serde_json.proofs.OnLiterals.{serde_json_on_literals}
use Rattle.serde_json.specs.Data.{Data, object, member, no_members, number, unsigned}
use Rattle.serde_json.specs.Read.{read}
use Rattle.std.specs.List.{list_all}
use Rattle.std.proofs.lemmas.Str.{IsUtf8-from_ascii}
use Rattle.wgr_request.proofs.PartLemmas.{ascii_from_test}
use Rattle.wgr_request.specs.Bodies.{IsJson}
use Rattle.sha2.specs.Sha256.{sha256}
use Rattle.wgr_core.specs.declared.command.Command.TheVariants as command
use Rattle.wgr_http.specs.Message.{MessageView}
use Rattle.wgr_http.specs.declared.message.MessageFault.{MessageFault}
use Rattle.wgr_request.specs.Digest.{digest_of}
use Rattle.wgr_request.specs.Request.{Judged, MessageAsks}
use Rattle.wgr_request.specs.Request as request
use Rattle.wgr_request.specs.Paths.{route_rows}
use Rattle.wgr_request.specs.Target.{TargetValue, networks, peers, peer, address, routes, lease, peer_file, unroute, dump, owner, server_file, peer_number_of, resolved}
use Rattle.wgr_request.specs.declared.fault.RequestFault.{RequestFault}
use Rattle.wgr_request.specs.declared.fault.RequestFault.TheVariants.{BadField, Message, NoSuchPath, UnknownToken, WrongMethod}
use Rattle.wgr_request.specs.declared.fault.RequestField.TheVariants.{Body, End}
use Rattle.wgr_request.specs.declared.paths.Methods.TheVariants.{Get, GetOrPost, Post, Delete}

-- each path, by its method
abbrev by : List ℕ → List ℕ → Result TargetValue RequestFault
by method path = resolved method path

list_of_networks : by (codes "GET") (codes "/networks") ≡ Ok networks
unfolding matchit_on_literals route_rows
list_of_networks = refl

peers_of_a_network : by (codes "POST") (codes "/networks/office/peers") ≡ Ok (peers (codes "office"))
unfolding matchit_on_literals route_rows
peers_of_a_network = refl

one_peer : by (codes "DELETE") (codes "/networks/office/peers/2") ≡ Ok (peer (codes "office") 2)
unfolding matchit_on_literals route_rows digits
one_peer = refl

address_of_a_peer : by (codes "POST") (codes "/networks/a/peers/12/address") ≡ Ok (address (codes "a") 12)
unfolding matchit_on_literals route_rows digits
address_of_a_peer = refl

routes_of_a_peer : by (codes "POST") (codes "/networks/a/peers/10/routes") ≡ Ok (routes (codes "a") 10)
unfolding matchit_on_literals route_rows digits
routes_of_a_peer = refl

lease_of_a_peer : by (codes "POST") (codes "/networks/a/peers/1/lease") ≡ Ok (lease (codes "a") 1)
unfolding matchit_on_literals route_rows digits
lease_of_a_peer = refl

file_of_a_peer : by (codes "GET") (codes "/networks/a/peers/1/file/wg") ≡ Ok (peer_file (codes "a") 1 Wg)
unfolding matchit_on_literals route_rows digits
file_of_a_peer = refl

taking_back : by (codes "POST") (codes "/networks/a/unroute") ≡ Ok (unroute (codes "a"))
unfolding matchit_on_literals route_rows
taking_back = refl

taking_over : by (codes "POST") (codes "/networks/a/dump") ≡ Ok (dump (codes "a"))
unfolding matchit_on_literals route_rows
taking_over = refl

owner_of_an_address : by (codes "GET") (codes "/networks/a/owner/::1") ≡ Ok (owner (codes "a") (codes "::1"))
unfolding matchit_on_literals route_rows
owner_of_an_address = refl

file_of_the_server : by (codes "GET") (codes "/networks/%/server/quick") ≡ Ok (server_file (codes "%") Quick)
unfolding matchit_on_literals route_rows
file_of_the_server = refl

-- the path is told before the method
no_path_no_method : by (codes "PUT") (codes "/network") ≡ Err NoSuchPath
unfolding matchit_on_literals route_rows
no_path_no_method = refl

bad_number_no_method : by (codes "PUT") (codes "/networks/a/peers/01") ≡ Err NoSuchPath
unfolding matchit_on_literals route_rows digits
bad_number_no_method = refl

bad_form_no_method : by (codes "PUT") (codes "/networks/a/server/ini") ≡ Err NoSuchPath
unfolding matchit_on_literals route_rows
bad_form_no_method = refl

slash_at_the_end : by (codes "GET") (codes "/networks/") ≡ Err NoSuchPath
unfolding matchit_on_literals route_rows
slash_at_the_end = refl

no_name : by (codes "GET") (codes "/networks//peers") ≡ Err NoSuchPath
unfolding matchit_on_literals route_rows
no_name = refl

query : by (codes "GET") (codes "/networks?x") ≡ Err NoSuchPath
unfolding matchit_on_literals route_rows
query = refl

above_ascii : by (codes "GET") (codes "/networks/" ++ 195 ∷ 164 ∷ codes "/peers") ≡ Err NoSuchPath
unfolding matchit_on_literals route_rows
above_ascii = refl

-- methods, and those that are told
another_method : by (codes "PUT") (codes "/networks/office/peers") ≡ Err (WrongMethod GetOrPost)
unfolding matchit_on_literals route_rows
another_method = refl

deletion_alone : by (codes "GET") (codes "/networks/office/peers/2") ≡ Err (WrongMethod Delete)
unfolding matchit_on_literals route_rows digits
deletion_alone = refl

small_letters : by (codes "get") (codes "/networks") ≡ Err (WrongMethod Get)
unfolding matchit_on_literals route_rows
small_letters = refl

head_of_a_reading : by (codes "HEAD") (codes "/networks/a/owner/::1") ≡ Err (WrongMethod Get)
unfolding matchit_on_literals route_rows
head_of_a_reading = refl

reading_a_dump : by (codes "GET") (codes "/networks/a/dump") ≡ Err (WrongMethod Post)
unfolding matchit_on_literals route_rows
reading_a_dump = refl

-- numbers
the_last : peer_number_of (codes "1000000") ≡ Some 1000000
unfolding digits
the_last = refl

zero_is_none : peer_number_of (codes "0") ≡ None
unfolding digits
zero_is_none = refl

above_the_last : peer_number_of (codes "1000001") ≡ None
unfolding digits
above_the_last = refl

sign : peer_number_of (codes "+1") ≡ None
unfolding digits
sign = refl

letters : peer_number_of (codes "1a") ≡ None
unfolding digits
letters = refl

-- tokens that are none have no digest
no_token : digest_of [] ≡ None
no_token = refl

blank : digest_of (codes "a b") ≡ None
blank = refl

-- ---- what messages ask

-- a message with a token, of this method, target and body
abbrev granted : List ℕ → List ℕ → List ℕ → MessageView
granted method path body = record { method = method; target = path; token = Some (codes "abc"); body = body }

-- and one without
abbrev bare : List ℕ → List ℕ → List ℕ → MessageView
bare method path body = record { method = method; target = path; token = None; body = body }

abbrev abc : List ℕ
abc = sha256 (codes "abc")

-- where two checks fail, the first one tells
message_before_path : (m : MessageFault) → Judged (Err m) (request.refused (Message m) None)
message_before_path m = refl

path_before_method : MessageAsks (granted (codes "PUT") (codes "/network") []) (request.refused NoSuchPath (Some abc))
unfolding matchit_on_literals route_rows
path_before_method = refl

path_before_token : MessageAsks (bare (codes "GET") (codes "/network") []) (request.refused NoSuchPath None)
unfolding matchit_on_literals route_rows
path_before_token = refl

method_before_token : MessageAsks (bare (codes "PUT") (codes "/networks") []) (request.refused (WrongMethod Get) None)
unfolding matchit_on_literals route_rows
method_before_token = refl

method_before_body : MessageAsks (granted (codes "PUT") (codes "/networks/a/dump") (codes "x")) (request.refused (WrongMethod Post) (Some abc))
unfolding matchit_on_literals route_rows
method_before_body = refl

method_before_address : MessageAsks (granted (codes "POST") (codes "/networks/a/owner/x") []) (request.refused (WrongMethod Get) (Some abc))
unfolding matchit_on_literals route_rows
method_before_address = refl

token_before_body : MessageAsks (bare (codes "POST") (codes "/networks/a/peers") (codes "x")) (request.refused UnknownToken None)
unfolding matchit_on_literals route_rows
token_before_body = refl

token_before_dump : MessageAsks (bare (codes "POST") (codes "/networks/a/dump") (codes "x")) (request.refused UnknownToken None)
unfolding matchit_on_literals route_rows
token_before_dump = refl

token_before_address : MessageAsks (bare (codes "GET") (codes "/networks/a/owner/x") []) (request.refused UnknownToken None)
unfolding matchit_on_literals route_rows
token_before_address = refl

-- no name is out of form
any_name : MessageAsks (granted (codes "GET") (codes "/networks/A%20/peers") []) (request.ask abc (codes "A%20") command.List)
unfolding matchit_on_literals route_rows
any_name = (Ok command.List, refl, refl)

-- a reading has no use for its body
body_of_a_reading : MessageAsks (granted (codes "GET") (codes "/networks/a/peers") (codes "x")) (request.ask abc (codes "a") command.List)
unfolding matchit_on_literals route_rows
body_of_a_reading = (Ok command.List, refl, refl)

the_networks : MessageAsks (granted (codes "GET") (codes "/networks") []) (request.networks abc)
unfolding matchit_on_literals route_rows
the_networks = refl

a_revocation : MessageAsks (granted (codes "DELETE") (codes "/networks/a/peers/2") []) (request.ask abc (codes "a") (command.Revoke 2))
unfolding matchit_on_literals route_rows digits
a_revocation = (Ok (command.Revoke 2), refl, refl)

bad_json : MessageAsks (granted (codes "POST") (codes "/networks/a/peers/1/lease") (codes "x")) (request.refused (BadField Body) (Some abc))
unfolding matchit_on_literals serde_json_on_literals route_rows digits
bad_json = (Err (BadField Body), (None, (None, (λ utf8. refl), refl), refl), refl)

-- the JSON of an ASCII text
is_json : (text : List ℕ) (d : Data) → list_all (λ b. nat_lt b 128) text ≡ true → read text ≡ Some d → IsJson text (Some d)
is_json text d ascii is = (IsUtf8-from_ascii text (ascii_from_test text ascii), is)

no_end : MessageAsks (granted (codes "POST") (codes "/networks/a/peers/1/lease") (codes "{}")) (request.refused (BadField End) (Some abc))
unfolding matchit_on_literals serde_json_on_literals route_rows digits
no_end = let d = Some (object no_members) in (Err (BadField End), (d, (d, is_json (codes "{}") (object no_members) refl refl, refl), refl), refl)

an_end : MessageAsks (granted (codes "POST") (codes "/networks/a/peers/1/lease") (codes "{\"end\":7}")) (request.ask abc (codes "a") (command.Renew 1 7))
unfolding matchit_on_literals serde_json_on_literals route_rows digits
an_end =
    let end = object (member (codes "end") (number (unsigned 7)) no_members) in
    (Ok (command.Renew 1 7), (Some end, (Some end, is_json (codes "{\"end\":7}") end refl refl, refl), refl), refl)

member_of_another_path : MessageAsks (granted (codes "POST") (codes "/networks/a/peers/1/lease") (codes "{\"end\":7,\"keepalive\":0}")) (request.refused (BadField Body) (Some abc))
unfolding matchit_on_literals serde_json_on_literals route_rows digits
member_of_another_path =
    let json = object (member (codes "end") (number (unsigned 7)) (member (codes "keepalive") (number (unsigned 0)) no_members)) in
    (Err (BadField Body), (None, (Some json, is_json (codes "{\"end\":7,\"keepalive\":0}") json refl refl, refl), refl), refl)
