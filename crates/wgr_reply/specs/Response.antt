-- The answer to a request, as the bytes of a reply.
use Rattle.std.specs.Prelude.{ℕ, List, [], codes}
use Rattle.serde_json.specs.Data.{Data, string, object, Members, member, no_members}
use Rattle.serde_json.specs.Written.{compact_text}
use Rattle.wgr_http.specs.Message.{fault_name, fault_status}
use Rattle.wgr_http.specs.Reply.{reply_bytes}
use Rattle.wgr_http.specs.declared.reply.Kind.{Kind}
use Rattle.wgr_http.specs.declared.reply.Kind.TheVariants as kind
use Rattle.wgr_http.specs.declared.status_code.StatusCode.{StatusCode}
use Rattle.wgr_http.specs.declared.status_code.StatusCode.TheVariants as status
use Rattle.wgr_reply.specs.Bodies.{adopted_data, networks_data, owner_data, peers_data, revoked_data}
use Rattle.wgr_json.specs.Values.{count}
use Rattle.wgr_reply.specs.Shown.{peer_data}
use Rattle.wgr_request.specs.Fault.{field_name}
use Rattle.wgr_request.specs.Paths.{allow_text}
use Rattle.wgr_core.specs.RefusalNames.{refusal_name}
use Rattle.wgr_reply.specs.Refused.{refusal_facts, refusal_status}
use Rattle.wgr_request.specs.declared.fault.RequestFault.{RequestFault}
use Rattle.wgr_request.specs.declared.fault.RequestFault.TheVariants as fault
use Rattle.wgr_reply.specs.declared.response.Response.{Response}
use Rattle.wgr_reply.specs.declared.response.Response.TheVariants as response

pub data Content : Type 0 where
  json : Data → Content
  text : List ℕ → Content

-- a reply: its status, the methods that a 405 names, and its body
pub record Shown : Type 0 where
  pub status : StatusCode
  pub allow : List ℕ
  pub content : Content

abbrev pub content_kind : Content → Kind
content_kind (json d) = kind.Json
content_kind (text t) = kind.Text

-- JSON without blanks, or the text as it is
abbrev pub content_bytes : Content → List ℕ
content_bytes (json d) = compact_text d
content_bytes (text t) = t

abbrev pub shown_bytes : Shown → List ℕ
shown_bytes s = reply_bytes s.status (content_kind s.content) s.allow (content_bytes s.content)

-- what is accepted is 200
abbrev pub done : Content → Shown
done content = record { status = status.Done; allow = []; content = content }

-- a refusal by its name, with members that give its fact
abbrev pub problem : StatusCode → List ℕ → List ℕ → Members → Shown
problem code allow name facts =
    record { status = code; allow = allow; content = json (object (member (codes "error") (string name) facts)) }

abbrev pub plain : StatusCode → List ℕ → Shown
plain code name = problem code [] name no_members

abbrev pub fault_shown : RequestFault → Shown
fault_shown (fault.Message why) = plain (fault_status why) (fault_name why)
fault_shown fault.NoSuchPath = plain status.NotFound (codes "no_such_path")
fault_shown (fault.WrongMethod methods) = problem status.MethodNotAllowed (allow_text methods) (codes "wrong_method") no_members
fault_shown fault.UnknownToken = plain status.Unauthorized (codes "unknown_token")
fault_shown (fault.BadField field) =
    problem status.BadRequest [] (codes "bad_field") (member (codes "field") (string (field_name field)) no_members)
fault_shown (fault.BadDump line field) =
    problem status.BadRequest [] (codes "bad_dump") (member (codes "field") (count field) (member (codes "line") (count line) no_members))

abbrev pub response_shown : Response → Shown
response_shown (response.Peer peer) = done (json (peer_data peer.now))
response_shown (response.Revoked number) = done (json (revoked_data number))
response_shown (response.Peers peers) = done (json (peers_data peers.now))
response_shown (response.Owner number) = done (json (owner_data number))
response_shown (response.Adopted added known) = done (json (adopted_data added.now known))
response_shown (response.Networks networks) = done (json (networks_data networks.now))
response_shown (response.File file) = done (text file.now)
response_shown (response.Refused refused) = problem (refusal_status refused) [] (refusal_name refused.why) (refusal_facts refused)
response_shown response.ReadOnly = plain status.Forbidden (codes "read_only")
response_shown response.NoSuchNetwork = plain status.NotFound (codes "no_such_network")
response_shown (response.Fault why) = fault_shown why

abbrev pub response_bytes : Response → List ℕ
response_bytes r = shown_bytes (response_shown r)

-- where memory or the store fails
abbrev pub unavailable_shown : Shown
unavailable_shown = plain status.ServiceUnavailable (codes "unavailable")
