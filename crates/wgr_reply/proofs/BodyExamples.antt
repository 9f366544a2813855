-- Bodies of replies, by computation.
use Rattle.std.proofs.Common.{◌≡◌, ℕ, ◌+◌, ◌*◌, ◌^◌, List, [], ◌∷◌, Option, Some, None, refl}
use Rattle.std.specs.Prelude.{replicate, codes}
use Rattle.std.specs.Fmt.{digits}
use Rattle.base64.specs.Rfc4648.{encode_symbols}
use Rattle.serde_json.proofs.OnLiterals.{serde_json_on_literals}
use Rattle.serde_json.specs.Data.{Data, object, string, member}
use Rattle.serde_json.specs.Written.{compact_text}
use Rattle.wgr_text.specs.declared.addr.Family.TheVariants.{V4}
use Rattle.wgr_text.specs.declared.key.Key.{Key}
use Rattle.wgr_text.specs.Prefix.{AddrValue, PrefixValue}
use Rattle.wgr_text.specs.PrefixText.{octets_of_number}
use Rattle.wgr_peers.specs.declared.peer.Status.{Status}
use Rattle.wgr_core.specs.Network.{NetworkValue}
use Rattle.wgr_core.specs.declared.reply.PeerView.{PeerView}
use Rattle.wgr_reply.specs.Bodies.{adopted_data, fact_members, networks_data, owner_data, peers_data, revoked_data}
use Rattle.wgr_reply.specs.Shown.{peer_data}
use Rattle.wgr_reply.specs.declared.bodies.Fact.{Fact}
use Rattle.wgr_reply.specs.declared.bodies.Fact.TheVariants as fact

abbrev v4 : ℕ → ℕ → ℕ → ℕ → AddrValue
v4 a b c d = record { family = V4; number = a * 2 ^ 24 + b * 2 ^ 16 + c * 2 ^ 8 + d }

abbrev key : ℕ → Key
key byte = record { 0 = replicate 32 byte }

abbrev prefix : AddrValue → ℕ → PrefixValue
prefix a length = record { address = a; length = length }

abbrev view : List ℕ → ℕ → Option Status → List PrefixValue → PeerView
view label keepalive status routes = record {
  peer = record { number = 1; key = key 1; label = label; address = v4 10 8 0 2; second = None; until = 0; keepalive = keepalive; status = status };
  routes = routes;
}

-- a new peer
new_peer : compact_text (peer_data (view [] 0 None []))
    ≡ codes "{\"address\":\"10.8.0.2/32\",\"end\":0,\"keepalive\":0,\"key\":\"AQEBAQEBAQEBAQEBAQEBAQEBAQEBAQEBAQEBAQEBAQE=\",\"label\":\"\",\"number\":1,\"routes\":[],\"status\":null}"
unfolding serde_json_on_literals digits octets_of_number encode_symbols
new_peer = refl

-- one with all fields; quotes and backslashes of its label are escaped (RFC 8259 section 7)
full_peer : compact_text (peer_data (view (codes "a \"b\\/~") 25 (Some (record { handshake = 1700000000; received = 1024; sent = 2048 }))
    (prefix (v4 10 0 0 0) 8 ∷ prefix (v4 192 168 4 0) 24 ∷ [])))
    ≡ codes "{\"address\":\"10.8.0.2/32\",\"end\":0,\"keepalive\":25,\"key\":\"AQEBAQEBAQEBAQEBAQEBAQEBAQEBAQEBAQEBAQEBAQE=\",\"label\":\"a \\\"b\\\\/~\",\"number\":1,\"routes\":[\"10.0.0.0/8\",\"192.168.4.0/24\"],\"status\":{\"handshake\":1700000000,\"received\":1024,\"sent\":2048}}"
unfolding serde_json_on_literals digits octets_of_number encode_symbols
full_peer = refl

no_peers : compact_text (peers_data []) ≡ codes "{\"peers\":[]}"
unfolding serde_json_on_literals
no_peers = refl

abbrev network : List ℕ → NetworkValue
network host = record { pool = prefix (v4 10 8 0 0) 24; host = host; port = 51820; server = key 9; capacity = 4096; next = 1; peers = []; routes = [] }

one_network : compact_text (networks_data ((codes "office", network (codes "vpn.example.net")) ∷ []))
    ≡ codes "{\"networks\":[{\"capacity\":4096,\"endpoint\":\"vpn.example.net:51820\",\"name\":\"office\",\"pool\":\"10.8.0.0/24\",\"server\":\"CQkJCQkJCQkJCQkJCQkJCQkJCQkJCQkJCQkJCQkJCQk=\"}]}"
unfolding serde_json_on_literals digits octets_of_number encode_symbols
one_network = refl

no_networks : compact_text (networks_data []) ≡ codes "{\"networks\":[]}"
unfolding serde_json_on_literals
no_networks = refl

revoked : compact_text (revoked_data 2) ≡ codes "{\"revoked\":2}"
unfolding serde_json_on_literals digits
revoked = refl

owner : compact_text (owner_data 2) ≡ codes "{\"number\":2}"
unfolding serde_json_on_literals digits
owner = refl

adopted : compact_text (adopted_data (1 ∷ 2 ∷ 3 ∷ []) 0) ≡ codes "{\"added\":[1,2,3],\"known\":0}"
unfolding serde_json_on_literals digits
adopted = refl

adopted_again : compact_text (adopted_data [] 3) ≡ codes "{\"added\":[],\"known\":3}"
unfolding serde_json_on_literals digits
adopted_again = refl

-- refusals, each with its fact
abbrev told : List ℕ → Fact → Data
told name f = object (member (codes "error") (string name) (fact_members f))

no_fact : compact_text (told (codes "unknown_token") fact.None) ≡ codes "{\"error\":\"unknown_token\"}"
unfolding serde_json_on_literals
no_fact = refl

with_number : compact_text (told (codes "key_held") (fact.Number 1)) ≡ codes "{\"error\":\"key_held\",\"number\":1}"
unfolding serde_json_on_literals digits
with_number = refl

with_line : compact_text (told (codes "address_held") (fact.Line 3)) ≡ codes "{\"error\":\"address_held\",\"line\":3}"
unfolding serde_json_on_literals digits
with_line = refl

with_place : compact_text (told (codes "bad_dump") (fact.Place 6 4)) ≡ codes "{\"error\":\"bad_dump\",\"field\":6,\"line\":4}"
unfolding serde_json_on_literals digits
with_place = refl
