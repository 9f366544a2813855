-- Small files, by computation.
use Rattle.std.proofs.Common.{◌≡◌, ℕ, ◌+◌, ◌*◌, ◌^◌, List, [], ◌∷◌, Some, None, refl}
use Rattle.std.specs.Prelude.{replicate, codes}
use Rattle.std.specs.Fmt.{digits}
use Rattle.base64.specs.Rfc4648.{encode_symbols}
use Rattle.wgr_text.specs.declared.addr.Family.TheVariants.{V4}
use Rattle.wgr_text.specs.declared.key.Key.{Key}
use Rattle.wgr_text.specs.Prefix.{AddrValue, PrefixValue}
use Rattle.wgr_text.specs.PrefixText.{octets_of_number}
use Rattle.wgr_peers.specs.declared.peer.Peer.{Peer}
use Rattle.wgr_core.specs.declared.form.Form.TheVariants.{Wg, Quick}
use Rattle.wgr_core.specs.Network.{NetworkValue}
use Rattle.wgr_conf.specs.Files.{address_line, allowed_line, endpoint_line, keepalive_line, key_line, line, peer_config, port_line, section_head, server_address_line, server_config}
use Rattle.wgr_conf.specs.Routing.{key_of, file_rows}

abbrev v4 : ℕ → ℕ → ℕ → ℕ → AddrValue
v4 a b c d = record { family = V4; number = a * 2 ^ 24 + b * 2 ^ 16 + c * 2 ^ 8 + d }

abbrev key : ℕ → Key
key byte = record { 0 = replicate 32 byte }

abbrev pool : PrefixValue
pool = record { address = v4 10 8 0 0; length = 24 }

abbrev peer : ℕ → AddrValue → ℕ → ℕ → Peer
peer number address until keepalive = record { number = number; key = key number; label = []; address = address; second = None; until = until; keepalive = keepalive; status = None }

abbrev lan : PrefixValue
lan = record { address = v4 192 168 4 0; length = 24 }

abbrev office : List Peer → NetworkValue
office peers = record { pool = pool; host = codes "vpn.example.net"; port = 51820; server = key 9; capacity = 4096; next = 3; peers = peers; routes = (record { address = v4 10 8 0 16; length = 28 }, 2) ∷ (lan, 2) ∷ [] }

-- of a network without live peers the server's file is its interface
nobody_wg : server_config (office (peer 2 (v4 10 8 0 3) 100 25 ∷ [])) 100 Wg ≡ codes "[Interface]\nListenPort = 51820\n"
unfolding line address_line server_address_line port_line digits
nobody_wg = refl

nobody_quick : server_config (office []) 0 Quick ≡ codes "[Interface]\nAddress = 10.8.0.1/24\nListenPort = 51820\n"
unfolding line address_line server_address_line port_line digits octets_of_number
nobody_quick = refl

one_peer : server_config (office (peer 2 (v4 10 8 0 3) 0 25 ∷ [])) 0 Wg
    ≡ codes "[Interface]\nListenPort = 51820\n\n[Peer]\nPublicKey = AgICAgICAgICAgICAgICAgICAgICAgICAgICAgICAgI=\nAllowedIPs = 10.8.0.3/32, 10.8.0.16/28, 192.168.4.0/24\nPersistentKeepalive = 25\n"
unfolding line address_line server_address_line port_line section_head key_line allowed_line keepalive_line digits octets_of_number encode_symbols
one_peer = refl

-- a peer's file has the routes of the others beside the pool
first_of_two : peer_config (office (peer 1 (v4 10 8 0 2) 0 0 ∷ peer 2 (v4 10 8 0 3) 100 25 ∷ [])) 99 1 Quick
    ≡ Some (codes "[Interface]\nAddress = 10.8.0.2/32\n\n[Peer]\nPublicKey = CQkJCQkJCQkJCQkJCQkJCQkJCQkJCQkJCQkJCQkJCQk=\nAllowedIPs = 10.8.0.0/24, 192.168.4.0/24\nEndpoint = vpn.example.net:51820\n")
unfolding line address_line section_head key_line allowed_line keepalive_line endpoint_line digits octets_of_number encode_symbols
first_of_two = refl

-- and those of its own nowhere
second_of_two : peer_config (office (peer 1 (v4 10 8 0 2) 0 0 ∷ peer 2 (v4 10 8 0 3) 100 25 ∷ [])) 99 2 Wg
    ≡ Some (codes "[Interface]\n\n[Peer]\nPublicKey = CQkJCQkJCQkJCQkJCQkJCQkJCQkJCQkJCQkJCQkJCQk=\nAllowedIPs = 10.8.0.0/24\nEndpoint = vpn.example.net:51820\nPersistentKeepalive = 25\n")
unfolding line address_line section_head key_line allowed_line keepalive_line endpoint_line digits octets_of_number encode_symbols
second_of_two = refl

-- a route that is the pool lies in it, and one that covers more doesn't
around_the_pool : peer_config (record (office (peer 1 (v4 10 8 0 2) 0 0 ∷ peer 2 (v4 10 8 0 3) 0 0 ∷ [])) { routes = (record { address = v4 10 8 0 0; length = 23 }, 2) ∷ (pool, 2) ∷ [] }) 0 1 Wg
    ≡ Some (codes "[Interface]\n\n[Peer]\nPublicKey = CQkJCQkJCQkJCQkJCQkJCQkJCQkJCQkJCQkJCQkJCQk=\nAllowedIPs = 10.8.0.0/24, 10.8.0.0/23\nEndpoint = vpn.example.net:51820\n")
unfolding line address_line section_head key_line allowed_line keepalive_line endpoint_line digits octets_of_number encode_symbols
around_the_pool = refl

ended : peer_config (office (peer 1 (v4 10 8 0 2) 0 0 ∷ peer 2 (v4 10 8 0 3) 100 25 ∷ [])) 100 2 Wg ≡ None
ended = refl

-- a prefix that two sections name leads to the later key
rows : file_rows (codes "[Interface]\nListenPort = 1\n\n[Peer]\nPublicKey = k\nAllowedIPs = a, b\n\n[Peer]\nPublicKey = l\nAllowedIPs = a\nAllowedIPs = c\n")
    ≡ (codes "a", codes "k") ∷ (codes "b", codes "k") ∷ (codes "a", codes "l") ∷ (codes "c", codes "l") ∷ []
rows = refl

moved : key_of ((pool, key 1) ∷ (lan, key 1) ∷ (pool, key 2) ∷ []) pool ≡ Some (key 2)
moved = refl

stayed : key_of ((pool, key 1) ∷ (lan, key 1) ∷ (pool, key 2) ∷ []) lan ≡ Some (key 1)
stayed = refl
