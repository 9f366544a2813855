-- The files of wg(8) and wg-quick(8) for a network, without private keys.
use Rattle.std.specs.Prelude.{ℕ, Bool, not, ◌&&◌, cond, nat_eq, List, [], ◌++◌, map, flat_map, codes, decimal, Option, option_map}
use Rattle.std.specs.List.{filter}
use Rattle.wgr_text.specs.declared.key.Key.{Key}
use Rattle.wgr_text.specs.Prefix.{PrefixValue}
use Rattle.wgr_text.specs.PrefixText.{canonical_text}
use Rattle.wgr_text.specs.KeyText.{key_text}
use Rattle.wgr_pool.specs.PrefixTests.{covers, full}
use Rattle.wgr_peers.specs.declared.peer.Peer.{Peer}
use Rattle.wgr_peers.specs.Endpoint.{endpoint_text}
use Rattle.wgr_peers.specs.Peers.{is_live, peer_of}
use Rattle.wgr_peers.specs.Routes.{routes_to}
use Rattle.wgr_core.specs.declared.form.Form.{Form}
use Rattle.wgr_core.specs.declared.form.Form.TheVariants.{Wg, Quick}
use Rattle.wgr_core.specs.declared.reply.PeerView.{PeerView}
use Rattle.wgr_core.specs.Network.{NetworkValue, live_at, server_address}

-- a line with its newline
unfoldable pub line : List ℕ → List ℕ
line text = text ++ codes "\n"

-- prefixes after a first one: a comma and a blank before each
abbrev pub further : List PrefixValue → List ℕ
further prefixes = flat_map (λ p. codes ", " ++ canonical_text p) prefixes

-- ---- the lines

-- the interface's own address, which only wg-quick(8) reads
unfoldable pub address_line : Form → PrefixValue → List ℕ
address_line Wg address = []
address_line Quick address = line (codes "Address = " ++ canonical_text address)

unfoldable pub key_line : Key → List ℕ
key_line key = line (codes "PublicKey = " ++ key_text key.0)

unfoldable pub allowed_line : PrefixValue → List PrefixValue → List ℕ
allowed_line first more = line (codes "AllowedIPs = " ++ canonical_text first ++ further more)

-- the seconds between keepalives; 0 is none
unfoldable pub keepalive_line : ℕ → List ℕ
keepalive_line seconds = cond (nat_eq seconds 0) [] (line (codes "PersistentKeepalive = " ++ decimal seconds))

-- the head of a section of a peer that has this key
unfoldable pub section_head : Key → List ℕ
section_head key = line [] ++ line (codes "[Peer]") ++ key_line key

-- the port on which the interface listens
unfoldable pub port_line : ℕ → List ℕ
port_line port = line (codes "ListenPort = " ++ decimal port)

-- ---- the server's file

-- the section of a peer to which these routes lead
abbrev pub peer_section : Peer → List PrefixValue → List ℕ
peer_section p routes = section_head p.key ++ allowed_line (full p.address) routes ++ keepalive_line p.keepalive

-- the same for a peer with the routes to it, while its lease runs
abbrev pub live_section : ℕ → PeerView → List ℕ
live_section now v = cond (is_live now v.peer) (peer_section v.peer v.routes) []

-- the server's address, with the pool's length
unfoldable pub server_address_line : Form → PrefixValue → List ℕ
server_address_line form pool = address_line form (record { address = server_address pool; length = pool.length })

-- the interface
abbrev pub server_interface : NetworkValue → Form → List ℕ
server_interface n form = line (codes "[Interface]") ++ server_address_line form n.pool ++ port_line n.port

-- and a section for each live peer, by number
abbrev pub server_config : NetworkValue → ℕ → Form → List ℕ
server_config n now form =
    let live = live_at n now in
    server_interface n form ++ flat_map (λ p. peer_section p (routes_to live.routes p.number)) live.peers

-- ---- a peer's file

-- whether a route leads to another peer than that of the number, and doesn't lie wholly in the pool
abbrev pub is_beside : NetworkValue → ℕ → PrefixValue × ℕ → Bool
is_beside n number r = not (nat_eq r.1 number) && not (covers n.pool r.0)

-- the prefixes of those routes
abbrev pub routes_beside : NetworkValue → ℕ → List PrefixValue
routes_beside n number = map (λ r. r.0) (filter (is_beside n number) n.routes)

unfoldable pub endpoint_line : List ℕ → ℕ → List ℕ
endpoint_line host port = line (codes "Endpoint = " ++ endpoint_text host port)

-- the peer's interface, and the server as its one peer
abbrev pub peer_config_text : NetworkValue → Form → Peer → List ℕ
peer_config_text n form p =
    line (codes "[Interface]")
    ++ address_line form (full p.address)
    ++ section_head n.server
    ++ allowed_line n.pool (routes_beside n p.number)
    ++ endpoint_line n.host n.port
    ++ keepalive_line p.keepalive

-- the file of the live peer with the number
abbrev pub peer_config : NetworkValue → ℕ → ℕ → Form → Option (List ℕ)
peer_config n now number form = let live = live_at n now in option_map (peer_config_text live form) (peer_of live.peers number)
