-- The JSON that shows peers and networks. Numbers are whole, and each text is a string.
use Rattle.std.specs.Prelude.{ℕ, List, map, codes, Option, Some, None}
use Rattle.serde_json.specs.Data.{Data, null, string, object, member, no_members}
use Rattle.wgr_json.specs.Values.{array_of, count, key_data, prefix_data}
use Rattle.wgr_peers.specs.declared.peer.Status.{Status}
use Rattle.wgr_peers.specs.Endpoint.{endpoint_text}
use Rattle.wgr_pool.specs.PrefixTests.{full}
use Rattle.wgr_core.specs.Network.{NetworkValue}
use Rattle.wgr_core.specs.declared.reply.PeerView.{PeerView}

-- what an interface showed of a peer, or null
abbrev pub status_data : Option Status → Data
status_data None = null
status_data (Some s) =
    object (member (codes "handshake") (count s.handshake)
    (member (codes "received") (count s.received)
    (member (codes "sent") (count s.sent) no_members)))

-- a peer, its address at full length, with the routes that lead to it
abbrev pub peer_data : PeerView → Data
peer_data v =
    object (member (codes "address") (prefix_data (full v.peer.address))
    (member (codes "end") (count v.peer.until)
    (member (codes "keepalive") (count v.peer.keepalive)
    (member (codes "key") (key_data v.peer.key)
    (member (codes "label") (string v.peer.label)
    (member (codes "number") (count v.peer.number)
    (member (codes "routes") (array_of (map prefix_data v.routes))
    (member (codes "status") (status_data v.peer.status) no_members))))))))

-- a network under its name, without its peers
abbrev pub network_data : List ℕ × NetworkValue → Data
network_data e =
    object (member (codes "capacity") (count e.1.capacity)
    (member (codes "endpoint") (string (endpoint_text e.1.host e.1.port))
    (member (codes "name") (string e.0)
    (member (codes "pool") (prefix_data e.1.pool)
    (member (codes "server") (key_data e.1.server) no_members)))))
