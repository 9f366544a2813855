-- What follows from the definitions of files.
use Rattle.std.specs.Prelude.{ℕ, ◌≡◌, ◌^◌, ◌<◌, length, All, Option, option_and_then, option_map}
use Rattle.base64.specs.GeneralPurpose.{IsBytes}
use Rattle.wgr_text.specs.declared.key.Key.{Key}
use Rattle.wgr_text.specs.Prefix.{PrefixValue, IsAddr}
use Rattle.wgr_peers.specs.declared.peer.Peer.{Peer}
use Rattle.wgr_peers.specs.Peers.{peer_of}
use Rattle.wgr_peers.specs.Routes.{route_of}
use Rattle.wgr_core.specs.declared.form.Form.{Form}
use Rattle.wgr_core.specs.Network.{NetworkValue, IsNetwork, live_at}
use Rattle.wgr_core.specs.Owner.{allowed}
use Rattle.wgr_conf.specs.Files.{server_config}
use Rattle.wgr_conf.specs.Routing.{Text, cryptokey_routing}

-- the key of the peer to which an allowed prefix leads
abbrev pub allowed_peer_key : NetworkValue → PrefixValue → Option Key
allowed_peer_key n p = option_and_then (λ number. option_map (λ peer. peer.key) (peer_of n.peers number)) (route_of (allowed n) p)

-- the fields of a peer are in the ranges of their types
pub record IsInRanges (p : Peer) : Type 0 where
  pub key : (length p.key.0 ≡ 32) × IsBytes p.key.0
  pub address : IsAddr p.address
  pub keepalive : p.keepalive < 2 ^ 16

-- the server's file leads each allowed prefix of the live network to its peer's key, and no other prefix to any
abbrev pub ServerFileRoutes : Type 0
ServerFileRoutes = (n : NetworkValue) (now : ℕ) (form : Form) → IsNetwork n → All IsInRanges n.peers → cryptokey_routing (server_config n now form) (allowed_peer_key (live_at n now))

-- a file leads a prefix to one key at most
abbrev pub RoutingIsOne : Type 0
RoutingIsOne = (file : Text) (one other : PrefixValue → Option Key) → cryptokey_routing file one → cryptokey_routing file other → (p : PrefixValue) → one p ≡ other p
