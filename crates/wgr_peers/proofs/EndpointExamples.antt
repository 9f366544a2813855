-- The texts of endpoints, by computation.
use Rattle.std.proofs.Common.{◌≡◌, codes, refl}
use Rattle.std.specs.Fmt.{digits}
use Rattle.wgr_peers.specs.Endpoint.{endpoint_text}

named_endpoint : endpoint_text (codes "vpn.example.net") 51820 ≡ codes "vpn.example.net:51820"
unfolding digits
named_endpoint = refl

ipv6_endpoint : endpoint_text (codes "2001:db8::1") 51820 ≡ codes "[2001:db8::1]:51820"
unfolding digits
ipv6_endpoint = refl
