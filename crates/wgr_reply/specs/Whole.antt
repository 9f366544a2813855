-- No number in a reply is a float.
use Rattle.std.proofs.Common.{◌≡◌, ℕ, List, false, refl, Option, Some, None}
use Rattle.serde_json.specs.Written.{has_float, members_have_float}
use Rattle.wgr_peers.specs.declared.peer.Status.{Status}
use Rattle.wgr_core.specs.declared.reply.PeerView.{PeerView}
use Rattle.wgr_core.specs.Network.{NetworkValue}
use Rattle.wgr_reply.specs.Bodies.{adopted_data, fact_members, networks_data, peers_data, problem_data}
use Rattle.wgr_json.specs.Values.{count, prefix_data}
use Rattle.wgr_json.specs.Whole.{array_whole}
use Rattle.wgr_reply.specs.Shown.{network_data, peer_data, status_data}
use Rattle.wgr_reply.specs.declared.bodies.Fact.{Fact}
use Rattle.wgr_reply.specs.declared.bodies.Fact.TheVariants as fact
use Rattle.wgr_reply.specs.declared.bodies.Problem.{Problem}

pub status_whole : (s : Option Status) → has_float (status_data s) ≡ false
status_whole None = refl
status_whole (Some s) = refl

pub peer_whole : (v : PeerView) → has_float (peer_data v) ≡ false
peer_whole v = rw (array_whole prefix_data (λ p. refl) v.routes, status_whole v.peer.status) refl

pub peers_whole : (peers : List PeerView) → has_float (peers_data peers) ≡ false
peers_whole peers = rw (array_whole peer_data peer_whole peers) refl

pub networks_whole : (networks : List (List ℕ × NetworkValue)) → has_float (networks_data networks) ≡ false
networks_whole networks = rw (array_whole network_data (λ e. refl) networks) refl

pub adopted_whole : (added : List ℕ) (known : ℕ) → has_float (adopted_data added known) ≡ false
adopted_whole added known = rw (array_whole count (λ n. refl) added) refl

fact_whole : (f : Fact) → members_have_float (fact_members f) ≡ false
fact_whole fact.None = refl
fact_whole (fact.Number number) = refl
fact_whole (fact.Field field) = refl
fact_whole (fact.Line line) = refl
fact_whole (fact.Place field line) = refl

pub problem_whole : (p : Problem) → has_float (problem_data p) ≡ false
problem_whole p = fact_whole p.fact
