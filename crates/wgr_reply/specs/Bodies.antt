-- The JSON of replies.
use Rattle.std.specs.Prelude.{ℕ, List, map, codes}
use Rattle.serde_json.specs.Data.{Data, string, object, Members, member, no_members}
use Rattle.wgr_core.specs.Network.{NetworkValue}
use Rattle.wgr_core.specs.declared.reply.PeerView.{PeerView}
use Rattle.wgr_json.specs.Values.{array_of, count}
use Rattle.wgr_reply.specs.Shown.{network_data, peer_data}
use Rattle.wgr_reply.specs.declared.bodies.Fact.{Fact}
use Rattle.wgr_reply.specs.declared.bodies.Fact.TheVariants as fact
use Rattle.wgr_reply.specs.declared.bodies.Problem.{Problem}

abbrev pub peers_data : List PeerView → Data
peers_data peers = object (member (codes "peers") (array_of (map peer_data peers)) no_members)

abbrev pub networks_data : List (List ℕ × NetworkValue) → Data
networks_data networks = object (member (codes "networks") (array_of (map network_data networks)) no_members)

abbrev pub revoked_data : ℕ → Data
revoked_data number = object (member (codes "revoked") (count number) no_members)

abbrev pub owner_data : ℕ → Data
owner_data number = object (member (codes "number") (count number) no_members)

abbrev pub adopted_data : List ℕ → ℕ → Data
adopted_data added known =
    object (member (codes "added") (array_of (map count added)) (member (codes "known") (count known) no_members))

-- the members that give a fact
abbrev pub fact_members : Fact → Members
fact_members fact.None = no_members
fact_members (fact.Number number) = member (codes "number") (count number) no_members
fact_members (fact.Field field) = member (codes "field") (string field.now) no_members
fact_members (fact.Line line) = member (codes "line") (count line) no_members
fact_members (fact.Place field line) = member (codes "field") (count field) (member (codes "line") (count line) no_members)

abbrev pub problem_data : Problem → Data
problem_data p = object (member (codes "error") (string p.name.now) (fact_members p.fact))
