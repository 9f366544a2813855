-- The JSON that shows a register. Numbers are whole, and each text is a string.
use Rattle.std.specs.Prelude.{◌≡◌, ℕ, Bool, true, false, List, [], ◌∷◌, ◌++◌, map, codes, Option}
use Rattle.std.specs.List.{filter}
use Rattle.hex.specs.Hex.{encode_lower}
use Rattle.serde_json.specs.Data.{Data, string, object, member, no_members}
use Rattle.serde_json.specs.Written.{compact_text}
use Rattle.wgr_json.specs.Values.{array_of, count, key_data, prefix_data}
use Rattle.wgr_model.specs.Register.{Bytes}
use Rattle.wgr_model.specs.declared.right.Right.{Right}
use Rattle.wgr_model.specs.declared.right.Right.TheVariants.{Full, Read}
use Rattle.wgr_orders.specs.declared.census.Census.{Census}
use Rattle.wgr_orders.specs.declared.census.Counted.{Counted}
use Rattle.wgr_orders.specs.declared.census.Granted.{Granted}
use Rattle.wgr_show.specs.Shown.{IsListing, ShownTenant}

-- a token's digest in hexadecimal digits
abbrev pub token_data : Granted → Data
token_data t = string (encode_lower t.token.digest)

abbrev pub counted_data : Counted → Data
counted_data n =
    object (member (codes "name") (string n.network_entry.name)
    (member (codes "pool") (prefix_data n.network_entry.network.pool)
    (member (codes "host") (string n.network_entry.network.host)
    (member (codes "port") (count n.network_entry.network.port)
    (member (codes "server") (key_data n.network_entry.network.server)
    (member (codes "capacity") (count n.network_entry.network.capacity)
    (member (codes "peers") (count n.peers)
    (member (codes "routes") (count n.routes) no_members))))))))

-- a tenant with its tokens and networks
abbrev pub tenant_alone : ShownTenant → Data
tenant_alone s =
    object (member (codes "name") (string s.name)
    (member (codes "tokens") (array_of (map token_data s.tokens))
    (member (codes "networks") (array_of (map counted_data s.networks)) no_members)))

-- and with some of the tokens apart
abbrev pub tenant_and_readers : ShownTenant → List Granted → Data
tenant_and_readers s readers =
    object (member (codes "name") (string s.name)
    (member (codes "tokens") (array_of (map token_data s.tokens))
    (member (codes "readers") (array_of (map token_data readers))
    (member (codes "networks") (array_of (map counted_data s.networks)) no_members))))

-- they have a member where there are any
abbrev pub tenant_with : ShownTenant → List Granted → Data
tenant_with s [] = tenant_alone s
tenant_with s (reader ∷ readers) = tenant_and_readers s (reader ∷ readers)

abbrev pub only_reads : Right → Bool
only_reads Full = false
only_reads Read = true

-- a tenant with its tokens, those of them that only read, and its networks
abbrev pub tenant_data : ShownTenant → Data
tenant_data s = tenant_with s (filter (λ t. only_reads t.right) s.tokens)

abbrev pub register_data : List ShownTenant → Data
register_data shown = object (member (codes "tenants") (array_of (map tenant_data shown)) no_members)

-- the JSON of what is asked for, on one line
abbrev pub IsRegisterJson : Census → Option Bytes → List ℕ → Type 0
IsRegisterJson c name text = (shown : List ShownTenant) × IsListing c name shown × (text ≡ compact_text (register_data shown) ++ codes "\n")
