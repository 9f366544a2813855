-- The texts of an order's refusals, as they are printed and answered.
use Rattle.std.specs.Prelude.{◌++◌, codes}
use Rattle.wgr_model.specs.Register.{Bytes}
use Rattle.wgr_model.specs.Steps.{OrderRefusal, NameHeld, NoSuchTenant, DigestHeld, PoolOverlaps, BadPool, PortHeld, NoSuchToken, NoNetwork, RegisterFull}

abbrev pub order_refusal_name : OrderRefusal → Bytes
order_refusal_name NameHeld = codes "name_held"
order_refusal_name NoSuchTenant = codes "no_such_tenant"
order_refusal_name DigestHeld = codes "digest_held"
order_refusal_name (PoolOverlaps tenant network) = codes "pool_overlaps"
order_refusal_name BadPool = codes "bad_pool"
order_refusal_name PortHeld = codes "port_held"
order_refusal_name NoSuchToken = codes "no_such_token"
order_refusal_name NoNetwork = codes "no_network"
order_refusal_name RegisterFull = codes "register_full"

-- the refusal's name; for a pool that overlaps, the names of the tenant and of the network after it
abbrev pub refusal_text : OrderRefusal → Bytes
refusal_text (PoolOverlaps tenant network) = order_refusal_name (PoolOverlaps tenant network) ++ codes " " ++ tenant ++ codes " " ++ network
refusal_text why = order_refusal_name why
