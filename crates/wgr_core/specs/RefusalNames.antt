-- The names of refusals, as they are printed and answered.
use Rattle.std.specs.Prelude.{ℕ, List, codes}
use Rattle.wgr_core.specs.declared.refusal.Refusal.{Refusal}
use Rattle.wgr_core.specs.declared.refusal.Refusal.TheVariants as refusal

abbrev pub refusal_name : Refusal → List ℕ
refusal_name refusal.NoSuchPeer = codes "no_such_peer"
refusal_name (refusal.KeyHeld number) = codes "key_held"
refusal_name refusal.AddressHeld = codes "address_held"
refusal_name refusal.OutsidePool = codes "outside_pool"
refusal_name refusal.PoolFull = codes "pool_full"
refusal_name refusal.CapacityReached = codes "capacity_reached"
refusal_name refusal.NumbersSpent = codes "numbers_spent"
refusal_name refusal.IsAddress = codes "is_address"
refusal_name refusal.NoSuchRoute = codes "no_such_route"
refusal_name refusal.RoutesFull = codes "routes_full"
refusal_name refusal.NobodysAddress = codes "nobodys_address"
refusal_name refusal.LeaseOver = codes "lease_over"
refusal_name refusal.ServerKey = codes "server_key"
refusal_name refusal.WrongServer = codes "wrong_server"
