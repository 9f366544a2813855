-- Orders and their refusals in the model's terms.
use Rattle.std.specs.Prelude.{◌≡◌, ℕ, false, Some, None, Result, Ok, Err, string_bytes}
use Rattle.wgr_text.specs.Prefix.{PrefixValue}
use Rattle.wgr_orders.specs.declared.refusal.OrderRefusal as refusal
use Rattle.wgr_orders.specs.declared.refusal.OrderRefusal.TheVariants as refused
use Rattle.wgr_orders.specs.declared.refusal.OrderFault as fault
use Rattle.wgr_orders.specs.declared.refusal.OrderFault.TheVariants as faulted
use Rattle.wgr_orders.specs.declared.order.Order as order
use Rattle.wgr_orders.specs.declared.order.Order.TheVariants as ordered
use Rattle.wgr_model.specs.Consistent.{IsId}
use Rattle.wgr_model.specs.Register.{Bytes, Register}
use Rattle.wgr_model.specs.Steps.{Event, AddTenant, Grant, EndToken, AddNetwork, EndNetwork, OrderRefusal, NameHeld, NoSuchTenant, DigestHeld, PoolOverlaps, BadPool, PortHeld, NoSuchToken, NoNetwork, RegisterFull, Settings, first_refusal, has_network, network_checks}

abbrev pub refusal_of : refusal.OrderRefusal → OrderRefusal
refusal_of refused.NameHeld = NameHeld
refusal_of refused.NoSuchTenant = NoSuchTenant
refusal_of refused.DigestHeld = DigestHeld
refusal_of (refused.PoolOverlaps tenant network) = PoolOverlaps (string_bytes tenant) (string_bytes network)
refusal_of refused.BadPool = BadPool
refusal_of refused.PortHeld = PortHeld
refusal_of refused.NoSuchToken = NoSuchToken
refusal_of refused.NoNetwork = NoNetwork
refusal_of refused.RegisterFull = RegisterFull

-- an order as an event
abbrev pub order_event : order.Order → Event
order_event (ordered.AddTenant name) = AddTenant name
order_event (ordered.Grant tenant digest right) = Grant tenant digest right
order_event (ordered.EndToken digest) = EndToken digest
order_event (ordered.AddNetwork tenant name settings) = AddNetwork tenant name settings
order_event (ordered.EndNetwork tenant name) = EndNetwork tenant name

-- the checks of a new network pass, and the pool is the requested one; or one check fails
abbrev pub IsChecked : Register → ℕ → Bytes → Settings → Result PrefixValue fault.OrderFault → Type 0
IsChecked r id name settings (Ok pool) = (first_refusal (network_checks r id name settings) ≡ None) × (pool ≡ settings.pool)
IsChecked r id name settings (Err (faulted.Refused why)) = first_refusal (network_checks r id name settings) ≡ Some (refusal_of why)
IsChecked r id name settings (Err faulted.NoMemory) = Unit {0}

-- a new network passes the checks and has an id that no other has, or one check fails
abbrev pub IsAdmitted : Register → ℕ → Bytes → Settings → Result ℕ refusal.OrderRefusal → Type 0
IsAdmitted r tenant name settings (Ok new) = (first_refusal (network_checks r tenant name settings) ≡ None) × IsId new × (has_network r.networks new ≡ false)
IsAdmitted r tenant name settings (Err why) = first_refusal (network_checks r tenant name settings) ≡ Some (refusal_of why)
