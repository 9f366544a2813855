-- Why a new peer, an address or a route is refused: of a command, and of a line of a dump.
use Rattle.std.specs.Prelude.{ℕ, Bool, not, ◌&&◌, ◌||◌, cond, nat_lt, length, Option, Some, None, Result, Ok, Err, is_some}
use Rattle.wgr_text.specs.declared.key.Key.{Key}
use Rattle.wgr_text.specs.Prefix.{AddrValue, PrefixValue}
use Rattle.wgr_core.specs.declared.joining.Joining.{Joining}
use Rattle.wgr_core.specs.declared.refusal.CommandRefusal.{CommandRefusal}
use Rattle.wgr_core.specs.declared.refusal.Refusal.{Refusal}
use Rattle.wgr_core.specs.declared.refusal.Refusal.TheVariants.{KeyHeld, AddressHeld, OutsidePool, PoolFull, CapacityReached, NumbersSpent, IsAddress, RoutesFull, LeaseOver, ServerKey}
use Rattle.wgr_pool.specs.PrefixTests.{full}
use Rattle.wgr_pool.specs.Allot.{is_assignable}
use Rattle.wgr_peers.specs.Limits.{is_expired, max_number, max_routes}
use Rattle.wgr_peers.specs.Peers.{is_own, key_holder, same_key}
use Rattle.wgr_peers.specs.Routes.{route_of}
use Rattle.wgr_core.specs.Network.{NetworkValue, is_address, lowest_free}

-- a refusal of the command itself, and one of a line of its dump
abbrev pub of_command : Refusal → CommandRefusal
of_command why = record { why = why; line = None }

abbrev pub of_line : ℕ → Refusal → CommandRefusal
of_line number why = record { why = why; line = Some number }

-- the value, where there is no refusal
abbrev pub unless_refused : {T E : Type 0} → Option E → T → Result T E
unless_refused None x = Ok x
unless_refused (Some why) x = Err why

-- ---- a new peer

abbrev pub held_or : Option ℕ → Option Refusal → Option Refusal
held_or (Some number) next = Some (KeyHeld number)
held_or None next = next

-- what decides whether a peer with this key may join
abbrev pub joining_of : NetworkValue → Key → Joining
joining_of n key = record { server = n.server; key_holder = key_holder n.peers key; has_room = nat_lt (length n.peers) n.capacity; next = n.next }

abbrev pub joining_refusal : Joining → ℕ → Key → ℕ → Option Refusal
joining_refusal j now key until =
    cond (same_key key j.server) (Some ServerKey)
    (held_or j.key_holder
    (cond (is_expired now until) (Some LeaseOver)
    (cond (not j.has_room) (Some CapacityReached)
    (cond (nat_lt max_number j.next) (Some NumbersSpent) None))))

-- why no peer with this key and this end of its lease may join
abbrev pub join_refusal : NetworkValue → ℕ → Key → ℕ → Option Refusal
join_refusal n now key until = joining_refusal (joining_of n key) now key until

-- ---- the address that a peer takes

-- whether the address is a peer's own, or a route at full length
abbrev pub is_address_taken : NetworkValue → AddrValue → Bool
is_address_taken n a = is_own n.peers a || is_some (route_of n.routes (full a))

-- why a named address of this pool can't be taken
abbrev pub address_refusal : NetworkValue → PrefixValue → AddrValue → Option Refusal
address_refusal n pool a = cond (not (is_assignable pool a)) (Some OutsidePool) (cond (is_address_taken n a) (Some AddressHeld) None)

abbrev pub or_full : Option AddrValue → Result AddrValue Refusal
or_full None = Err PoolFull
or_full (Some a) = Ok a

-- the named address of this pool, or the lowest that is free
abbrev pub place : NetworkValue → PrefixValue → Option AddrValue → Result AddrValue Refusal
place n pool (Some a) = unless_refused (address_refusal n pool a) a
place n pool None = or_full (lowest_free n pool)

-- ---- a route

-- why the prefix can't be a route; one that is already a route takes no more room
abbrev pub route_refusal : NetworkValue → PrefixValue → Option Refusal
route_refusal n prefix =
    cond (is_address n prefix) (Some IsAddress)
    (cond (not (is_some (route_of n.routes prefix)) && not (nat_lt (length n.routes) max_routes)) (Some RoutesFull) None)
