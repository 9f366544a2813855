-- The lowest address of a pool that may be given and isn't taken.
use Rattle.std.specs.Prelude.{ℕ, zero, suc, ◌+◌, ◌-◌, Bool, true, false, not, ◌&&◌, cond, nat_lt, Option, Some, None}
use Rattle.wgr_text.specs.declared.addr.Family.{Family}
use Rattle.wgr_text.specs.Prefix.{AddrValue, PrefixValue, block}
use Rattle.wgr_pool.specs.PrefixTests.{has}
use Rattle.wgr_pool.specs.Pool.{reserved}

-- whether the pool may give the address: not its first, nor the server's, nor in IPv4 its last
abbrev pub is_assignable : PrefixValue → AddrValue → Bool
is_assignable pool a = has pool a && not (nat_lt a.number (pool.address.number + 2)) && nat_lt a.number (pool.address.number + block pool.address.family pool.length - reserved pool.address.family)

-- the first of `count` addresses, from the number `start` on, that passes
abbrev pub first_from : Family → (AddrValue → Bool) → ℕ → ℕ → Option AddrValue
first_from family passes start zero = None
first_from family passes start (suc count) =
    let a : AddrValue = record { family = family; number = start } in
    elim (passes a) [ true ↦ Some a | false ↦ first_from family passes (start + 1) count ]

-- the lowest of the pool's assignable addresses that isn't taken
abbrev pub lowest_where : PrefixValue → (AddrValue → Bool) → Option AddrValue
lowest_where pool taken = first_from pool.address.family (λ a. is_assignable pool a && not (taken a)) pool.address.number (block pool.address.family pool.length)

-- the lower of two addresses of one family, where there is a first
abbrev pub lower : Option AddrValue → AddrValue → AddrValue
lower None b = b
lower (Some a) b = cond (nat_lt a.number b.number) a b
