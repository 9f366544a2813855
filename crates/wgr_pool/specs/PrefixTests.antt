-- Tests of addresses and prefixes that compute.
use Rattle.std.specs.Prelude.{◌/◌, Bool, true, false, not, ◌&&◌, ◌||◌, nat_eq, nat_lt}
use Rattle.wgr_text.specs.declared.addr.Family.{Family}
use Rattle.wgr_text.specs.declared.addr.Family.TheVariants.{V4, V6}
use Rattle.wgr_text.specs.Prefix.{AddrValue, PrefixValue, block, width, rank}

abbrev pub same_family : Family → Family → Bool
same_family V4 V4 = true
same_family V6 V6 = true
same_family V4 V6 = false
same_family V6 V4 = false

abbrev pub same_address : AddrValue → AddrValue → Bool
same_address a b = same_family a.family b.family && nat_eq a.number b.number

abbrev pub same_prefix : PrefixValue → PrefixValue → Bool
same_prefix p q = same_address p.address q.address && nat_eq p.length q.length

-- whether the prefix has the address
abbrev pub has : PrefixValue → AddrValue → Bool
has p a = same_family p.address.family a.family && nat_eq (a.number / block p.address.family p.length) (p.address.number / block p.address.family p.length)

-- whether each address of the second is in the first
abbrev pub covers : PrefixValue → PrefixValue → Bool
covers p q = not (nat_lt q.length p.length) && has p q.address

-- the address alone, as a prefix
abbrev pub full : AddrValue → PrefixValue
full a = record { address = a; length = width a.family }

-- the order of prefixes: IPv4 before IPv6, then by address, then by length
abbrev pub is_before : PrefixValue → PrefixValue → Bool
is_before p q = nat_lt (rank p.address) (rank q.address) || (nat_eq (rank p.address) (rank q.address) && nat_lt p.length q.length)
