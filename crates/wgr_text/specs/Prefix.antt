-- Addresses and prefixes, as sets of addresses.
use Rattle.std.specs.Prelude.{◌≡◌, ℕ, ◌+◌, ◌-◌, ◌*◌, ◌/◌, ◌%◌, ◌^◌, ◌<◌, ◌≤◌, ◌↔◌}
use Rattle.wgr_text.specs.declared.addr.Family.{Family}
use Rattle.wgr_text.specs.declared.addr.Family.TheVariants.{V4, V6}

-- how many bits an address of the family has
abbrev pub width : Family → ℕ
width V4 = 32
width V6 = 128

-- the place of the family's first address among all addresses
abbrev pub first_rank : Family → ℕ
first_rank V4 = 0
first_rank V6 = 2 ^ 128

-- an address: a family and a number
pub record AddrValue : Type 0 where
  pub family : Family
  pub number : ℕ

-- the number fits the family
abbrev pub IsAddr : AddrValue → Type 0
IsAddr a = a.number < 2 ^ width a.family

-- the order of addresses: IPv4 before IPv6, then by number
abbrev pub rank : AddrValue → ℕ
rank a = first_rank a.family + a.number

-- a prefix: its first address, and how many bits its addresses share
pub record PrefixValue : Type 0 where
  pub address : AddrValue
  pub length : ℕ

-- how many addresses a prefix of this length has
abbrev pub block : Family → ℕ → ℕ
block family length = 2 ^ (width family - length)

-- the length is at most the width, and the host bits are zero
abbrev pub IsPrefix : PrefixValue → Type 0
IsPrefix p = (p.length ≤ width p.address.family) × (p.address.number % block p.address.family p.length ≡ 0)

-- the set of a prefix: the addresses of its family that agree with it in the first bits
abbrev pub IsIn : PrefixValue → AddrValue → Type 0
IsIn p a = (a.family ≡ p.address.family) × (a.number / block p.address.family p.length ≡ p.address.number / block p.address.family p.length)

-- every address of `q` is in `p`
abbrev pub Covers : PrefixValue → PrefixValue → Type 0
Covers p q = (a : AddrValue) → IsAddr a → IsIn q a → IsIn p a

-- no address is in both
abbrev pub AreDisjoint : PrefixValue → PrefixValue → Type 0
AreDisjoint p q = (a : AddrValue) → IsAddr a → IsIn p a → IsIn q a → ⊥

-- the prefix of this length that has the address
abbrev pub mask : AddrValue → ℕ → PrefixValue
mask a length = record { address = record { family = a.family; number = a.number / block a.family length * block a.family length }; length = length }

-- `lo` and `hi` are the first and the last address of the set
pub record IsSpanOf (p : PrefixValue) (lo hi : AddrValue) : Type 0 where
  pub first_in : IsAddr lo × IsIn p lo
  pub last_in : IsAddr hi × IsIn p hi
  pub between : (a : AddrValue) → IsIn p a ↔ ((a.family ≡ lo.family) × (lo.number ≤ a.number) × (a.number ≤ hi.number))

-- the same by numbers
pub record IsEndsOf (p : PrefixValue) (lo hi : AddrValue) : Type 0 where
  pub is_prefix : IsPrefix p
  pub first : lo ≡ p.address
  pub same_family : hi.family ≡ p.address.family
  pub last : hi.number + 1 ≡ p.address.number + block p.address.family p.length
