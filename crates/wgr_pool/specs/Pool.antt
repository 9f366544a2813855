-- Pools and the addresses that they give.
use Rattle.std.specs.Prelude.{◌≡◌, ℕ, ◌+◌, ◌≤◌, ◌≢◌, ◌↔◌}
use Rattle.wgr_text.specs.declared.addr.Family.{Family}
use Rattle.wgr_text.specs.declared.addr.Family.TheVariants.{V4, V6}
use Rattle.wgr_text.specs.Prefix.{AddrValue, PrefixValue, IsAddr, IsPrefix, IsIn, block, rank}

-- an IPv4 pool has 8 to 30 bits, and an IPv6 pool 48 to 126
abbrev pub IsPoolLength : Family → ℕ → Type 0
IsPoolLength V4 length = (8 ≤ length) × (length ≤ 30)
IsPoolLength V6 length = (48 ≤ length) × (length ≤ 126)

abbrev pub IsPool : PrefixValue → Type 0
IsPool p = IsAddr p.address × IsPrefix p × IsPoolLength p.address.family p.length

-- an address that the pool may give: not its first, nor its second, which is the server's, nor in IPv4 its last
pub record IsAssignable (pool : PrefixValue) (a : AddrValue) : Type 0 where
  pub in_pool : IsIn pool a
  pub not_first : a.number ≢ pool.address.number
  pub not_server : a.number ≢ pool.address.number + 1
  pub not_last : a.family ≡ V4 → a.number + 1 ≢ pool.address.number + block pool.address.family pool.length

-- how many of a pool's last addresses are never given
abbrev pub reserved : Family → ℕ
reserved V4 = 1
reserved V6 = 0

-- the assignable addresses are those from `lo` to `hi`
pub record IsRangeOf (pool : PrefixValue) (lo hi : AddrValue) : Type 0 where
  pub fits : IsAddr lo × IsAddr hi
  pub same_family : lo.family ≡ hi.family
  pub rises : lo.number ≤ hi.number
  pub between : (a : AddrValue) → IsAddr a → IsAssignable pool a ↔ ((rank lo ≤ rank a) × (rank a ≤ rank hi))
