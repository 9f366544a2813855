-- What a column of a row holds.
use Rattle.std.specs.Prelude.{◌≡◌, ◌+◌, ◌<◌, ℕ, length, pos}
use Rattle.sqlite_value.specs.Order.{Row, column}
use Rattle.sqlite.specs.declared.types.Value.TheVariants.{Int, Text, Blob}
use Rattle.sqlite_rules.specs.Edit.{id_in}
use Rattle.wgr_text.specs.Prefix.{IsAddr, IsPrefix}
use Rattle.wgr_pool.specs.Pool.{IsPool}
use Rattle.wgr_peers.specs.Host.{IsHostText}
use Rattle.wgr_peers.specs.Label.{IsLabel}
use Rattle.wgr_peers.specs.Limits.{IsCapacity, IsCount, IsLeaseEnd, IsPort}
use Rattle.wgr_model.specs.Consistent.{IsDigest, IsId, IsName}
use Rattle.wgr_model.specs.Rows.{family_number, peer_id}
use Rattle.wgr_columns.specs.Decode.{IsNumberAt, number_at, bytes_at, bytes_of, number_of, family_of, address_at, prefix_at}

-- ---- numbers; `IsNumberAt`, one that is not negative, is in `Decode`

-- an integer, perhaps negative
abbrev pub IsIntegerAt : Row → ℕ → Type 0
IsIntegerAt row at = column row at ≡ Int (id_in (column row at))

-- a number of 32 bits
abbrev pub IsWordAt : Row → ℕ → Type 0
IsWordAt row at = IsNumberAt row at × (number_at row at < 4294967296)

-- a number of 16 bits
abbrev pub IsShortAt : Row → ℕ → Type 0
IsShortAt row at = IsNumberAt row at × (number_at row at < 65536)

abbrev pub IsIdAt : Row → ℕ → Type 0
IsIdAt row at = IsNumberAt row at × IsId (number_at row at)

abbrev pub IsPortAt : Row → ℕ → Type 0
IsPortAt row at = IsNumberAt row at × IsPort (number_at row at)

abbrev pub IsCapacityAt : Row → ℕ → Type 0
IsCapacityAt row at = IsNumberAt row at × IsCapacity (number_at row at)

abbrev pub IsCountAt : Row → ℕ → Type 0
IsCountAt row at = IsNumberAt row at × IsCount (number_at row at)

abbrev pub IsLeaseEndAt : Row → ℕ → Type 0
IsLeaseEndAt row at = IsNumberAt row at × IsLeaseEnd (number_at row at)

-- the id of a peer of the network, whose number has 32 bits
abbrev pub IsPeerIdAt : Row → ℕ → ℕ → Type 0
IsPeerIdAt row at network = (number : ℕ) × (number < 4294967296) × (column row at ≡ Int (pos (peer_id network number)))

-- ---- texts

abbrev pub IsNameAt : Row → ℕ → Type 0
IsNameAt row at = (column row at ≡ Text (bytes_at row at)) × IsName (bytes_at row at)

abbrev pub IsLabelAt : Row → ℕ → Type 0
IsLabelAt row at = (column row at ≡ Text (bytes_at row at)) × IsLabel (bytes_at row at)

-- the host's text is the one that the register stores for it
abbrev pub IsHostAt : Row → ℕ → Type 0
IsHostAt row at = (column row at ≡ Text (bytes_at row at)) × IsHostText (bytes_at row at) (bytes_at row at)

-- ---- bytes

abbrev pub IsDigestAt : Row → ℕ → Type 0
IsDigestAt row at = (column row at ≡ Blob (bytes_at row at)) × IsDigest (bytes_at row at)

-- a WireGuard key: 32 bytes
abbrev pub IsKeyAt : Row → ℕ → Type 0
IsKeyAt row at = (column row at ≡ Blob (bytes_at row at)) × (length (bytes_at row at) ≡ 32)

-- the 16 bytes of an address's number
abbrev pub IsSpelledAt : Row → ℕ → Type 0
IsSpelledAt row at = column row at ≡ Blob (bytes_of (number_of (bytes_at row at)))

-- ---- addresses

abbrev pub IsFamilyAt : Row → ℕ → Type 0
IsFamilyAt row at = IsNumberAt row at × (number_at row at ≡ family_number (family_of (number_at row at)))

-- an address whose family is at the one place, and its number at the other
pub record IsAddressAt (row : Row) (family at : ℕ) : Type 0 where
  pub family_is : IsFamilyAt row family
  pub spelled : IsSpelledAt row at
  pub fits : IsAddr (address_at row family at)

-- a prefix whose family, first address and length are at this place and the next two
pub record IsPrefixAt (row : Row) (at : ℕ) : Type 0 where
  pub address : IsAddressAt row at (at + 1)
  pub length : IsNumberAt row (at + 2)
  pub prefix : IsPrefix (prefix_at row at)

-- a pool whose family, first address and length are at this place and the next two
pub record IsPoolAt (row : Row) (at : ℕ) : Type 0 where
  pub family : IsFamilyAt row at
  pub address : IsSpelledAt row (at + 1)
  pub length : IsNumberAt row (at + 2)
  pub pool : IsPool (prefix_at row at)
