-- What a call writes in one commit.
use Rattle.std.specs.Prelude.{◌≡◌, ℕ, not, List, ◌∷◌}
use Rattle.std.specs.List.{filter}
use Rattle.std.specs.List.Sorted.{IsPermutation}
use Rattle.sqlite.specs.Effect.{Database}
use Rattle.wgr_core.specs.Change.{applied}
use Rattle.wgr_core.specs.Network.{NetworkValue}
use Rattle.wgr_core.specs.declared.change.Change.{Change}
use Rattle.wgr_model.specs.declared.right.Right.{Right}
use Rattle.wgr_model.specs.Laws.{Has}
use Rattle.wgr_model.specs.Register.{Bytes, Tenant, Token, is_same}
use Rattle.wgr_model.specs.RowLaws.{AreConsistent}
use Rattle.wgr_model.specs.Rows.{NetworkRow, Tables, Replaces, network_entry_of}
use Rattle.wgr_model.specs.RowRules.{Removes}
use Rattle.wgr_model.specs.Steps.{with_reader, without_reader}
use Rattle.wgr_sql.specs.Steps as steps
use Rattle.wgr_columns.specs.Decode.{IsRegister, tables_of}

-- A network's value replaces the one whose rows have this id; a tenant, a token of this right and a
-- network are added; the token of this digest is deleted, whatever its right; and so are all rows of the
-- network of this id.
pub data Written : Type 0 where
  Replaced : (network : ℕ) (value : NetworkValue) → Written
  TenantGained : (tenant : Tenant) → Written
  TokenGained : (token : Token) (right : Right) → Written
  TokenLost : (digest : Bytes) → Written
  NetworkGained : (network : NetworkRow) → Written
  NetworkLost : (network : ℕ) → Written

abbrev pub TenantComes : Tenant → Tables → Tables → Type 0
TenantComes tenant t u = (tenants : List Tenant) × IsPermutation (tenant ∷ t.tenants) tenants × (u ≡ record t { tenants = tenants })

-- one that only reads has one more row
abbrev pub TokenComes : Token → Right → Tables → Tables → Type 0
TokenComes token right t u = (tokens : List Token) × (readers : List Bytes) × IsPermutation (token ∷ t.tokens) tokens × IsPermutation (with_reader right token.digest t.readers) readers
    × (u ≡ record t { tokens = tokens; readers = readers })

abbrev pub TokenGoes : Bytes → Tables → Tables → Type 0
TokenGoes digest t u = u ≡ record t { tokens = filter (λ x. not (is_same digest x.digest)) t.tokens; readers = without_reader digest t.readers }

abbrev pub NetworkComes : NetworkRow → Tables → Tables → Type 0
NetworkComes network t u = (networks : List NetworkRow) × IsPermutation (network ∷ t.networks) networks × (u ≡ record t { networks = networks })

-- what it does to the rows
abbrev pub Changes : Written → Tables → Tables → Type 0
Changes (Replaced network value) = Replaces network value
Changes (TenantGained tenant) = TenantComes tenant
Changes (TokenGained token right) = TokenComes token right
Changes (TokenLost digest) = TokenGoes digest
Changes (NetworkGained network) = NetworkComes network
Changes (NetworkLost network) = Removes network

-- a change of the network of this id replaces its value, on these rows, which are consistent
pub record IsReplacement (network : ℕ) (change : Change) (t : Tables) (one : Written) : Type 0 where
  pub consistent : AreConsistent t
  pub row : NetworkRow
  pub there : Has t.networks row
  pub id_is : row.id ≡ network
  pub replaced : one ≡ Replaced network (applied change (network_entry_of t row).network)

abbrev pub Writes : Written → Database → Database → Type 0
Writes one = steps.Makes IsRegister tables_of (Changes one)

-- so for the write that `writes` tells on the old rows
abbrev pub WritesAs : (Tables → Written → Type 0) → Database → Database → Type 0
WritesAs writes old new = (one : Written) → writes (tables_of old) one → Writes one old new
