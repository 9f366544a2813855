-- Where an entry is in a list.
use Rattle.std.specs.Prelude.{◌≡◌, ℕ, ◌<◌, List, length, slice_index_or, slice_set, Some}
use Rattle.wgr_core.specs.Network.{NetworkValue}
use Rattle.wgr_model.specs.Register.{Bytes, NetworkEntry}
use Rattle.wgr_model.specs.Steps.{network_at, with_network}

-- the network of the tenant's id and the name is the one at this place
pub record IsNetworkPlace (hs : List NetworkEntry) (id : ℕ) (name : Bytes) (place : ℕ) : Type 0 where
  pub within : place < length hs
  pub found : (d : NetworkEntry) → network_at hs id name ≡ Some (slice_index_or hs place d).network
  pub put : (d : NetworkEntry) (n : NetworkValue) → with_network hs id name n ≡ slice_set hs place (record (slice_index_or hs place d) { network = n })
