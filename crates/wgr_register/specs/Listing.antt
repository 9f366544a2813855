-- A tenant's networks, read from their rows.
use Rattle.std.specs.Prelude.{ℕ, List, map}
use Rattle.std.specs.Ordering.{nat_cmp}
use Rattle.std.specs.Cmp.Lexicographic.{slice_cmp}
use Rattle.std.specs.FinMap as map_
use Rattle.wgr_core.specs.Network.{NetworkValue}
use Rattle.wgr_model.specs.Register.{Bytes, NetworkEntry, view_at}
use Rattle.wgr_model.specs.Rows.{Tables, register_of}

-- networks in the order of their names
abbrev pub by_name : List NetworkEntry → List (Bytes × NetworkValue)
by_name hs = map_.entries (map_.from_entries {R = slice_cmp nat_cmp} (map (λ h. (h.name, h.network)) hs))

-- the networks that the tenant of this id sees
abbrev pub seen_by : Tables → ℕ → List (Bytes × NetworkValue)
seen_by t tenant = map_.entries (view_at (register_of t) tenant).networks
