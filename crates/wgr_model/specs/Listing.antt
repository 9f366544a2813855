-- A tenant's networks by name, as a list in the order of the names.
use Rattle.std.specs.Prelude.{◌≡◌, ℕ, List}
use Rattle.std.specs.Ordering.{nat_cmp}
use Rattle.std.specs.Cmp.Lexicographic.{slice_cmp}
use Rattle.std.specs.FinMap as map_
use Rattle.std.specs.FinMap.Entries.{put}
use Rattle.wgr_core.specs.Network.{NetworkValue}
use Rattle.wgr_model.specs.Register.{Bytes, NetworkEntry, networks_of}

abbrev pub Entries : Type 0
Entries = List (Bytes × NetworkValue)

-- the entries are those of the tenant's map
abbrev pub EntriesOf : List NetworkEntry → ℕ → Entries → Type 0
EntriesOf hs id entries = entries ≡ map_.entries (map_.from_entries {R = slice_cmp nat_cmp} (networks_of hs id))

abbrev pub put_entry : Bytes → NetworkValue → Entries → Entries
put_entry name n entries = put (slice_cmp nat_cmp) name n entries
