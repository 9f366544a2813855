-- What a reading of one network's rows says of the network that they form.
use Rattle.std.specs.Prelude.{◌≡◌, ℕ, List}
use Rattle.sqlite.specs.Effect.{Database}
use Rattle.sqlite.specs.Store.{Ghosts}
use Rattle.sqlite.specs.Held.{Held}
use Rattle.wgr_core.specs.Network.{NetworkValue}
use Rattle.wgr_model.specs.Laws.{Has}
use Rattle.wgr_model.specs.RowLaws.{AreConsistent}
use Rattle.wgr_model.specs.Rows.{NetworkRow, network_entry_of}
use Rattle.wgr_columns.specs.Decode.{tables_of}
use Rattle.wgr_tables.specs.Writes.{Written}
use Rattle.wgr_tables.specs.Standing.{Stands}

-- this holds for the network that the rows of this id form, where the register stands and its rows are consistent
abbrev pub OnNetwork : {S : Type 0} → Ghosts S → Held S → ℕ → (NetworkValue → Type 0) → Type 0
OnNetwork g conn network P = (db : Database) (pending : List Written) (w : NetworkRow) → Stands g conn db pending → AreConsistent (tables_of db) → Has (tables_of db).networks w → w.id ≡ network → P (network_entry_of (tables_of db) w).network
