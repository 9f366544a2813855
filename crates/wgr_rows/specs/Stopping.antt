-- Why a reading of holding rows stops.
use Rattle.std.specs.Prelude.{◌≡◌, ◌⊎◌, ℕ, IsTrue}
use Rattle.sqlite.specs.Store.{Ghosts}
use Rattle.sqlite.specs.Held.{Held, state}
use Rattle.sqlite.specs.State.{State, HasCleanDisk}
use Rattle.wgr_text.specs.Prefix.{PrefixValue}
use Rattle.wgr_pool.specs.declared.allot.Stop.{Stop}
use Rattle.wgr_pool.specs.declared.allot.Stop.TheVariants as stop
use Rattle.wgr_model.specs.Laws.{Has}
use Rattle.wgr_model.specs.RowLaws.{AreConsistent}
use Rattle.wgr_model.specs.Rows.{NetworkRow, Tables}
use Rattle.wgr_sql.specs.Causes.{HasCause}
use Rattle.wgr_sql.specs.declared.fault.Fault.{Fault}
use Rattle.wgr_sql.specs.declared.fault.Fault.TheVariants as fault
use Rattle.wgr_columns.specs.Decode.{IsRegister, tables_of}
use Rattle.wgr_rows.specs.Staying.{IsQuiet, Stays}
use Rattle.wgr_rows.specs.declared.progress.Progress.{Progress}
use Rattle.wgr_rows.specs.declared.progress.Progress.TheVariants.{Running, Done, Stopped}

-- what a source says of a fault
abbrev pub stop_of : Fault → Stop
stop_of fault.NoMemory = stop.NoMemory
stop_of (fault.Store cause) = stop.Source

-- the reading has stopped for a fault, of which the source says this
abbrev pub StopsAs : Progress → Stop → Type 0
StopsAs Running why = ⊥
StopsAs Done why = ⊥
StopsAs (Stopped f) why = why ≡ stop_of f

-- the rows are consistent, and the network of this id has this pool
pub record HavePool (t : Tables) (network : ℕ) (pool : PrefixValue) : Type 0 where
  pub consistent : AreConsistent t
  pub row : NetworkRow
  pub there : Has t.networks row
  pub id_is : row.id ≡ network
  pub pool_is : row.pool ≡ pool

-- what an open connection shows was committed, and are the rows of a register that has the network
abbrev pub IsSound : ℕ → PrefixValue → State → Type 0
IsSound network pool s = IsQuiet s × (IsTrue s.is_open → IsRegister s.now × HavePool (tables_of s.now) network pool)

-- a reading that has stopped since had a cause, if the rows were sound
abbrev pub Blames : ℕ → PrefixValue → State → Progress → State → Progress → Type 0
Blames network pool old at new end = (f : Fault) → end ≡ Stopped f → (at ≡ Stopped f) ⊎ ((HasCleanDisk new → IsSound network pool old) → HasCause old new f)

-- what a call of a reading leaves as it was, and why the reading stopped if it did
abbrev pub Leaves : {S : Type 0} → Ghosts S → Held S → ℕ → PrefixValue → Progress → Held S → ℕ → PrefixValue → Progress → Type 0
Leaves g old network pool at new network' pool' end = (network' ≡ network) × (pool' ≡ pool) × Stays g old new × Blames network pool (state g old) at (state g new) end
