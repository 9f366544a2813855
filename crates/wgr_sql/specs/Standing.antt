-- Which database a connection is at, whether its store is open or was shut by a fault.
use Rattle.std.specs.Prelude.{◌≡◌, ◌⊎◌, false, IsTrue, List}
use Rattle.sqlite_rules.specs.Lists.{Has}
use Rattle.sqlite.specs.Tree.{Trees}
use Rattle.sqlite.specs.Effect.{Database}
use Rattle.sqlite.specs.State.{HasCleanDisk}
use Rattle.sqlite.specs.Store.{Ghosts}
use Rattle.sqlite.specs.Held.{Held, state}

-- the rows after one of these writes
abbrev pub IsOneOf : {W : Type 0} → (W → Database → Database → Type 0) → Database → List W → Trees → Type 0
IsOneOf {W} writes db pending trees = (one : W) × Has pending one × (next : Database) × writes one db next × (trees ≡ next.trees)

-- The connection is at this good database, in no transaction; while open, it shows this database. A stop
-- at this moment leaves its rows, or those after one of the pending writes: the ones that returned
-- a fault since the last acknowledged write.
pub record Stands {S W : Type 0} (good : Database → Type 0) (writes : W → Database → Database → Type 0) (g : Ghosts S) (conn : Held S) (db : Database) (pending : List W) : Type 0 where
  pub idle : conn.in_transaction ≡ false
  pub sound : good db
  pub shows : HasCleanDisk (state g conn) → IsTrue (state g conn).is_open → (state g conn).now ≡ db
  pub leaves : HasCleanDisk (state g conn) → (trees : Trees) → (state g conn).may_leave trees → (trees ≡ db.trees) ⊎ IsOneOf writes db pending trees
