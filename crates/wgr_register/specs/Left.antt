-- What a stop leaves of a register in a database.
use Rattle.std.specs.Prelude.{◌≡◌, List}
use Rattle.sqlite.specs.Effect.{Database}
use Rattle.sqlite.specs.Held.{Held, state}
use Rattle.sqlite.specs.State.{HasCleanDisk}
use Rattle.sqlite.specs.Store.{Ghosts}
use Rattle.sqlite.specs.Tree.{Trees}
use Rattle.wgr_model.specs.Steps.{Event}
use Rattle.wgr_model.specs.Stops.{IsLeft}
use Rattle.wgr_register.specs.Standing.{StandsAt}
use Rattle.wgr_columns.specs.Decode.{tables_of}
use Rattle.wgr_opening.specs.Good.{IsGood}

-- these are the trees of a good register whose rows a stop leaves
abbrev pub LeavesRegister : Database → List Event → Trees → Type 0
LeavesRegister db late trees = (next : Database) × IsGood next × IsLeft (tables_of db) late (tables_of next) × (trees ≡ next.trees)

-- whatever a stop at this moment may leave is such a register
abbrev pub LeavesGood : {S : Type 0} → Ghosts S → Held S → Database → List Event → Type 0
LeavesGood g conn db late = StandsAt g conn db late → HasCleanDisk (state g conn) → (trees : Trees) → (state g conn).may_leave trees → LeavesRegister db late trees
