-- What a call that only reads returns and leaves.
use Rattle.std.specs.Prelude.{◌≡◌, true, IsTrue, List, [], ◌∷◌, ℕ, ⊤}
use Rattle.sqlite_value.specs.Order.{Row}
use Rattle.sqlite.specs.State.{State, HasCleanDisk, Shown}
use Rattle.sqlite.specs.Store.{Ghosts}
use Rattle.sqlite.specs.Held.{Held, state}

-- if the connection is open after the call, it was open before, and the database is unchanged
abbrev pub IsKept : State → State → Type 0
IsKept old new = HasCleanDisk new → IsTrue new.is_open → IsTrue old.is_open × (new.now ≡ old.now)

-- the rows are an answer to the query
pub record Answered {S : Type 0} (g : Ghosts S) (sql : List ℕ) (params : Row) (old : Held S) (rows : List Row) : Type 0 where
  pub after : Held S
  pub was_open : IsTrue (state g old).is_open
  pub shown : Shown sql params (state g (record old { in_transaction = true })) (state g after) rows

-- more than one row
abbrev pub AreMany : List Row → Type 0
AreMany [] = ⊥
AreMany (row ∷ []) = ⊥
AreMany (row ∷ next ∷ more) = ⊤
