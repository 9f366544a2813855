-- Steps of a transaction on a good database; each program defines what good means.
use Rattle.std.specs.Prelude.{◌≡◌, true, IsTrue, Result, OnOk, List, [], ◌∷◌}
use Rattle.sqlite.specs.Effect.{Database}
use Rattle.sqlite.specs.State.{State, KeepsCommit, Shows}

-- A step of a transaction changes a good database as `P` says, or fails; in any case it commits
-- nothing. The premise also holds for a shut store: nothing is known of what it shows.
abbrev pub StepsOn : {X E : Type 0} → (Database → Type 0) → (Database → Database → Type 0) → State → State → Result X E → Type 0
StepsOn good P old new r = IsTrue old.in_transaction → (IsTrue old.is_open → good old.now) → KeepsCommit old new × OnOk r (P old.now new.now × Shows old new new.now old.committed true)

-- The same for a chain of steps, which may be empty and so may succeed on a shut store: its effect
-- is stated only if the store was open.
abbrev pub StepsFrom : {X E : Type 0} → (Database → Type 0) → (Database → Database → Type 0) → State → State → Result X E → Type 0
StepsFrom good P old new r = IsTrue old.in_transaction → (IsTrue old.is_open → good old.now) → KeepsCommit old new
    × OnOk r ((new.in_transaction ≡ true) × (IsTrue old.is_open → P old.now new.now × Shows old new new.now old.committed true))

-- The new database is good too and has the same schema, and `P` relates what a program reads in the old
-- one and in the new one.
pub record Makes {T : Type 0} (good : Database → Type 0) (view : Database → T) (P : T → T → Type 0) (old new : Database) : Type 0 where
  pub sound : good new
  pub schema : new.schema ≡ old.schema
  pub made : P (view old) (view new)

abbrev pub Then : {T : Type 0} → (T → T → Type 0) → (T → T → Type 0) → T → T → Type 0
Then {T} P Q t u = (m : T) × P t m × Q m u

-- a step for each element, one after the other
abbrev pub Each : {T X : Type 0} → (X → T → T → Type 0) → List X → T → T → Type 0
Each step [] t u = t ≡ u
Each {T} step (x ∷ xs) t u = (m : T) × step x t m × Each step xs m u
