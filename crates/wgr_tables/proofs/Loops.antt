-- A loop that makes one step of a transaction for each item of a list.
use Rattle.std.proofs.Common.{◌≡◌, ◌+◌, ◌<◌, ℕ, List, [], ◌∷◌, ◌++◌, length, get_or, take, Ok, Err, Result, IsErrAnd, sym, ap, subst, ◌∙◌, arith}
use Rattle.std.proofs.lemmas.List.{take_more}
use Rattle.sqlite.specs.State.{State, HasCleanDisk, Survives}
use Rattle.wgr_model.specs.Rows.{Tables}
use Rattle.wgr_sql.specs.Steps.{Each}
use Rattle.wgr_sql.specs.declared.fault.Fault.{Fault}
use Rattle.wgr_sql.proofs.StepLemmas.{loop_more}
use Rattle.wgr_sql.proofs.SurvivesLemmas.{survives_next}
use Rattle.wgr_columns.specs.Decode.{IsRegister, tables_of}
use Rattle.wgr_tables.specs.Standing.{StepsFrom, StepsOn}
use Rattle.wgr_tables.specs.Stops.{FailsBy, OneOfEach}
use Rattle.wgr_tables.proofs.StopLemmas.{hands_on, loop_fails}

-- the step was made for each of the first items
abbrev pub HasDone : {X : Type 0} → (X → Tables → Tables → Type 0) → List X → ℕ → State → State → Type 0
HasDone step xs at old now = Survives old now (λ _. ⊥) × (HasCleanDisk now → StepsFrom {X = ℕ} {E = Fault} (Each step (take at xs)) old now (Ok 0))

-- the item of a loop is the next one of the list
pub taken : {X : Type 0} (xs : List X) (at : ℕ) (x : X) → at < length xs → x ≡ get_or xs at x → take (at + 1) xs ≡ take at xs ++ x ∷ []
taken xs at x below is = take_more xs at x below ∙ ap (λ y. take at xs ++ y ∷ []) (sym is)

module _ {X : Type 0} (step : X → Tables → Tables → Type 0) (xs : List X) (at : ℕ) (x : X) (more : take (at + 1) xs ≡ take at xs ++ x ∷ []) (start before after : State) (done : HasDone step xs at start before) (next : Survives before after (λ _. ⊥)) where
  -- its step was made
  pub one_more : (count : ℕ) → (HasCleanDisk after → StepsOn {X = ℕ} {E = Fault} (step x) before after (Ok count)) → HasDone step xs (at + 1) start after
  one_more count made = (
    survives_next start before after done.0 next,
    λ clean.
        let was : HasCleanDisk before = omega (arith, next.clean, clean) in
        subst (λ l. StepsFrom {X = ℕ} {E = Fault} (Each step l) start after (Ok 0)) (sym more) (loop_more IsRegister tables_of Fault step (take at xs) x start before after count (done.1 was) (made clean)),
  )

  -- its step failed, and the fault is handed on
  pub item_hands_on : {Y : Type 0} (stops : X → Tables → Type 0) (r : Result Y Fault) (why : Fault) → IsErrAnd r (λ e. e ≡ why) → FailsBy {X = ℕ} (stops x) before after (Err why) → FailsBy (OneOfEach step stops xs) start after r
  item_hands_on stops r why is fails = hands_on (OneOfEach step stops xs) start after r why is (loop_fails step stops xs at x more start before after (Err why) done.1 done.0 next fails)
