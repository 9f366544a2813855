-- A token's row and its row among those that only read, written one after the other.
use Rattle.std.proofs.Common.{◌≡◌, ◌⊎◌, ◌==◌, ℕ, Bool, true, false, List, [], ◌∷◌, IsTrue, Ok, Err, Result, IsErrAnd, OnOk, inl, inr, refl, ap, subst, arith}
use Rattle.std.specs.Bool.{⊤}
use Rattle.std.proofs.lemmas.Bool.Decides.{nat_tests}
use Rattle.std.proofs.lemmas.List.Sorted.{IsPermutation-refl}
use Rattle.sqlite.specs.State.{HasCleanDisk, KeepsCommit, Shows, State, Survives}
use Rattle.wgr_model.specs.declared.right.Right.TheVariants.{Full, Read}
use Rattle.wgr_model.specs.Register.{Bytes, Token}
use Rattle.wgr_model.specs.Rows.{MetaRow, Tables, third_version}
use Rattle.wgr_sql.specs.Causes.{HasCauseOr}
use Rattle.wgr_sql.specs.Steps.{Then}
use Rattle.wgr_sql.specs.declared.fault.Fault.{Fault}
use Rattle.wgr_sql.specs.declared.fault.Fault.TheVariants.{NoMemory, Store}
use Rattle.wgr_sql.proofs.CauseLemmas.{cause_weaker}
use Rattle.wgr_sql.proofs.StepLemmas.{chain_ends, from_step, steps_then}
use Rattle.wgr_columns.specs.Decode.{IsRegister, tables_of}
use Rattle.wgr_tables.specs.Standing.{StepsAs, StepsOn}
use Rattle.wgr_tables.specs.Stops.{FailsBy, OneOfTwo}
use Rattle.wgr_tables.specs.Writes.{Changes, TokenComes, TokenGoes, Written, WritesAs}
use Rattle.wgr_tables.proofs.StopLemmas.{first_fails, hands_on, second_fails}
use Rattle.wgr_entries.specs.OrderSteps.{TokenRowComes, TokenRowGoes}
use Rattle.wgr_entries.specs.Readers.{ReaderComes, ReaderGoes}
use Rattle.wgr_entries.specs.ThirdVersion.{FailsOnThird, IsThird, IsThirdRegister, StepsAnyhow, StepsOnThird}

-- ---- rows

pub comes_to_read : (token : Token) (t u : Tables) → Then (ReaderComes token.digest) (TokenRowComes token) t u → TokenComes token Read t u
comes_to_read token t u (m, reader, row) =
    let it : TokenRowComes token (record t { readers = reader.0 }) u = subst (λ x. TokenRowComes token x u) reader.2 row in
    (it.0, reader.0, it.1, reader.1, it.2)

pub comes_to_all : (token : Token) (t u : Tables) → TokenRowComes token t u → TokenComes token Full t u
comes_to_all token t u row = (row.0, t.readers, row.1, IsPermutation-refl t.readers, row.2)

pub goes_whole : (digest : Bytes) (t u : Tables) → Then (ReaderGoes digest) (TokenRowGoes digest) t u → TokenGoes digest t u
goes_whole digest t u (m, reader, row) = subst (λ x. TokenRowGoes digest x u) reader row

-- ---- the third version, or another

is_version : (n : ℕ) (b : Bool) → (n == 3) ≡ b → (n ≡ 3) ⊎ (n ≡ 3 → ⊥)
is_version n true is = inl (grind (arith, nat_tests))
is_version n false is = inr (λ same. grind (arith, nat_tests))

third_or_not : (rows : List MetaRow) → (rows ≡ third_version) ⊎ (rows ≡ third_version → ⊥)
third_or_not [] = inr (λ same. absurd cc)
third_or_not (row ∷ []) = elim (is_version row.version (row.version == 3) refl) [
  | inl same ↦ inl (ap (λ (n : ℕ). record { version = n } ∷ []) same)
  | inr other ↦ inr (λ same. let only : row ≡ record { version = 3 } = cc in other (ap (λ (r : MetaRow). r.version) only))
]
third_or_not (row ∷ next ∷ more) = inr (λ same. absurd cc)

-- ---- steps

-- a step on rows of the third version is one of the register
module _ (P : Tables → Tables → Type 0) (a b : State) (start : IsTrue a.is_open → IsThirdRegister a.now) where
  pub as_step : {X : Type 0} (r : Result X Fault) → StepsOnThird {E = Fault} P a b r → StepsOn P a b r
  as_step (Ok x) step inside register = let it = step inside start in (it.0, (record { sound = it.1.0.sound.register; schema = it.1.0.schema; made = it.1.0.made }, it.1.1))
  as_step (Err e) step inside register = ((step inside start).0, tt)

-- such a step, and one on the other rows
module _ (P Q : Tables → Tables → Type 0) (writes : Tables → Written → Type 0) (third : (t : Tables) (one : Written) → writes t one → IsThird t) (does : (t u : Tables) (one : Written) → Then P Q t u → writes t one → Changes one t u) (a b c : State) (x : ℕ)
    (before : StepsAnyhow {E = Fault} a b (Ok x)) (first : StepsOnThird {E = Fault} P a b (Ok x)) where
  pub steps_to : (r : Result ℕ Fault) → StepsAnyhow b c r → StepsOn Q b c r → StepsAs writes a c r
  steps_to r after next inside register = go r next (chain_ends (λ _. ⊤) {X = ℕ} {Y = ℕ} {E = Fault} (λ _ _. ⊤) (λ _ _. ⊤) (λ _ _. ⊤) a b c x r (λ _ _ _ _ _. tt) (λ _ _ _. tt) (from_step (λ _. ⊤) {X = ℕ} {E = Fault} (λ _ _. ⊤) a b (Ok x) before) after inside (λ _. tt))
    where
      go : (s : Result ℕ Fault) → StepsOn Q b c s → KeepsCommit a c × OnOk s (⊤ × Shows a c c.now a.committed true) → KeepsCommit a c × OnOk s (WritesAs writes a.now c.now × Shows a c c.now a.committed true)
      go (Err e) later any = (any.0, tt)
      go (Ok y) later any = (
        any.0,
        (
          λ one told.
              let start : IsTrue a.is_open → IsThirdRegister a.now = λ live. record { register = register live; third = third (tables_of a.now) one told } in
              let made = (steps_then IsRegister tables_of {X = ℕ} {Y = ℕ} Fault P Q a b c x (Ok y) (as_step P a b start {X = ℕ} (Ok x) first) later inside register).1.0 in
              record { sound = made.sound; schema = made.schema; made = does (tables_of a.now) (tables_of c.now) one made.made told },
          any.1.1,
        ),
      )

-- ---- failures

-- what is known of a failure on rows of the third version
pub fails_third : (stops : Tables → Type 0) (a c : State) (r : Result ℕ Fault) → ((IsTrue a.is_open → IsThirdRegister a.now) → FailsBy stops a c r) → FailsBy (λ t. IsThird t → stops t) a c r
fails_third stops a c (Ok y) fails inside register = tt
fails_third stops a c (Err f) fails inside register = elim (third_or_not (tables_of a.now).meta) [
  | inl third ↦ cause_weaker (stops (tables_of a.now)) (IsThird (tables_of a.now) → stops (tables_of a.now)) a c (λ stop _. stop) f (fails (λ live. record { register = register live; third = third }) inside register)
  | inr other ↦ cause_weaker ⊤ (IsThird (tables_of a.now) → stops (tables_of a.now)) a c (λ _ third. absurd (other third)) f (anyhow f)
]
  where
    anyhow : (g : Fault) → HasCauseOr ⊤ a c g
    anyhow NoMemory = tt
    anyhow (Store w) = λ _. inr tt

module _ (first : Tables → Type 0) (step : Tables → Tables → Type 0) (second : Tables → Type 0) where
  -- the first of two steps failed, and its fault is handed on
  pub first_stops : (a c : State) (r : Result ℕ Fault) (why : Fault) → IsErrAnd r (λ e. e ≡ why) → FailsOnThird {X = ℕ} first a c (Err why) → FailsBy (λ t. IsThird t → OneOfTwo first step second t) a c r
  first_stops a c r why is fails =
      hands_on (λ t. IsThird t → OneOfTwo first step second t) a c r why is
      (fails_third (OneOfTwo first step second) a c (Err why) (λ start. first_fails first step second a a c why (λ inside _. fails inside start)))

  -- or the second did
  pub second_stops : (a b c : State) (x : ℕ) (r : Result ℕ Fault) → (HasCleanDisk b → StepsOnThird {X = ℕ} {E = Fault} step a b (Ok x)) → Survives a b (λ _. ⊥) → Survives b c (λ _. ⊥) → FailsBy second b c r
      → FailsBy (λ t. IsThird t → OneOfTwo first step second t) a c r
  second_stops a b c x r done s t fails = fails_third (OneOfTwo first step second) a c r (λ start. second_fails first step second a b c x r (λ clean. as_step step a b start {X = ℕ} (Ok x) (done clean)) s t fails)
