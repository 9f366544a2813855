-- Why a step of a transaction on a register's rows fails.
use Rattle.std.proofs.Common.{◌≡◌, ◌⊎◌, ◌+◌, ℕ, List, [], ◌∷◌, ◌++◌, take, drop, Bool, append_assoc, true, false, IsTrue, Option, Some, None, IsSome, Ok, Err, Result, IfErr, IsErrAnd, inl, inr, refl, sym, ap, subst, ◌∙◌, arith}
use Rattle.std.proofs.lemmas.List.{take-append-drop}
use Rattle.sqlite.specs.declared.types.Value.{Value}
use Rattle.sqlite.specs.Order.{Row}
use Rattle.sqlite.specs.Listing.{understood}
use Rattle.sqlite.specs.State.{State, HasCleanDisk, Survives}
use Rattle.sqlite_tied.specs.Compute.{everything}
use Rattle.wgr_model.specs.Rows.{Tables}
use Rattle.wgr_sql.specs.Causes.{HasCauseOr, IsHindered, IsWriting, Refuses}
use Rattle.wgr_sql.specs.Steps.{Each}
use Rattle.wgr_sql.specs.declared.fault.Fault.{Fault}
use Rattle.wgr_sql.specs.declared.fault.Fault.TheVariants.{NoMemory, Store}
use Rattle.wgr_sql.proofs.CauseLemmas.{hindered_after, cause_weaker, handed}
use Rattle.wgr_sql.proofs.StepLemmas.{from_step}
use Rattle.wgr_columns.specs.Decode.{IsRegister, tables_of}
use Rattle.wgr_columns.specs.Layout.{Others, schema_with}
use Rattle.wgr_tables.specs.Standing.{StepsAs, StepsFrom, StepsOn}
use Rattle.wgr_tables.specs.Stops.{FailsBy, IsStatementRefused, OneOfEach, OneOfTwo}
use Rattle.wgr_tables.specs.Writes.{Written}
use Rattle.wgr_tables.proofs.Made.{Made}
use Rattle.wgr_tables.proofs.Meanings.{drop_peer_text, drop_allowed_text, drop_address_text, drop_peer_range_text, drop_address_range_text, drop_route_text, insert_peer_text, insert_address_text, insert_route_text, set_next_text}

-- ---- one statement

module _ (others : Others) where
  pub drop_peer_writes : (a b : Value) → IsWriting (schema_with others) drop_peer_text (a ∷ b ∷ [])
  unfolding understood everything
  drop_peer_writes a b = record { given = (refl, refl, omega arith, refl); plain = (tt, refl) }

  pub drop_allowed_writes : (a b : Value) → IsWriting (schema_with others) drop_allowed_text (a ∷ b ∷ [])
  unfolding understood everything
  drop_allowed_writes a b = record { given = (refl, refl, omega arith, refl); plain = (tt, refl) }

  pub drop_address_writes : (a b : Value) → IsWriting (schema_with others) drop_address_text (a ∷ b ∷ [])
  unfolding understood everything
  drop_address_writes a b = record { given = (refl, refl, omega arith, refl); plain = (tt, refl) }

  pub drop_peer_range_writes : (a b c : Value) → IsWriting (schema_with others) drop_peer_range_text (a ∷ b ∷ c ∷ [])
  unfolding understood everything
  drop_peer_range_writes a b c = record { given = (refl, refl, omega arith, refl); plain = (tt, refl) }

  pub drop_address_range_writes : (a b c : Value) → IsWriting (schema_with others) drop_address_range_text (a ∷ b ∷ c ∷ [])
  unfolding understood everything
  drop_address_range_writes a b c = record { given = (refl, refl, omega arith, refl); plain = (tt, refl) }

  pub drop_route_writes : (a b c d : Value) → IsWriting (schema_with others) drop_route_text (a ∷ b ∷ c ∷ d ∷ [])
  unfolding understood everything
  drop_route_writes a b c d = record { given = (refl, refl, omega arith, refl); plain = (tt, refl) }

  pub set_next_writes : (a b : Value) → IsWriting (schema_with others) set_next_text (a ∷ b ∷ [])
  unfolding understood everything
  set_next_writes a b = record { given = (refl, refl, omega arith, refl); plain = (tt, refl) }

  pub insert_peer_writes : (a b c d e f h i j : Value) → IsWriting (schema_with others) insert_peer_text (a ∷ b ∷ c ∷ d ∷ e ∷ f ∷ h ∷ i ∷ j ∷ [])
  unfolding understood everything
  insert_peer_writes a b c d e f h i j = record { given = (refl, refl, omega arith, refl); plain = (tt, refl) }

  pub insert_address_writes : (a b c d e f : Value) → IsWriting (schema_with others) insert_address_text (a ∷ b ∷ c ∷ d ∷ e ∷ f ∷ [])
  unfolding understood everything
  insert_address_writes a b c d e f = record { given = (refl, refl, omega arith, refl); plain = (tt, refl) }

  pub insert_route_writes : (a b c d e f : Value) → IsWriting (schema_with others) insert_route_text (a ∷ b ∷ c ∷ d ∷ e ∷ f ∷ [])
  unfolding understood everything
  insert_route_writes a b c d e f = record { given = (refl, refl, omega arith, refl); plain = (tt, refl) }

module _ (old new : State) (register : IsTrue old.is_open → IsRegister old.now) (text : List ℕ) (params : Row) where
  refused_at : Refuses old.step_limit old.now text params → IsHindered old new ⊎ IsStatementRefused text params (tables_of old.now)
  refused_at refuses = go old.is_open refl old.step_limit refl
    where
      go : (b : Bool) → old.is_open ≡ b → (limit : Option ℕ) → old.step_limit ≡ limit → IsHindered old new ⊎ IsStatementRefused text params (tables_of old.now)
      go false shut limit is = inl (inr (inl shut))
      go true live (Some n) is = inl (inr (inr (subst IsSome (sym is) refl)))
      go true live None is = inr (old.now, register live, refl, subst (λ l. Refuses l old.now text params) is refuses)

  refused_so : (f : Fault) → HasCauseOr (Refuses old.step_limit old.now text params) old new f → HasCauseOr (IsStatementRefused text params (tables_of old.now)) old new f
  refused_so NoMemory h = tt
  refused_so (Store w) h = λ clean. elim (h clean) [ inl hindered ↦ inl hindered | inr refuses ↦ refused_at refuses ]

  here : ((others : Others) → IsWriting (schema_with others) text params) → IsTrue old.is_open → IsWriting old.now.schema text params
  here writes live = let it = register live in subst (λ s. IsWriting s text params) (sym it.schema_is) (writes it.others)

-- a statement that fails
pub written_fails : (old new : State) (text : List ℕ) (params : Row) (r : Result ℕ Fault) → ((others : Others) → IsWriting (schema_with others) text params)
    → (IsTrue old.in_transaction → (IsTrue old.is_open → HasCleanDisk new → IsWriting old.now.schema text params) → IfErr r (HasCauseOr (Refuses old.step_limit old.now text params) old new)) → FailsBy (IsStatementRefused text params) old new r
written_fails old new text params (Ok count) writes cause inside register = tt
written_fails old new text params (Err f) writes cause inside register = refused_so old new register text params f (cause inside (λ live clean. here old new register text params writes live))

-- ---- steps one after the other

module _ (first : Tables → Type 0) (step : Tables → Tables → Type 0) (second : Tables → Type 0) (a b c : State) where
  -- the first failed, and nothing came after it
  pub first_fails : (f : Fault) → FailsBy {X = ℕ} first a c (Err f) → FailsBy {X = ℕ} (OneOfTwo first step second) a c (Err f)
  first_fails f fails inside register = cause_weaker (first (tables_of a.now)) (OneOfTwo first step second (tables_of a.now)) a c inl f (fails inside register)

  pub next_fails : {X Y : Type 0} (x : X) (r : Result Y Fault) → (HasCleanDisk b → StepsFrom {X = X} {E = Fault} step a b (Ok x)) → Survives a b (λ _. ⊥) → Survives b c (λ _. ⊥) → FailsBy second b c r → FailsBy (OneOfTwo first step second) a c r
  next_fails x (Ok y) done s t fails inside register = tt
  next_fails x (Err NoMemory) done s t fails inside register = tt
  next_fails {X} x (Err (Store w)) done s t fails inside register = λ clean. go clean a.is_open refl
    where
      go : HasCleanDisk c → (live : Bool) → a.is_open ≡ live → IsHindered a c ⊎ OneOfTwo first step second (tables_of a.now)
      go clean false shut = inl (inr (inl shut))
      go clean true live =
          let before : HasCleanDisk b = omega (arith, t.clean, clean) in
          let it = done before inside register in
          let made = (it.1.1 live).0 in
          elim (fails it.1.0 (λ _. made.sound) clean) [
            | inl hindered ↦ inl (hindered_after a b c (λ _. ⊥) s before t.counts hindered)
            | inr stops ↦ inr (inr (tables_of b.now, made.made, stops))
          ]

  -- the same where the first is one statement
  pub second_fails : {Y : Type 0} (count : ℕ) (r : Result Y Fault) → (HasCleanDisk b → StepsOn {X = ℕ} {E = Fault} step a b (Ok count)) → Survives a b (λ _. ⊥) → Survives b c (λ _. ⊥) → FailsBy second b c r → FailsBy (OneOfTwo first step second) a c r
  second_fails count r done = next_fails count r (λ clean. from_step IsRegister {X = ℕ} {E = Fault} (Made step) a b (Ok count) (done clean))

pub weaker_fails : {X : Type 0} (one other : Tables → Type 0) (a c : State) (r : Result X Fault) → ((t : Tables) → one t → other t) → FailsBy one a c r → FailsBy other a c r
weaker_fails one other a c (Ok x) tells fails inside register = tt
weaker_fails one other a c (Err f) tells fails inside register = cause_weaker (one (tables_of a.now)) (other (tables_of a.now)) a c (tells (tables_of a.now)) f (fails inside register)

-- the fault of a part is handed on
pub hands_on : {X : Type 0} (stops : Tables → Type 0) (a c : State) (r : Result X Fault) (why : Fault) → IsErrAnd r (λ e. e ≡ why) → FailsBy {X = ℕ} stops a c (Err why) → FailsBy stops a c r
hands_on stops a c r why is fails inside register = handed (HasCauseOr (stops (tables_of a.now)) a c) r why is (fails inside register)

-- the fault of the first of two steps is handed on
pub first_hands_on : {X : Type 0} (first : Tables → Type 0) (step : Tables → Tables → Type 0) (second : Tables → Type 0) (a c : State) (r : Result X Fault) (why : Fault) → IsErrAnd r (λ e. e ≡ why) → FailsBy {X = ℕ} first a c (Err why)
    → FailsBy (OneOfTwo first step second) a c r
first_hands_on first step second a c r why is fails = hands_on (OneOfTwo first step second) a c r why is (first_fails first step second a a c why fails)

-- ---- loops

stops_after : {X : Type 0} (step : X → Tables → Tables → Type 0) (stops : X → Tables → Type 0) (xs rest : List X) (x : X) (t u : Tables) → Each step xs t u → stops x u → OneOfEach step stops (xs ++ x ∷ rest) t
stops_after step stops [] rest x t u same here = inl (subst (stops x) (sym same) here)
stops_after step stops (y ∷ xs) rest x t u done here = inr (done.0, done.1, stops_after step stops xs rest x done.0 u done.2 here)

parted_at : {X : Type 0} (xs : List X) (at : ℕ) (x : X) → take (at + 1) xs ≡ take at xs ++ x ∷ [] → take at xs ++ x ∷ drop (at + 1) xs ≡ xs
parted_at xs at x more = sym (append_assoc (take at xs) (x ∷ []) (drop (at + 1) xs)) ∙ ap (λ l. l ++ drop (at + 1) xs) (sym more) ∙ take-append-drop (at + 1) xs

pub loop_fails : {X : Type 0} (step : X → Tables → Tables → Type 0) (stops : X → Tables → Type 0) (xs : List X) (at : ℕ) (x : X) → take (at + 1) xs ≡ take at xs ++ x ∷ [] → (a b c : State) (r : Result ℕ Fault)
    → (HasCleanDisk b → StepsFrom {X = ℕ} {E = Fault} (Each step (take at xs)) a b (Ok 0)) → Survives a b (λ _. ⊥) → Survives b c (λ _. ⊥) → FailsBy (stops x) b c r → FailsBy (OneOfEach step stops xs) a c r
loop_fails step stops xs at x more a b c r done s t fails =
    weaker_fails (OneOfTwo (λ _. ⊥) (Each step (take at xs)) (stops x)) (OneOfEach step stops xs) a c r
    (λ t' stop. elim stop [ inl none ↦ absurd none | inr (u, made, stays) ↦ subst (λ l. OneOfEach step stops l t') (parted_at xs at x more) (stops_after step stops (take at xs) (drop (at + 1) xs) x t' u made stays) ])
    (next_fails (λ _. ⊥) (Each step (take at xs)) (stops x) a b c {X = ℕ} {Y = ℕ} 0 r done s t fails)

-- ---- a step that failed, as it is handed on

pub failed_step : {Y : Type 0} (Q : Tables → Tables → Type 0) (writes : Tables → Written → Type 0) (a c : State) (r : Result Y Fault) (why : Fault) → IsErrAnd r (λ e. e ≡ why) → StepsFrom {X = ℕ} {E = Fault} Q a c (Err why) → StepsAs {X = Y} {E = Fault} writes a c r
failed_step Q writes a c (Ok y) why is step inside start = absurd is
failed_step Q writes a c (Err e) why is step inside start = ((step inside start).0, tt)
