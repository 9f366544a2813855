-- Causes of faults, along chains of calls.
use Rattle.std.proofs.Common.{◌≡◌, ◌↔◌, ◌⊎◌, ◌≤◌, ℕ, inl, inr, Bool, true, false, List, Some, None, IsSome, Ok, Err, Result, IfErr, IsErrAnd, OnErr, MatchResult, IsTrue, append-nil, refl, sym, ap, subst, ◌∙◌, arith, true≢false}
use Rattle.sqlite_disk.specs.Disk.{MoreFaults}
use Rattle.sqlite.specs.Order.{Row}
use Rattle.sqlite.specs.Tree.{Trees}
use Rattle.sqlite_trees.specs.declared.error.StoreError.TheVariants as why
use Rattle.sqlite_resolve.specs.declared.compiled.Compiled.{Compiled}
use Rattle.sqlite_schema.specs.declared.command.Command.{Command}
use Rattle.sqlite.specs.declared.error.Error.{Error}
use Rattle.sqlite.specs.declared.error.Error.TheVariants.{SqliteFailure}
use Rattle.sqlite.specs.declared.error.ErrorCode.TheVariants.{OutOfMemory}
use Rattle.sqlite.specs.Calls.{IsWrite}
use Rattle.sqlite.specs.Clock.{timed}
use Rattle.sqlite.specs.Effect.{Database, RefusesToRead}
use Rattle.sqlite.specs.Listing.{understood, IsSourceOf}
use Rattle.sqlite.specs.Steps.{FailsToCommit}
use Rattle.sqlite.specs.State.{State, HasCleanDisk, Survives, Fails, IsNoStatement, IsNotRun, IsMisplaced, FailsToQuery, FailsToShow, IsTooLate, RunsCommand, ExecutesIn, ExecutesInside, EndsScope, Escapes}
use Rattle.wgr_sql.specs.Causes.{IsHindered, HasCause, HasCauseOr, IsOneStatement, AsksPlainly, IsAnswered, WritesPlainly, IsWriting, Refuses, RefusesAs}
use Rattle.wgr_sql.specs.Faults.{IsStore}
use Rattle.wgr_sql.specs.declared.fault.Cause.{Cause}
use Rattle.wgr_sql.specs.declared.fault.Fault.{Fault}
use Rattle.wgr_sql.specs.declared.fault.Fault.TheVariants.{NoMemory, Store}

-- ---- chains

more_after : (a b c : ℕ) → MoreFaults b c → a ≤ b → MoreFaults a c
more_after a b c more less = omega (arith, more, less)

more_before : (a b c : ℕ) → MoreFaults a b → b ≤ c → MoreFaults a c
more_before a b c more less = omega (arith, more, less)

module _ (old mid new : State) where
  -- what hindered the second of two calls was there before both, or came with the first
  pub hindered_after : (P : Trees → Type 0) → Survives old mid P → HasCleanDisk mid → mid.faults ≤ new.faults → IsHindered mid new → IsHindered old new
  hindered_after P s clean counts (inl more) = inl (more_after old.faults mid.faults new.faults more s.counts)
  hindered_after P s clean counts (inr (inr limit)) = inr (inr (subst IsSome s.limit limit))
  hindered_after P s clean counts (inr (inl shut)) = go old.is_open refl
    where
      go : (b : Bool) → old.is_open ≡ b → IsHindered old new
      go false is = inr (inl is)
      go true is = elim (s.closes clean is) [
        | inl open_mid ↦ absurd (true≢false (sym open_mid ∙ shut))
        | inr more ↦ inl (more_before old.faults mid.faults new.faults more counts)
      ]

  pub hindered_before : (Q : Trees → Type 0) → Survives mid new Q → IsHindered old mid → IsHindered old new
  hindered_before Q s (inl more) = inl (more_before old.faults mid.faults new.faults more s.counts)
  hindered_before Q s (inr rest) = inr rest

  module _ (A B : Type 0) where
    -- the second call was answered by a fault
    pub cause_after : (P Q : Trees → Type 0) → Survives old mid P → Survives mid new Q → (A → B) → (f : Fault) → HasCauseOr A mid new f → HasCauseOr B old new f
    cause_after P Q s t f NoMemory h = tt
    cause_after P Q s t f (Store cause) h = λ clean. elim (h clean) [
      | inl hindered ↦ inl (hindered_after P s (omega (arith, t.clean, clean)) t.counts hindered)
      | inr so ↦ inr (f so)
    ]

    -- the first was, and the second came after it
    pub cause_before : (Q : Trees → Type 0) → Survives mid new Q → (A → B) → (f : Fault) → HasCauseOr A old mid f → HasCauseOr B old new f
    cause_before Q t f NoMemory h = tt
    cause_before Q t f (Store cause) h = λ clean. elim (h (omega (arith, t.clean, clean))) [
      | inl hindered ↦ inl (hindered_before Q t hindered)
      | inr so ↦ inr (f so)
    ]

pub cause_weaker : (A B : Type 0) (old new : State) → (A → B) → (f : Fault) → HasCauseOr A old new f → HasCauseOr B old new f
cause_weaker A B old new g NoMemory h = tt
cause_weaker A B old new g (Store cause) h = λ clean. elim (h clean) [ inl hindered ↦ inl hindered | inr so ↦ inr (g so) ]

-- a fault that isn't the store's
pub cause_if : (P : Type 0) (old new : State) (f : Fault) → (IsStore f → HasCleanDisk new → IsHindered old new ⊎ P) → HasCauseOr P old new f
cause_if P old new NoMemory h = tt
cause_if P old new (Store cause) h = h tt

-- what an error of the database is told as
cause_told : (P : Type 0) (old new : State) (e : Error) (f : Fault) → ((f ≡ NoMemory) ↔ (e ≡ SqliteFailure OutOfMemory)) → (HasCleanDisk new → (e ≡ SqliteFailure OutOfMemory) ⊎ (IsHindered old new ⊎ P)) → HasCauseOr P old new f
cause_told P old new e NoMemory told h = tt
cause_told P old new e (Store cause) told h = λ clean. elim (h clean) [ inl memory ↦ absurd (let e = told.1 memory in cc) | inr so ↦ so ]

-- so of a result whose error is told
pub mapped_cause : {X : Type 0} (P : Type 0) (old new : State) (r : Result X Error) (s : Result X Fault) → MatchResult r (λ x. s ≡ Ok x) (λ e. IsErrAnd s (λ f. (f ≡ NoMemory) ↔ (e ≡ SqliteFailure OutOfMemory)))
    → IfErr r (λ e. HasCleanDisk new → (e ≡ SqliteFailure OutOfMemory) ⊎ (IsHindered old new ⊎ P)) → IfErr s (HasCauseOr P old new)
mapped_cause P old new (Ok x) (Ok y) cases h = tt
mapped_cause P old new (Ok x) (Err f) cases h = absurd (let e = cases in cc)
mapped_cause P old new (Err e) (Ok y) cases h = absurd cases
mapped_cause P old new (Err e) (Err f) cases h = cause_told P old new e f cases h

-- ---- a query

module _ (sql : List ℕ) (params : Row) (old new : State) where
  -- the store says why
  pub stored : (e : Error) (Big : Type 0) → Fails old new Big e → (e ≡ SqliteFailure OutOfMemory) ⊎ (IsHindered old new ⊎ Big)
  stored e Big (why.OutOfMemory, is, cause, back, tells) = inl is
  stored e Big (why.Io, is, cause, back, tells) = inr (inl (inl cause))
  stored e Big (why.Corrupt, is, cause, back, tells) = inr (inl (inl cause))
  stored e Big (why.Full, is, cause, back, tells) = inr (inl (inl cause))
  stored e Big (why.Broken, is, cause, back, tells) = inr (inl (inr (inl cause)))
  stored e Big (why.Unstorable, is, cause, back, tells) = inr (inr cause)

  given_is : (r : Result Compiled _) (c : Compiled) → r ≡ Ok c → IsOneStatement sql params r → IsOneStatement sql params (Ok c)
  given_is r c is given = subst (IsOneStatement sql params) is given

  never_unread : (e : Error) → IsOneStatement sql params (understood old.now.schema sql) → IsNoStatement old sql params e → ⊥
  never_unread e given (inl (fault, is, same)) = subst (IsOneStatement sql params) is given
  never_unread e given (inr (c, is, inl (long, same))) = long (subst (IsOneStatement sql params) is given).2
  never_unread e given (inr (c, is, inr (inl (other, same)))) = other (subst (IsOneStatement sql params) is given).3
  never_unread e given (inr (c, is, inr (inr (reads, same)))) = reads (subst (IsOneStatement sql params) is given).1

  -- why a query isn't answered that no database refuses
  pub query_hindered : IsAnswered old.now.schema sql params → (e : Error) → FailsToQuery sql params old new e ⊎ IsTooLate sql params old new e → (e ≡ SqliteFailure OutOfMemory) ⊎ IsHindered old new
  unfolding FailsToQuery IsNotRun
  query_hindered answered e (inl (inl (inl (none, same)))) = absurd (never_unread e answered.given none)
  query_hindered answered e (inl (inl (inr failed))) = elim (stored e ⊥ failed) [ inl memory ↦ inl memory | inr (inl hindered) ↦ inr hindered | inr (inr big) ↦ absurd big ]
  query_hindered answered e (inl (inr (c, it, fails))) =
      let given = subst (IsOneStatement sql params) it.is answered.given in
      let shown = subst (FailsToShow old new sql c (timed params c.formats it.now) e) given.0 fails in
      let source : shown.0 ≡ old.now = subst (λ b. IsSourceOf b old.now shown.0) answered.unlisted shown.1 in
      let bare : timed params c.formats it.now ≡ params = ap (λ fs. timed params fs it.now) given.1 ∙ append-nil params in
      let asked = subst (λ (d : Database). RefusesToRead old.step_limit c.command d params e) source (subst (λ p. RefusesToRead old.step_limit c.command shown.0 p e) bare shown.2) in
      inr (inr (inr (subst (AsksPlainly old.now.schema params) it.is answered.plain old.step_limit old.now.trees e asked)))
  query_hindered answered e (inr (c, it, returns, outside, late, same)) = absurd (let e = subst IsSome (subst (IsOneStatement sql params) it.is answered.given).0 returns in cc)

  -- it may be taken as open, since one that is shut is a cause
  pub if_open : (P : Type 0) (e : Error) (end : State) → (IsTrue old.is_open → (e ≡ SqliteFailure OutOfMemory) ⊎ (IsHindered old end ⊎ P)) → (e ≡ SqliteFailure OutOfMemory) ⊎ (IsHindered old end ⊎ P)
  if_open P e end h = go old.is_open refl
    where
      go : (b : Bool) → old.is_open ≡ b → (e ≡ SqliteFailure OutOfMemory) ⊎ (IsHindered old end ⊎ P)
      go true is = h is
      go false is = inr (inl (inr (inl is)))

  -- the query's transaction is ended after it
  pub query_cause : {X : Type 0} (end : State) (Q : Trees → Type 0) → Survives new end Q → (r : Result X Error) → (HasCleanDisk new → IfErr r (λ e. FailsToQuery sql params old new e ⊎ IsTooLate sql params old new e))
      → (IsTrue old.is_open → HasCleanDisk end → IsAnswered old.now.schema sql params) → IfErr r (λ e. HasCleanDisk end → (e ≡ SqliteFailure OutOfMemory) ⊎ (IsHindered old end ⊎ ⊥))
  query_cause end Q s (Ok x) fails answered = tt
  query_cause end Q s (Err e) fails answered = λ clean. if_open ⊥ e end (λ live. elim (query_hindered (answered live clean) e (fails (omega (arith, s.clean, clean)))) [
    | inl memory ↦ inl memory
    | inr hindered ↦ inr (inl (hindered_before old new end Q s hindered))
  ])

  -- ---- a statement that writes

  misplaced : (command : Command) (e : Error) → IsWrite command → IsMisplaced old command e → ⊥
  misplaced command e writes (inl (same, inl (is, inside))) = subst IsWrite is writes
  misplaced command e writes (inl (same, inr (inl is, outside))) = subst IsWrite is writes
  misplaced command e writes (inl (same, inr (inr is, outside))) = subst IsWrite is writes
  misplaced command e writes (inr (same, name, inl is, unnamed)) = subst IsWrite is writes
  misplaced command e writes (inr (same, name, inr is, unnamed)) = subst IsWrite is writes

  escapes : (command : Command) → IsWrite command → Escapes 0 old command → ⊥
  escapes command writes (inl (inl is)) = subst IsWrite is writes
  escapes command writes (inl (inr is)) = subst IsWrite is writes
  escapes command writes (inr (name, inl is, held)) = subst IsWrite is writes
  escapes command writes (inr (name, inr is, held)) = subst IsWrite is writes

  refuses : (c : Compiled) → understood old.now.schema sql ≡ Ok c → RefusesAs old.step_limit old.now sql params (Ok c) → Refuses old.step_limit old.now sql params
  refuses c is = subst (RefusesAs old.step_limit old.now sql params) (sym is)

  pub write_hindered : IsWriting old.now.schema sql params → (e : Error) → ExecutesInside 0 sql params old new (Err e) → (e ≡ SqliteFailure OutOfMemory) ⊎ (IsHindered old new ⊎ Refuses old.step_limit old.now sql params)
  unfolding ExecutesIn IsNotRun EndsScope
  write_hindered writing e (inr ((c, it, ends), late, same)) = absurd (escapes c.command (subst WritesPlainly it.is writing.plain).0 ends)
  write_hindered writing e (inl (inl (inl (none, same)), after)) = absurd (never_unread e writing.given none)
  write_hindered writing e (inl (inl (inr failed), after)) = elim (stored e ⊥ failed) [ inl memory ↦ inl memory | inr (inl hindered) ↦ inr (inl hindered) | inr (inr big) ↦ absurd big ]
  write_hindered writing e (inl (inr (c, it, ran), after)) =
      let given = subst (IsOneStatement sql params) it.is writing.given in
      let plain = subst WritesPlainly it.is writing.plain in
      let bare : timed params c.formats it.now ≡ params = ap (λ fs. timed params fs it.now) given.1 ∙ append-nil params in
      go (subst (λ p. RunsCommand old new sql c p (Err e)) bare (rw plain.1 at ran))
    where
      go : RunsCommand old new sql c params (Err e) → (e ≡ SqliteFailure OutOfMemory) ⊎ (IsHindered old new ⊎ Refuses old.step_limit old.now sql params)
      go (inl (inl wrong, same)) = absurd (misplaced c.command e (subst WritesPlainly it.is writing.plain).0 wrong)
      go (inl (inr (may, does), same)) = inr (inr (refuses c it.is (Some e, does)))
      go (inr failed) = elim (stored e _ failed) [ inl memory ↦ inl memory | inr (inl hindered) ↦ inr (inl hindered) | inr (inr big) ↦ inr (inr (refuses c it.is (None, big))) ]

  pub write_cause : (r : Result ℕ Error) → (HasCleanDisk new → ExecutesInside 0 sql params old new r) → (IsTrue old.is_open → HasCleanDisk new → IsWriting old.now.schema sql params)
      → IfErr r (λ e. HasCleanDisk new → (e ≡ SqliteFailure OutOfMemory) ⊎ (IsHindered old new ⊎ Refuses old.step_limit old.now sql params))
  write_cause (Ok count) ran writing = tt
  write_cause (Err e) ran writing = λ clean. if_open (Refuses old.step_limit old.now sql params) e new (λ live. write_hindered (writing live clean) e (ran clean))

  pub commit_cause : {X : Type 0} (r : Result X Error) → (HasCleanDisk new → IfErr r (FailsToCommit old new)) → (HasCleanDisk new → IsTrue old.is_open → old.in_transaction ≡ true)
      → IfErr r (λ e. HasCleanDisk new → (e ≡ SqliteFailure OutOfMemory) ⊎ (IsHindered old new ⊎ ⊥))
  commit_cause (Ok x) fails inside = tt
  commit_cause (Err e) fails inside = λ clean. if_open ⊥ e new (λ live. elim (fails clean) [
    | inl failed ↦ stored e ⊥ failed
    | inr (late, outside, same) ↦ absurd (true≢false (sym (inside clean live) ∙ outside))
  ])

-- ---- results

-- a fault that is handed on
pub handed : {X : Type 0} (P : Fault → Type 0) (r : Result X Fault) (why : Fault) → IsErrAnd r (λ e. e ≡ why) → P why → IfErr r P
handed P (Ok x) why is h = tt
handed P (Err e) why is h = subst P (sym is) h

-- the fault of a call is handed on, after another call
pub later_hands_on : {X : Type 0} (a b c : State) (r : Result X Fault) (why : Fault) → IsErrAnd r (λ e. e ≡ why) → Survives a b (λ _. ⊥) → Survives b c (λ _. ⊥) → HasCause b c why → IfErr r (HasCause a c)
later_hands_on a b c r why is before after cause = handed (HasCause a c) r why is (cause_after a b c ⊥ ⊥ (λ _. ⊥) (λ _. ⊥) before after (λ h. h) why cause)

-- a fault that comes of what isn't so while the disk is clean
pub never_fails : {X : Type 0} (Q : Type 0) (old new : State) (r : Result X Fault) → OnErr r Q → (HasCleanDisk new → Q → ⊥) → IfErr r (HasCause old new)
never_fails Q old new (Ok x) h never = tt
never_fails Q old new (Err f) h never = cause_if ⊥ old new f (λ _ clean. absurd (never clean h))

pub never_stores : {X : Type 0} (Q : Type 0) (old new : State) (r : Result X Fault) → IfErr r (λ e. IsStore e → Q) → (HasCleanDisk new → Q → ⊥) → IfErr r (HasCause old new)
never_stores Q old new (Ok x) h never = tt
never_stores Q old new (Err f) h never = cause_if ⊥ old new f (λ is clean. absurd (never clean (h is)))

-- what was wrong with the store has no part in a cause
pub any_cause : {X : Type 0} (P : Type 0) (old new : State) (wrong : Cause) (r : Result X Fault) → IsErrAnd r IsStore → IfErr r (HasCauseOr P old new) → HasCauseOr P old new (Store wrong)
any_cause P old new wrong (Ok x) is h = absurd is
any_cause P old new wrong (Err NoMemory) is h = absurd is
any_cause P old new wrong (Err (Store w)) is h = h
