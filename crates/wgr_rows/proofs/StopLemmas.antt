-- Why a reading of holding rows stops.
use Rattle.std.proofs.Common.{◌≡◌, ◌⊎◌, ◌↔◌, ◌<◌, ◌≤◌, ◌+◌, ◌-◌, ◌^◌, ◌++◌, min, ℕ, Bool, true, false, List, [], ◌∷◌, Option, Some, None, IsSome, IsTrue, inl, inr, refl, sym, subst, ◌∙◌, arith}
use Rattle.std.proofs.Math.Logic.{∥∥₁_elim}
use Rattle.std.proofs.lemmas.Bool.{cases_lt}
use Rattle.sqlite.specs.declared.error.Error.{Error}
use Rattle.sqlite.specs.declared.error.Error.TheVariants.{SqliteFailure}
use Rattle.sqlite.specs.declared.error.ErrorCode.TheVariants.{OutOfMemory}
use Rattle.sqlite.specs.Listing.{understood}
use Rattle.sqlite.specs.Order.{Row}
use Rattle.sqlite.specs.Effect.{Database}
use Rattle.sqlite.specs.Given.{FailsToAdvance, HasGiven}
use Rattle.sqlite.specs.Held.{Held, state}
use Rattle.sqlite.specs.Schema.{Schema}
use Rattle.sqlite.specs.State.{State, FailsToQuery, HasCleanDisk, IsUnchanged, Survives}
use Rattle.sqlite.specs.Store.{Ghosts}
use Rattle.sqlite_rules.proofs.ListLemmas.{has_right}
use Rattle.sqlite_tied.specs.Compute.{everything}
use Rattle.wgr_text.specs.declared.prefix.Span.{Span}
use Rattle.wgr_text.specs.Prefix.{AddrValue, PrefixValue, IsAddr, IsPrefix, rank}
use Rattle.wgr_pool.specs.Spans.{RisesFrom, reached_after}
use Rattle.wgr_pool.specs.declared.allot.Stop.{Stop}
use Rattle.wgr_model.specs.Rows.{AreKeyed}
use Rattle.wgr_sql.specs.Causes.{HasCause, IsAnswered, IsHindered}
use Rattle.wgr_sql.specs.declared.fault.Fault.{Fault}
use Rattle.wgr_sql.specs.Faults.{IsStore}
use Rattle.wgr_sql.specs.declared.fault.Cause.TheVariants.{Damaged}
use Rattle.wgr_sql.specs.declared.fault.Fault.TheVariants.{NoMemory, Store}
use Rattle.wgr_sql.proofs.CauseLemmas.{cause_if, query_hindered}
use Rattle.wgr_columns.specs.Decode.{IsRegister, allowed_in, tables_of}
use Rattle.wgr_columns.specs.Fields.{IsPeerIdAt, IsPrefixAt}
use Rattle.wgr_columns.specs.Layout.{Others, schema_with}
use Rattle.wgr_columns.proofs.Statements.{never_refused}
use Rattle.wgr_rows.specs.HeldRows.{HeldSpan, brief, hold_params, holds_text, max_holds}
use Rattle.wgr_rows.specs.Stopping.{Blames, HavePool, IsSound, StopsAs}
use Rattle.wgr_rows.specs.Telling.{ShowsGoodRows, IsToldTo, Tells}
use Rattle.wgr_rows.specs.declared.progress.Progress.{Progress}
use Rattle.wgr_rows.specs.declared.progress.Progress.TheVariants.{Running, Done, Stopped}
use Rattle.wgr_rows.proofs.Coming.{is_open, parts, spans}
use Rattle.wgr_rows.proofs.ReadLemmas.{few_given, given_read}

-- ---- what hinders a call can be told from what doesn't

either_limit : (limit : Option ℕ) → IsSome limit ⊎ (IsSome limit → ⊥)
either_limit (Some n) = inl refl
either_limit None = inr (λ h. cc)

either_open : (b : Bool) → (b ≡ false) ⊎ (b ≡ false → ⊥)
either_open false = inl refl
either_open true = inr (λ e. cc)

unless_hindered : (old new : State) → ((IsHindered old new → ⊥) → ⊥) → IsHindered old new
unless_hindered old new h = elim (cases_lt new.faults (min (old.faults + 1) (2 ^ 64 - 1))) [
  | inr more ↦ inl (omega (arith, more))
  | inl same ↦ elim (either_open old.is_open) [
    | inl shut ↦ inr (inl shut)
    | inr live ↦ elim (either_limit old.step_limit) [
      | inl limit ↦ inr (inr limit)
      | inr free ↦ absurd (h (λ hindered. elim hindered [ inl more ↦ omega (arith, same, more) | inr (inl shut) ↦ live shut | inr (inr limit) ↦ free limit ]))
    ]
  ]
]

-- a fault that can't come where nothing hindered the call
pub cause_unless : (old new : State) (f : Fault) → (IsStore f → HasCleanDisk new → (IsHindered old new → ⊥) → ⊥) → HasCause old new f
cause_unless old new f h = cause_if ⊥ old new f (λ is clean. inl (unless_hindered old new (h is clean)))

pub for_cause : (network : ℕ) (pool : PrefixValue) (old new : State) (at : Progress) (why : Fault) → ((HasCleanDisk new → IsSound network pool old) → HasCause old new why) → Blames network pool old at new (Stopped why)
for_cause network pool old new at why cause other is =
    let same : why ≡ other = cc in
    inr (λ known. subst (λ (w : Fault). HasCause old new w) same (cause known))

-- the fault for which a reading has stopped that was running
pub stopped_cause : (network : ℕ) (pool : PrefixValue) (old new : State) (at end : Progress) (why : Stop) (told : Fault) → at ≡ Running → StopsAs end why → ((f : Fault) → end ≡ Stopped f → told ≡ f)
    → Blames network pool old at new end → (HasCleanDisk new → IsSound network pool old) → HasCause old new told
stopped_cause network pool old new at Running why told running stops is blames known = absurd stops
stopped_cause network pool old new at Done why told running stops is blames known = absurd stops
stopped_cause network pool old new at (Stopped f) why told running stops is blames known =
    subst (HasCause old new) (sym (is f refl)) (elim (blames f refl) [ inl was ↦ absurd (let e = sym running ∙ was in cc) | inr cause ↦ cause known ])

no_two : (x y : ⊥) → x ≡ y
no_two x y = absurd x

good_of : (network : ℕ) (pool : PrefixValue) (s : State) → HasCleanDisk s → IsSound network pool s → ShowsGoodRows s
good_of network pool s clean sound = (clean, λ live. let it = sound.1 live in (it.0, it.1.consistent.rows.keyed))

-- ---- the query is answered

pub holds_answered : (others : Others) (shows_peers : Bool) (network : ℕ) (pool : PrefixValue) (start : ℕ) → IsAnswered (schema_with others) (holds_text shows_peers) (hold_params network pool start)
unfolding understood everything
holds_answered others true network pool start = record { given = (refl, refl, omega arith, refl); unlisted = refl; plain = λ limit trees e refused. never_refused _ refl limit (trees 10) refused }
holds_answered others false network pool start = record { given = (refl, refl, omega arith, refl); unlisted = refl; plain = λ limit trees e refused. never_refused _ refl limit (trees 10) refused }

answered_at : (shows_peers : Bool) (db : Database) → IsRegister db → (network : ℕ) (pool : PrefixValue) (start : ℕ) → IsAnswered db.schema (holds_text shows_peers) (hold_params network pool start)
answered_at shows_peers db register network pool start = subst (λ (s : Schema). IsAnswered s (holds_text shows_peers) (hold_params network pool start)) (sym register.schema_is) (holds_answered register.others shows_peers network pool start)

abbrev Told : Fault → Error → Type 0
Told f e = (f ≡ NoMemory) ↔ (e ≡ SqliteFailure OutOfMemory)

hindered_by : (old new : State) (e : Error) (f : Fault) → Told f e → IsStore f → (e ≡ SqliteFailure OutOfMemory) ⊎ IsHindered old new → IsHindered old new
hindered_by old new e f told is (inl memory) = absurd (subst IsStore (told.1 memory) is)
hindered_by old new e f told is (inr hindered) = hindered

-- the query didn't begin
pub begin_cause : (shows_peers : Bool) (network : ℕ) (pool : PrefixValue) (start : ℕ) (old new : State) (e : Error) (f : Fault) → Told f e → (HasCleanDisk new → IsSound network pool old) → (HasCleanDisk new → FailsToQuery (holds_text shows_peers) (hold_params network pool start) old new e) → HasCause old new f
begin_cause shows_peers network pool start old new e f told known fails = cause_unless old new f (λ why clean free. either old.is_open refl why clean free)
  where
    either : (b : Bool) → old.is_open ≡ b → IsStore f → HasCleanDisk new → (IsHindered old new → ⊥) → ⊥
    either false shut why clean free = free (inr (inl shut))
    either true live why clean free = free (hindered_by old new e f told why (query_hindered (holds_text shows_peers) (hold_params network pool start) old new (answered_at shows_peers old.now ((known clean).1 live).0 network pool start) e (inl (fails clean))))

module _ {S : Type 0} (g : Ghosts S) (shows_peers : Bool) (network : ℕ) (pool : PrefixValue) (start : ℕ) (is : IsPrefix pool) (fits : IsAddr pool.address) (low : start < 2 ^ 128) (taken : ℕ) (first : Option Span) (last : Option AddrValue) (at : Progress) (running : at ≡ Running) (old : Held S) (tells : ∥ Tells g old shows_peers network pool start taken first last at ∥₁) where
  -- what is told, where only the rows' soundness is known
  with_told : (HasCleanDisk (state g old)) → IsSound network pool (state g old) → (IsToldTo g old shows_peers network pool start taken first last → ⊥) → ⊥
  with_told clean sound never = ∥∥₁_elim tells no_two (λ t. never (t running (good_of network pool (state g old) clean sound)))

  live_given : (h : Held S) (given : List Row) → HasGiven g (holds_text shows_peers) (hold_params network pool start) h given → IsTrue (state g h).is_open
  live_given h given runs = is_open g h (holds_text shows_peers) (hold_params network pool start) given runs

  -- there are no more rows than a network may have
  pub limit_cause : max_holds < taken → (HasCleanDisk (state g old) → IsSound network pool (state g old)) → HasCause (state g old) (state g old) (Store Damaged)
  limit_cause high known = cause_unless (state g old) (state g old) (Store Damaged) (λ _ clean free.
      let sound = known clean in
      with_told clean sound (λ told.
      let it = sound.1 (live_given old told.given told.runs) in
      let few = few_given g old shows_peers it.0 network pool start is fits low it.1 told.given told.runs in
      let count = told.count in
      omega (arith, high, few, count)))

  module _ (new : Held S) (survives : Survives (state g old) (state g new) (λ _. ⊥)) where
    clean_before : HasCleanDisk (state g new) → HasCleanDisk (state g old)
    clean_before clean = omega (arith, survives.clean, clean)

    -- the next row couldn't be had
    pub advance_cause : (e : Error) (f : Fault) → Told f e → (HasCleanDisk (state g new) → FailsToAdvance g old new e) → (HasCleanDisk (state g new) → IsSound network pool (state g old)) → HasCause (state g old) (state g new) f
    advance_cause e f told_as fails known = cause_unless (state g old) (state g new) f (λ why clean free.
        let sound = known clean in
        with_told (clean_before clean) sound (λ told.
        let it = sound.1 (live_given old told.given told.runs) in
        free (hindered_by (state g old) (state g new) e f told_as why
        (query_hindered (holds_text shows_peers) (hold_params network pool start) (state g old) (state g new) (answered_at shows_peers (state g old).now it.0 network pool start) e (inl (fails clean (holds_text shows_peers) (hold_params network pool start) told.given told.runs))))))

    module _ (row : Row) (same : HasCleanDisk (state g new) → IsUnchanged (state g old) (state g new)) (gives : HasCleanDisk (state g new) → (given : List Row) → HasGiven g (holds_text shows_peers) (hold_params network pool start) old given → HasGiven g (holds_text shows_peers) (hold_params network pool start) new (given ++ row ∷ [])) where
      -- a row that was given isn't refused
      pub row_cause : (IsPrefixAt row 2 → (shows_peers ≡ true → IsPeerIdAt row 6 network) → ⊥) → (HasCleanDisk (state g new) → IsSound network pool (state g old)) → HasCause (state g old) (state g new) (Store Damaged)
      row_cause refused known = cause_unless (state g old) (state g new) (Store Damaged) (λ _ clean free.
          let sound = known clean in
          with_told (clean_before clean) sound (λ told.
          let it = sound.1 (live_given old told.given told.runs) in
          let now_is = (same clean).0.now_is in
          let register = subst IsRegister (sym now_is) it.0 in
          let have = subst (λ (d : Database). HavePool (tables_of d) network pool) (sym now_is) it.1 in
          let read = given_read g new shows_peers register network pool start is fits low have (told.given ++ row ∷ []) (gives clean told.given told.runs) row (has_right told.given (row ∷ []) row (inl refl)) in
          refused read.0 read.1))

      -- and none begins below the one before it
      pub order_cause : (hold : HeldSpan) → hold ≡ brief shows_peers network (allowed_in row) → (reached_after last ≤ rank hold.0.lo → ⊥) → (HasCleanDisk (state g new) → IsSound network pool (state g old)) → HasCause (state g old) (state g new) (Store Damaged)
      order_cause hold hold_is below known = cause_unless (state g old) (state g new) (Store Damaged) (λ _ clean free.
          let sound = known clean in
          with_told (clean_before clean) sound (λ told.
          let it = sound.1 (live_given old told.given told.runs) in
          let now_is = (same clean).0.now_is in
          let good : ShowsGoodRows (state g new) = (clean, λ live. subst (λ (d : Database). IsRegister d × AreKeyed (tables_of d)) (sym now_is) (it.0, it.1.consistent.rows.keyed)) in
          let up = (subst (λ l. RisesFrom (reached_after last) (spans l)) (parts g old new (same clean) good shows_peers network pool start is fits low taken first last told row (gives clean told.given told.runs)) told.rises).0 in
          below (subst (λ (x : HeldSpan). reached_after last ≤ rank x.0.lo) (sym hold_is) up)))
