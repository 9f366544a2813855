-- What a call that only reads leaves.
use Rattle.std.proofs.Common.{◌≡◌, ◌⊎◌, inl, inr, ℕ, List, Option, Some, None, Ok, Err, IfOk, IfErr, IsTrue, Result, sym, subst, ◌∙◌}
use Rattle.sqlite.specs.Order.{Row}
use Rattle.sqlite.specs.declared.error.Error.{Error}
use Rattle.sqlite.specs.Listing.{understood}
use Rattle.sqlite_schema.specs.declared.command.Returning.{Returning}
use Rattle.sqlite_resolve.specs.declared.compiled.Compiled.{Compiled}
use Rattle.sqlite.specs.State.{State, IsUnchanged, IsNotRun, FailsToShow, FailsToQuery, IsTooLate, Shown, ShowsRows, CommitsShowing, Survives}
use Rattle.sqlite.proofs.StateLemmas.{survives_weaker}
use Rattle.sqlite.proofs.Callers.{IsPlain, never_commits}

module _ (sql : List ℕ) (params : Row) (old new : State) (plain : IsPlain (understood old.now.schema sql)) where
  pub commits_nothing : Survives old new (CommitsShowing sql params old) → Survives old new (λ _. ⊥)
  commits_nothing = survives_weaker old new _ _ (λ _ db. never_commits sql params old db plain)

  pub shown_same : (rows : List Row) → Shown sql params old new rows → IsUnchanged old new
  unfolding Shown
  shown_same rows h = let none = (subst IsPlain h.1.is plain).0 in (subst (ShowsRows old new sql h.0 _ rows) none h.2).3

  pub fails_same : (settled : IsTrue old.is_open → old.now ≡ old.committed) (e : Error) → FailsToQuery sql params old new e → IsTrue new.is_open → new.now ≡ old.now
  unfolding FailsToQuery IsNotRun
  fails_same settled e (inl (inl h)) live = h.1.0.now_is
  fails_same settled e (inl (inr h)) live = (h.3.undone live).0 ∙ sym (settled (h.3.was_open live))
  fails_same settled e (inr h) live = let none = (subst IsPlain h.1.is plain).0 in (subst (FailsToShow old new sql h.0 _ e) none h.2).3.0.now_is

  pub asked : {X : Type 0} (items : X → List Row) (settled : IsTrue old.is_open → old.now ≡ old.committed) (r : Result X Error)
      → IfOk r (λ rows. Shown sql params old new (items rows)) → IfErr r (FailsToQuery sql params old new) → IsTrue new.is_open → new.now ≡ old.now
  asked items settled (Ok rows) ok err live = (shown_same (items rows) ok).0.now_is
  asked items settled (Err e) ok err live = fails_same settled e err live

opened : (old new : State) (sql : List ℕ) (c : Compiled) (params : Row) (rows : List Row) (what : Option Returning) → ShowsRows old new sql c params rows what → IsTrue old.is_open
opened old new sql c params rows None k = k.3.0.was_open
opened old new sql c params rows (Some what) k = k.1.shown.was_open

pub shown_open : (sql : List ℕ) (params : Row) (old new : State) (rows : List Row) → Shown sql params old new rows → IsTrue old.is_open
unfolding Shown
shown_open sql params old new rows h = opened old new sql h.0 _ rows h.0.returning h.2

fails_open : (old new : State) (sql : List ℕ) (c : Compiled) (params : Row) (e : Error) (what : Option Returning) → FailsToShow old new sql c params e what → IsTrue new.is_open → IsTrue old.is_open
fails_open old new sql c params e None k live = k.3.0.was_open
fails_open old new sql c params e (Some what) (inl k) live = k.1.0.was_open
fails_open old new sql c params e (Some what) (inr k) live = k.3.was_open live

-- where the connection is open after a query, it was
pub query_open : (sql : List ℕ) (params : Row) (old new : State) {X : Type 0} (items : X → List Row) (r : Result X Error) → IfOk r (λ rows. Shown sql params old new (items rows))
    → IfErr r (λ e. FailsToQuery sql params old new e ⊎ IsTooLate sql params old new e) → IsTrue new.is_open → IsTrue old.is_open
unfolding FailsToQuery IsNotRun
query_open sql params old new items (Ok rows) ok err live = shown_open sql params old new (items rows) ok
query_open sql params old new items (Err e) ok (inl (inl (inl h))) live = h.1.0.was_open
query_open sql params old new items (Err e) ok (inl (inl (inr h))) live = h.3.was_open live
query_open sql params old new items (Err e) ok (inl (inr h)) live = fails_open old new sql h.0 _ e h.0.returning h.2 live
query_open sql params old new items (Err e) ok (inr h) live = h.5.0.was_open

module _ (sql : List ℕ) (params : Row) (old new : State) (plain : IsPlain (understood old.now.schema sql)) where
  -- what was committed stays, whatever comes of the query
  pub committed_same : {X : Type 0} (items : X → List Row) (r : Result X Error) → IfOk r (λ rows. Shown sql params old new (items rows))
      → IfErr r (λ e. FailsToQuery sql params old new e ⊎ IsTooLate sql params old new e) → IsTrue new.is_open → IsTrue old.is_open × (new.committed ≡ old.committed)
  unfolding FailsToQuery IsNotRun
  committed_same items (Ok rows) ok err live = let same = shown_same sql params old new plain (items rows) ok in (same.0.was_open, same.0.committed_is)
  committed_same items (Err e) ok (inl (inl (inl h))) live = (h.1.0.was_open, h.1.0.committed_is)
  committed_same items (Err e) ok (inl (inl (inr h))) live = (h.3.was_open live, (h.3.undone live).1)
  committed_same items (Err e) ok (inl (inr h)) live = let none = (subst IsPlain h.1.is plain).0 in let same = (subst (FailsToShow old new sql h.0 _ e) none h.2).3 in (same.0.was_open, same.0.committed_is)
  committed_same items (Err e) ok (inr h) live = (h.5.0.was_open, h.5.0.committed_is)
