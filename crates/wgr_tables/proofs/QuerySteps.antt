-- A query in a transaction, as a step that changes nothing.
use Rattle.std.proofs.Common.{◌≡◌, ◌⊎◌, ℕ, List, Ok, Err, Result, IfOk, IfErr, MatchResult, is_ok, sym, ap, subst, refl, ◌∙◌}
use Rattle.sqlite.specs.Order.{Row}
use Rattle.sqlite.specs.Effect.{Database}
use Rattle.sqlite.specs.declared.error.Error.{Error}
use Rattle.sqlite.specs.Listing.{understood}
use Rattle.sqlite.specs.State.{State, FailsToQuery, IsTooLate, Shown}
use Rattle.sqlite.proofs.Callers.{IsPlain}
use Rattle.wgr_sql.specs.Steps.{StepsOn, Makes}
use Rattle.wgr_sql.proofs.QueryLemmas.{committed_same, query_open, shown_open, shown_same}

module _ {T : Type 0} (good : Database → Type 0) (view : Database → T) (sql : List ℕ) (params : Row) (old new : State) (plain : good old.now → IsPlain (understood old.now.schema sql)) where
  -- Q is told of the rows that are shown
  pub query_step : {X E : Type 0} (Q : X → T → Type 0) (items : X → List Row) (r : Result X Error) (s : Result X E) (F : Error → Type 0) → IfOk r (λ rows. Shown sql params old new (items rows))
      → IfErr r (λ e. FailsToQuery sql params old new e ⊎ IsTooLate sql params old new e) → is_ok s ≡ is_ok r → MatchResult r (λ x. s ≡ Ok x) F
      → ((x : X) → good old.now → Shown sql params old new (items x) → Q x (view old.now)) → StepsOn good (Makes good view (λ t u. (t ≡ u) × IfOk s (λ x. Q x t))) old new s
  query_step Q items (Ok rows) (Err e) F ok err same is told inside start = absurd cc
  query_step Q items (Err e) (Ok y) F ok err same is told inside start = absurd cc
  query_step Q items (Err e) (Err f) F ok err same is told inside start = (
    record {
      was_open = query_open sql params old new items (Err e) ok err;
      committed = λ live. (committed_same sql params old new (plain (start (query_open sql params old new items (Err e) ok err live))) items (Err e) ok err live).1;
    },
    tt,
  )
  query_step {E = E} Q items (Ok rows) (Ok y) F ok err same is told inside start =
      let here = start (shown_open sql params old new (items rows) ok) in
      let as_was = (shown_same sql params old new (plain here) (items rows) ok).0 in
      let shown = subst (λ (q : Result _ E). IfOk q (λ x. Q x (view old.now))) (sym is) (told rows here ok) in (
        record { was_open = λ live. as_was.was_open; committed = λ live. as_was.committed_is },
        (
          record { sound = subst good (sym as_was.now_is) here; schema = ap (λ (d : Database). d.schema) as_was.now_is; made = (ap view (sym as_was.now_is), shown) },
          record { was_open = as_was.was_open; is_open = as_was.is_open; now_is = refl; committed_is = as_was.committed_is; mode = as_was.mode ∙ inside },
        ),
      )
