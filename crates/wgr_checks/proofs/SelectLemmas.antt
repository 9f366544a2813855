-- At whatever schema a table's query is run, it commits nothing.
use Rattle.std.proofs.Common.{◌≡◌, ℕ, ◌+◌, Bool, true, false, if◌then◌else◌, List, [], Option, None, Some, Ok, Err, refl, subst, inl, inr}
use Rattle.std.proofs.lemmas.Bool.{cases_Bool}
use Rattle.sqlite.specs.Order.{Row}
use Rattle.sqlite.specs.Tree.{Trees}
use Rattle.sqlite.specs.Schema.{Schema}
use Rattle.sqlite.specs.Command.{Command}
use Rattle.sqlite.specs.Listing.{understood, reads_listing, if_select, listing_schema, is_select}
use Rattle.sqlite.specs.State.{State, CommitsShowing, IsUnchanged, Survives}
use Rattle.sqlite.specs.Store.{Ghosts}
use Rattle.sqlite.specs.Held.{Held, state}
use Rattle.sqlite.specs.Given.{HasBegun, HasGiven, Returns}
use Rattle.sqlite.proofs.StateLemmas.{survives_weaker}
use Rattle.sqlite_schema.specs.declared.command.Returning.{Returning}
use Rattle.sqlite_resolve.specs.Compile.{compiled, first, planned, meaning, returning, command, timed, small, with_command}
use Rattle.sqlite_resolve.specs.Lowering.{Checked, and_then}
use Rattle.sqlite_resolve.specs.declared.compiled.Compiled.{Compiled}
use Rattle.sqlite_resolve.specs.declared.error.CompileError.TheVariants.{NoSuchTable}
use Rattle.sqlite_tied.specs.Compute.{everything}
use Rattle.wgr_checks.specs.declared.table.Table.{Table}
use Rattle.wgr_checks.specs.declared.table.Table.TheVariants.{Peers, Allowed}
use Rattle.wgr_checks.specs.TableRows.{text_of}

abbrev Plan : Type 0
Plan = List (List ℕ) × (Command × Option Returning)

-- Where a statement shows no row of a write (shown), what the compiler joins of its parts shows none.
module _ {P : Type 0} (shown : P → ℕ → Checked (Option Returning)) (base : P → ℕ) (made : P → Checked Command) (formats : P → List (List ℕ)) (joined : P → Plan → Compiled) (keeps : (p : P) (plan : Plan) → (joined p plan).returning ≡ plan.1.1) where
  of_parts : (p : P) (r : Checked (Option Returning)) (m : Checked Command) (c : Compiled) → r ≡ Ok None
      → and_then (and_then (and_then r (λ some. and_then m (λ k. Ok (k, some)))) (λ found. Ok (formats p, found))) (λ plan. Ok (joined p plan)) ≡ Ok c → c.returning ≡ None
  of_parts p (Ok None) (Ok k) c none is = let same : joined p (formats p, (k, None)) ≡ c = cc in subst (λ x. x.returning ≡ None) same (keeps p (formats p, (k, None)))
  of_parts p (Ok None) (Err e) c none is = absurd cc
  of_parts p (Ok (Some w)) m c none is = absurd cc
  of_parts p (Err e) m c none is = absurd cc

  none_shown : (r : Checked P) (c : Compiled) → ((n : ℕ) → and_then r (λ p. shown p n) ≡ Ok None)
      → and_then r (λ p. and_then (and_then (and_then (shown p (base p)) (λ some. and_then (made p) (λ k. Ok (k, some)))) (λ found. Ok (formats p, found))) (λ plan. Ok (joined p plan))) ≡ Ok c → c.returning ≡ None
  none_shown (Ok p) c none is = of_parts p (shown p (base p)) (made p) c (none (base p)) is
  none_shown (Err e) c none is = absurd (let n = none 0 in cc)

abbrev kept : Compiled → Checked Compiled
kept d = Ok d

chosen : (b : Bool) (d c : Compiled) → (if b then Ok d else Err NoSuchTable) ≡ Ok c → kept d ≡ Ok c
chosen true d c is = is
chosen false d c is = absurd cc

of_select : (r : Checked Compiled) (c : Compiled) → if_select r ≡ Ok c → r ≡ Ok c
of_select (Ok d) c is = chosen (is_select d.command) d c is
of_select (Err e) c is = absurd cc

-- a text of which the compiler shows no row of a write, whatever the schema is
module _ (text : List ℕ) (asks_none : (s : Schema) (n : ℕ) → and_then (first text) (λ p. returning s n p.statement) ≡ Ok None) where
  compiled_none : (s : Schema) (c : Compiled) → compiled s text ≡ Ok c → c.returning ≡ None
  unfolding compiled planned meaning
  compiled_none s c is =
      none_shown (λ p n. returning s n p.statement) (λ p. small p.names + small (timed s p.formats p.statement)) (λ p. command s p.formats (small p.names + small (timed s p.formats p.statement)) p.statement) (λ p. timed s p.formats p.statement) with_command (λ p plan. refl)
      (first text) c (asks_none s) is

  understood_none : (s : Schema) (c : Compiled) → understood s text ≡ Ok c → c.returning ≡ None
  unfolding understood
  understood_none s c is = elim (cases_Bool (reads_listing s text)) [
    | inl listing ↦ compiled_none listing_schema c (of_select (compiled listing_schema text) c (rw listing at is))
    | inr other ↦ compiled_none s c (rw other at is)
  ]

  never_returns : (s : Schema) → ¬ Returns (understood s text)
  never_returns s some = returned (understood s text) (understood_none s) some
    where
      returned : (r : Checked Compiled) → ((c : Compiled) → r ≡ Ok c → c.returning ≡ None) → ¬ Returns r
      returned (Ok c) none some = absurd (let e = none c refl in let here = rw e at some in cc)
      returned (Err e) none some = some

  -- so it is at its start, once it has begun
  pub text_begun : {S : Type 0} (g : Ghosts S) (params : Row) (old new : Held S) → HasBegun g text params old new → HasGiven g text params new [] × IsUnchanged (state g old) (state g new)
  text_begun g params old new (inl h) = h
  text_begun g params old new (inr h) = absurd (never_returns old.schema h.0)

  never_commits : (params : Row) (s : State) (db : Trees) → ¬ CommitsShowing text params s db
  unfolding CommitsShowing
  never_commits params s db h = absurd (let none = understood_none s.now.schema h.0 h.1.is in let some = rw none at h.2 in cc)

  pub text_commits_nothing : (params : Row) (old new : State) → Survives old new (CommitsShowing text params old) → Survives old new (λ _. ⊥)
  text_commits_nothing params old new = survives_weaker old new _ _ (λ _ db. never_commits params old db)

-- ---- a table's query

-- a SELECT shows none, whatever the schema is
asks_none : (t : Table) (s : Schema) (n : ℕ) → and_then (first (text_of t)) (λ p. returning s n p.statement) ≡ Ok None
unfolding first returning everything
asks_none Peers s n = refl
asks_none Allowed s n = refl

pub begun : {S : Type 0} (g : Ghosts S) (t : Table) (params : Row) (old new : Held S) → HasBegun g (text_of t) params old new → HasGiven g (text_of t) params new [] × IsUnchanged (state g old) (state g new)
begun g t = text_begun (text_of t) (asks_none t) g

pub commits_nothing : (t : Table) (params : Row) (old new : State) → Survives old new (CommitsShowing (text_of t) params old) → Survives old new (λ _. ⊥)
commits_nothing t = text_commits_nothing (text_of t) (asks_none t)
