-- At whatever schema the query of holding rows is run, it commits nothing.
use Rattle.std.proofs.Common.{◌≡◌, ℕ, Bool, true, false, List, [], None, Ok, refl}
use Rattle.sqlite.specs.Order.{Row}
use Rattle.sqlite.specs.Schema.{Schema}
use Rattle.sqlite.specs.State.{State, CommitsShowing, IsUnchanged, Survives}
use Rattle.sqlite.specs.Store.{Ghosts}
use Rattle.sqlite.specs.Held.{Held, state}
use Rattle.sqlite.specs.Given.{HasBegun, HasGiven}
use Rattle.sqlite_resolve.specs.Compile.{first, returning}
use Rattle.sqlite_resolve.specs.Lowering.{and_then}
use Rattle.sqlite_tied.specs.Compute.{everything}
use Rattle.wgr_checks.proofs.SelectLemmas.{text_begun, text_commits_nothing}
use Rattle.wgr_rows.specs.HeldRows.{holds_text}

asks_none : (shows_peers : Bool) (s : Schema) (n : ℕ) → and_then (first (holds_text shows_peers)) (λ p. returning s n p.statement) ≡ Ok None
unfolding first returning everything
asks_none true s n = refl
asks_none false s n = refl

module _ (shows_peers : Bool) where
  abbrev text : List ℕ
  text = holds_text shows_peers

  pub begun : {S : Type 0} (g : Ghosts S) (params : Row) (old new : Held S) → HasBegun g text params old new → HasGiven g text params new [] × IsUnchanged (state g old) (state g new)
  begun = text_begun text (asks_none shows_peers)

  pub commits_nothing : (params : Row) (old new : State) → Survives old new (CommitsShowing text params old) → Survives old new (λ _. ⊥)
  commits_nothing = text_commits_nothing text (asks_none shows_peers)
