-- What a reading of holding rows knows.
use Rattle.std.specs.Prelude.{◌≡◌, ℕ, Bool, IsTrue, List, length, map, Option, Some, None}
use Rattle.sqlite_value.specs.Order.{Row}
use Rattle.sqlite.specs.State.{State, HasCleanDisk}
use Rattle.sqlite.specs.Store.{Ghosts}
use Rattle.sqlite.specs.Held.{Held, state}
use Rattle.sqlite.specs.Given.{HasGiven}
use Rattle.wgr_text.specs.declared.prefix.Span.{Span}
use Rattle.wgr_text.specs.Prefix.{AddrValue, PrefixValue, rank}
use Rattle.wgr_pool.specs.Spans.{RisesFrom, reached_after}
use Rattle.wgr_model.specs.Rows.{AreKeyed}
use Rattle.wgr_columns.specs.Decode.{IsRegister, tables_of}
use Rattle.wgr_rows.specs.HeldRows.{hold_params, holds_text, rows_to_come}
use Rattle.wgr_rows.specs.declared.progress.Progress.{Progress}
use Rattle.wgr_rows.specs.declared.progress.Progress.TheVariants.{Running}

-- the disk is clean, and what an open connection shows are the rows of a register, no two of which have a key
abbrev pub ShowsGoodRows : State → Type 0
ShowsGoodRows s = HasCleanDisk s × (IsTrue s.is_open → IsRegister s.now × AreKeyed (tables_of s.now))

-- where a span begins that comes first, or 0 if there is none
abbrev pub begin_of : Option Span → ℕ
begin_of None = 0
begin_of (Some s) = rank s.lo

-- the query runs and has given so many rows; what is to come begins no lower than `last`, nor than `first`, which comes before
pub record IsToldTo {S : Type 0} (g : Ghosts S) (h : Held S) (shows_peers : Bool) (network : ℕ) (pool : PrefixValue) (start taken : ℕ) (first : Option Span) (last : Option AddrValue) : Type 0 where
  pub given : List Row
  pub runs : HasGiven g (holds_text shows_peers) (hold_params network pool start) h given
  pub count : length given ≡ taken
  pub rises : RisesFrom (reached_after last) (map (λ x. x.0) (rows_to_come shows_peers Running (tables_of (state g h).now) network pool start taken))
  pub after : RisesFrom (begin_of first) (map (λ x. x.0) (rows_to_come shows_peers Running (tables_of (state g h).now) network pool start taken))

abbrev pub Tells : {S : Type 0} → Ghosts S → Held S → Bool → ℕ → PrefixValue → ℕ → ℕ → Option Span → Option AddrValue → Progress → Type 0
Tells g h shows_peers network pool start taken first last at = at ≡ Running → ShowsGoodRows (state g h) → IsToldTo g h shows_peers network pool start taken first last
