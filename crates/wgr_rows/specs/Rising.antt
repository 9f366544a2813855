-- The spans of a reading rise.
use Rattle.std.specs.Prelude.{ℕ, ◌≤◌, Bool, true, false, if◌then◌else◌, List, [], ◌∷◌, map, Option, Some, None}
use Rattle.std.proofs.Common.{arith, refl}
use Rattle.std.proofs.Math.Logic.{∥∥₁_elim}
use Rattle.sqlite.specs.Store.{Ghosts}
use Rattle.sqlite.specs.Held.{Held, state}
use Rattle.wgr_text.specs.declared.prefix.Span.{Span}
use Rattle.wgr_text.specs.Prefix.{AddrValue, PrefixValue, rank}
use Rattle.wgr_pool.specs.Spans.{RisesFrom, reached_after}
use Rattle.wgr_pool.specs.Rising.{RisesFrom-prop}
use Rattle.wgr_columns.specs.Decode.{tables_of}
use Rattle.wgr_rows.specs.declared.progress.Progress.{Progress}
use Rattle.wgr_rows.specs.declared.progress.Progress.TheVariants.{Running, Done, Stopped}
use Rattle.wgr_rows.specs.HeldRows.{HeldSpan, behind, is_passed_over, staying, rows_to_come}
use Rattle.wgr_rows.specs.Telling.{ShowsGoodRows, Tells}

pub from_lower : (low high : ℕ) (spans : List Span) → low ≤ high → RisesFrom high spans → RisesFrom low spans
from_lower low high [] le up = tt
from_lower low high (s ∷ spans) le up = let first = up.0 in (omega (arith, le, first), up.1)

staying_rise : (expired : ℕ → Bool) (floor : ℕ) (holds : List HeldSpan) → RisesFrom floor (map (λ x. x.0) holds) → RisesFrom floor (staying expired holds)
staying_rise expired floor [] up = tt
staying_rise expired floor (h ∷ holds) up = go (is_passed_over expired h.1) (staying_rise expired (rank h.0.lo) holds up.1)
  where
    go : (b : Bool) → RisesFrom (rank h.0.lo) (staying expired holds) → RisesFrom floor (if b then staying expired holds else h.0 ∷ staying expired holds)
    go true later = from_lower floor (rank h.0.lo) (staying expired holds) up.0 later
    go false later = (up.0, later)

-- where the next span begins at the lowest
abbrev pub next_from : Option Span → Option AddrValue → ℕ
next_from None last = reached_after last
next_from (Some s) last = rank s.lo

pub told_rise : {S : Type 0} (g : Ghosts S) (h : Held S) (shows_peers : Bool) (network : ℕ) (pool : PrefixValue) (start taken : ℕ) (first : Option Span) (last : Option AddrValue) (at : Progress) (expired : ℕ → Bool) → ∥ Tells g h shows_peers network pool start taken first last at ∥₁ → ShowsGoodRows (state g h)
    → RisesFrom (next_from first last) (behind first (staying expired (rows_to_come shows_peers at (tables_of (state g h).now) network pool start taken)))
told_rise g h shows_peers network pool start taken None last Running expired told good = ∥∥₁_elim told (RisesFrom-prop (reached_after last) _) (λ tells. staying_rise expired (reached_after last) (rows_to_come shows_peers Running (tables_of (state g h).now) network pool start taken) (tells refl good).rises)
told_rise g h shows_peers network pool start taken (Some s) last Running expired told good = (omega arith, ∥∥₁_elim told (RisesFrom-prop (rank s.lo) _) (λ tells. staying_rise expired (rank s.lo) (rows_to_come shows_peers Running (tables_of (state g h).now) network pool start taken) (tells refl good).after))
told_rise g h shows_peers network pool start taken None last Done expired told good = tt
told_rise g h shows_peers network pool start taken (Some s) last Done expired told good = (omega arith, tt)
told_rise g h shows_peers network pool start taken None last (Stopped why) expired told good = tt
told_rise g h shows_peers network pool start taken (Some s) last (Stopped why) expired told good = (omega arith, tt)
