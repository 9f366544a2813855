-- That spans rise is a fact with one proof, as a ghost field requires.
use Rattle.std.specs.Prelude.{ℕ, List, [], ◌∷◌}
use mathlib.Core.HLevel.{×_prop, Unit-prop}
use native.Mathlib.Bridge.{le_prop}
use Rattle.wgr_text.specs.declared.prefix.Span.{Span}
use Rattle.wgr_text.specs.Prefix.{rank}
use Rattle.wgr_pool.specs.Spans.{RisesFrom}

pub RisesFrom-prop : (floor : ℕ) (spans : List Span) → IsProp (RisesFrom floor spans)
RisesFrom-prop floor [] = Unit-prop
RisesFrom-prop floor (s ∷ spans) = ×_prop le_prop (RisesFrom-prop (rank s.lo) spans)
