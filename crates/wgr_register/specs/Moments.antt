-- Spans of moments.
use Rattle.std.specs.Prelude.{ℕ, ◌<◌, ◌≤◌, IfSome}
use Rattle.wgr_register.specs.declared.kept_file.Moments.{Moments}

-- from the first on, and before the other, if there is one
abbrev pub IsInSpan : Moments → ℕ → Type 0
IsInSpan span m = (span.from ≤ m) × IfSome span.until (λ end. m < end)
