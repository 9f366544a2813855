-- What is printed of what was asked for.
use Rattle.std.specs.Prelude.{ℕ, ◌≡◌, ◌⊎◌, true, Bool, List, Option, codes}
use Rattle.std.specs.Io.KnownBytes.{Appends}
use Rattle.wgr_io.specs.Device.{IsCut}
use Rattle.wgr_prog.specs.declared.messages.TheConstants.{DONE, FAULT}

-- the text is printed, or the writer fails after a first part of it
abbrev pub ReportsText : Option (List ℕ) → Option (List ℕ) → Bool → Bool → List ℕ → ℕ → Type 0
ReportsText written written' failed failed' text status =
    ((status ≡ DONE) × Appends written written' text × (failed' ≡ failed))
    ⊎ ((status ≡ FAULT) × IsCut written written' text × (failed' ≡ true))

-- that text is `done` and a newline
abbrev pub ReportsDone : Option (List ℕ) → Option (List ℕ) → Bool → Bool → ℕ → Type 0
ReportsDone written written' failed failed' status = ReportsText written written' failed failed' (codes "done\n") status
