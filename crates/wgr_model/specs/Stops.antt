-- What a stop leaves of a register, and runs that continue after it.
use Rattle.std.specs.Prelude.{◌≡◌, ◌⊎◌, [], ◌∷◌, ◌++◌, List, Some, ⊤}
use Rattle.wgr_model.specs.Laws.{Has}
use Rattle.wgr_model.specs.RowLaws.{AreConsistent, AreIsolated, IsRowRun, IsRowStep}
use Rattle.wgr_model.specs.Rows.{Tables}
use Rattle.wgr_model.specs.Runs.{AreProper, Served}
use Rattle.wgr_model.specs.Steps.{Answer, Event, IsProper}

-- These are the rows at which the register was, or those after one of the late events: the events that were
-- answered by a fault since the last acknowledged change.
abbrev pub IsLeft : Tables → List Event → Tables → Type 0
IsLeft t late u = (u ≡ t) ⊎ ((event : Event) × Has late event × IsProper event × (answer : Answer) × IsRowStep t event answer u)

-- nothing, or one of the late events with an answer
abbrev pub IsBetween : List Event → List Served → Type 0
IsBetween late [] = ⊤
IsBetween late ((event, Some answer) ∷ []) = Has late event
IsBetween late _ = ⊥

-- Events were run up to these rows, a stop left the rows, and others were run on what it left. Together they are
-- one run, with nothing or with one late event between them, and each tenant is isolated along it.
abbrev pub RunsGoOn : Type 0
RunsGoOn = (t u v w : Tables) (es fs : List Served) (late : List Event) → AreConsistent t → AreProper es → IsRowRun t es u → IsLeft u late v → AreProper fs → IsRowRun v fs w
    → (mid : List Served) × IsBetween late mid × AreProper (es ++ (mid ++ fs)) × IsRowRun t (es ++ (mid ++ fs)) w × AreIsolated t (es ++ (mid ++ fs)) w
