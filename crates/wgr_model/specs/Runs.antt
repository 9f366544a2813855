-- Lists of events.
use Rattle.std.specs.Prelude.{◌≡◌, List, [], ◌∷◌, map, Option, Some, None, ⊤}
use Rattle.wgr_model.specs.Register.{Register, IsSame}
use Rattle.wgr_model.specs.Steps.{Event, Answer, IsStep, IsProper}

-- an event with its answer, or with none where it was answered Unavailable
abbrev pub Served : Type 0
Served = Event × Option Answer

-- the list of these events with these answers: there is one answer for each event
pub record AreServed (events : List Event) (answers : List (Option Answer)) (es : List Served) : Type 0 where
  pub asked : map (λ e. e.0) es ≡ events
  pub reported : map (λ e. e.1) es ≡ answers

abbrev pub with_answer : Event → Option Answer → List (Event × Answer) → List (Event × Answer)
with_answer event None es = es
with_answer event (Some answer) es = (event, answer) ∷ es

-- the list without the events that were answered Unavailable
abbrev pub acknowledged : List Served → List (Event × Answer)
acknowledged [] = []
acknowledged (e ∷ es) = with_answer e.0 e.1 (acknowledged es)

-- an event is a step, or it was answered Unavailable and changed nothing
abbrev pub IsServed : Register → Event → Option Answer → Register → Type 0
IsServed r event None s = IsSame r s
IsServed r event (Some answer) s = IsStep r event answer s

abbrev pub IsRun : Register → List Served → Register → Type 0
IsRun r [] s = IsSame r s
IsRun r (e ∷ es) s = (next : Register) × IsServed r e.0 e.1 next × IsRun next es s

abbrev pub AreProper : List Served → Type 0
AreProper [] = ⊤
AreProper (e ∷ es) = IsProper e.0 × AreProper es
