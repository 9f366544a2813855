-- The answers to a list of requests, and what is written of them.
use Rattle.std.specs.Prelude.{◌≡◌, List, length}
use Rattle.sqlite.specs.Effect.{Database}
use Rattle.sqlite.specs.State.{HasCleanDisk}
use Rattle.sqlite.specs.Store.{Ghosts}
use Rattle.sqlite.specs.Held.{Held, state}
use Rattle.wgr_model.specs.Steps.{Event}
use Rattle.wgr_office.specs.Between.{HasPassed}
use Rattle.wgr_office.specs.declared.answer.Answer as given
use Rattle.wgr_office.specs.declared.run.Event as event
use Rattle.wgr_register.specs.Standing.{StandsAt}

-- one answer for each request, and a run from whatever rows the register was at, with the places between the requests
abbrev pub IsBatch : {S : Type 0} → Ghosts S → Held S → Held S → List event.Event → List given.Answer → Type 0
IsBatch g old new asked answers = (length answers ≡ length asked) × ((db : Database) (late : List Event) → StandsAt g old db late → HasCleanDisk (state g new) → HasPassed g old new db late asked answers)
