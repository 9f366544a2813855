-- How readings end.
use Rattle.std.proofs.Common.{◌≡◌, ℕ, Bool, true, false, Option, Some, None, Result, Ok, Err, sym}
use Rattle.std.specs.Prelude.{IfOk}
use Rattle.std.specs.declared.alloc.AllocError.{AllocError}
use Rattle.std.specs.declared.alloc.Global.{Global}
use Rattle.std.specs.declared.vec.Vec.{Vec}
use Rattle.sqlite.specs.Store.{Ghosts}
use Rattle.sqlite.specs.Held.{Held}
use Rattle.wgr_model.specs.Register.{Bytes}
use Rattle.wgr_office.specs.Between.{Keeps}
use Rattle.wgr_orders.specs.declared.census.Census.{Census}
use Rattle.wgr_register.specs.Census.{IsCensus}
use Rattle.wgr_show.specs.Shown.{is_there}
use Rattle.wgr_show.specs.declared.figures.Figures.{Figures}
use Rattle.wgr_words.specs.Reading.{Show, Status}
use Rattle.wgr_service.specs.Readings.{AtRows, HasFigures, HasReadRows, has_form, shown}
use Rattle.wgr_service.specs.Status.{status_text}
use Rattle.wgr_service.specs.declared.desk.Tally.{Tally}
use Rattle.wgr_service.specs.declared.readings.ReadingEnd.TheVariants as end

module _ {S : Type 0} (g : Ghosts S) (old new : Held S) (census : Census) (keeps : Keeps g old new) (listed : AtRows g old new (λ t. IsCensus t census)) where
  -- the figures, if there was memory for their text
  pub reads_status : (figures : Figures) (started loaded cached : ℕ) (tally : Tally) (text : Result (Vec ℕ Global) AllocError) → HasFigures census figures
      → IfOk text (λ t. t.items ≡ status_text started tally figures loaded cached) → HasReadRows g old new Status (shown text)
  reads_status figures started loaded cached tally (Ok text) counted written =
      (keeps, tt, λ db late at clean. record { census = census; figures = figures; started = started; tally = tally; loaded = loaded; cached = cached; is_census = listed db late at clean; counted = counted; written = written })
  reads_status figures started loaded cached tally (Err why) counted written = (keeps, tt, λ db late at clean. tt)

  -- no tenant has the name
  pub reads_none : (name : Option Bytes) (is_json : Bool) → true ≡ has_form name → is_there name census.tenants.items ≡ false → HasReadRows g old new (Show name is_json) end.NoSuchTenant
  reads_none None is_json formed none = absurd (cc none)
  reads_none (Some name) is_json formed none = (keeps, sym formed, λ db late at clean. (census, listed db late at clean, none))
