-- The replies to a tenant, byte for byte, in two worlds.
use Rattle.std.specs.Prelude.{◌≡◌, ℕ, Bool, List, [], ◌∷◌, Option, Some, None}
use Rattle.wgr_model.specs.Register.{Bytes, View}
use Rattle.wgr_model.specs.RowLaws.{rows_view}
use Rattle.wgr_model.specs.Rows.{Tables}
use Rattle.wgr_model.specs.Runs.{Served, acknowledged}
use Rattle.wgr_model.specs.Steps.{Answer, Ask, Event}
use Rattle.wgr_model.specs.Tenants.{own_events, tenant_after, tenant_answer, tenant_run}
use Rattle.wgr_office.specs.Events.{AreServedApart, HaveAnswers}
use Rattle.wgr_office.specs.Pages.{answer_bytes}
use Rattle.wgr_office.specs.declared.answer.Answer as given
use Rattle.wgr_office.specs.declared.answer.Answer.TheVariants as givens
use Rattle.wgr_office.specs.declared.run.Event as event

abbrev pub bytes_given : given.Answer → Bytes
bytes_given (givens.Reply reply) = reply.bytes.items
bytes_given givens.Unavailable = []
bytes_given (givens.Order done) = []

-- the replies where the run on the tenant's own rows has an answer, but for those answered Unavailable
abbrev pub replies_to : List given.Answer → List (Option Answer) → List Bytes
replies_to [] alone = []
replies_to (givens.Unavailable ∷ answers) alone = replies_to answers alone
replies_to (given ∷ answers) [] = []
replies_to (given ∷ answers) (None ∷ alone) = replies_to answers alone
replies_to (given ∷ answers) (Some answer ∷ alone) = bytes_given given ∷ replies_to answers alone

-- ---- what a tenant's own events give on its own rows alone

-- the moment on which a reply may depend
abbrev pub moment_of : Event → ℕ
moment_of (Ask digest name now command) = now
moment_of e = 0

abbrev pub before_replies : ℕ → Option Answer → List Bytes → List Bytes
before_replies now None replies = replies
before_replies now (Some answer) replies = answer_bytes now answer ∷ replies

-- the replies to them, in turn
abbrev pub own_replies : Bytes → View → List (Event × Bool) → List Bytes
own_replies me v [] = []
own_replies me v (e ∷ es) = before_replies (moment_of e.0) (tenant_answer v e.0) (own_replies me (tenant_after me v e.0 e.1) es)

-- ---- two worlds

-- a list of events that was run on a register with these rows
pub record World : Type 0 where
  pub rows : Tables
  pub asked : List event.Event
  pub answers : List given.Answer
  pub served : List Served
  pub after : Tables

pub record IsWorld (w : World) : Type 0 where
  pub reported : HaveAnswers w.asked w.answers w.served
  pub apart : AreServedApart w.rows w.asked w.answers w.served w.after

-- the replies to a tenant in a world
abbrev pub replies_in : Bytes → World → List Bytes
replies_in tenant w = replies_to w.answers (tenant_run tenant (rows_view w.rows tenant) (acknowledged w.served)).0

-- Two registers whose rows show a tenant one view, and on each a list of events, such that the lists
-- agree, in order, on the events that are the tenant's own: it gets the same replies, byte for
-- byte, and the rows at the end show it one view.
abbrev pub WorldsAreAlike : Type 0
WorldsAreAlike = (tenant : Bytes) (w x : World) → IsWorld w → IsWorld x → rows_view w.rows tenant ≡ rows_view x.rows tenant
    → own_events tenant (rows_view w.rows tenant) (acknowledged w.served) ≡ own_events tenant (rows_view x.rows tenant) (acknowledged x.served)
    → (replies_in tenant w ≡ replies_in tenant x) × (rows_view w.after tenant ≡ rows_view x.after tenant)
