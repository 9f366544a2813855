-- Replies and views don't depend on the private and preshared keys of a dump.
use Rattle.std.specs.Prelude.{◌≡◌, ℕ, Ok}
use Rattle.wgr_dump.specs.Laws.{DifferInSecrets}
use Rattle.wgr_http.specs.Message.{Answers, MessageView}
use Rattle.wgr_model.specs.Register.{Bytes}
use Rattle.wgr_model.specs.RowLaws.{AreConsistent, IsRowStep, rows_view}
use Rattle.wgr_model.specs.Rows.{Tables}
use Rattle.wgr_model.specs.Steps.{Answer}
use Rattle.wgr_request.specs.Request.{RequestView}
use Rattle.wgr_request.specs.Target.{resolved}
use Rattle.wgr_request.specs.Target as target
use Rattle.wgr_office.specs.Pages.{IsReadAs, answer_bytes, event_of}

-- two messages with a dump for one network that differ only in private and preshared keys
pub record DifferInKeys (one other : Bytes) : Type 0 where
  pub message : MessageView
  pub body : Bytes
  pub name : Bytes
  pub first : Answers one (Ok message)
  pub second : Answers other (Ok (record message { body = body }))
  pub dump : resolved message.method message.target ≡ Ok (target.dump name)
  pub differ : DifferInSecrets message.body body

-- equal replies, byte for byte, and rows that show each tenant the same view
pub record AreAlike (now : ℕ) (a b : Answer) (u v : Tables) : Type 0 where
  pub replies : answer_bytes now a ≡ answer_bytes now b
  pub views : (me : Bytes) → rows_view u me ≡ rows_view v me

-- they are answered alike, on the rows of any register
abbrev pub SecretsAreUnanswered : Type 0
SecretsAreUnanswered = (now : ℕ) (one other : Bytes) (r s : RequestView) (t u v : Tables) (a b : Answer) → DifferInKeys one other
    → IsReadAs now one r → IsReadAs now other s → AreConsistent t → IsRowStep t (event_of now r) a u → IsRowStep t (event_of now s) b v → AreAlike now a b u v
