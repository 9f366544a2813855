-- Dumps that differ in private and preshared keys alone ask for the same.
use Rattle.std.proofs.Common.{◌↔◌, ℕ, List, Option, Some, None, Ok, inl, inr}
use Rattle.wgr_dump.specs.Laws.{DifferInSecrets}
use Rattle.wgr_dump.proofs.LawLemmas.{secrets_unread, secrets_no_fault}
use Rattle.wgr_http.specs.Message.{MessageView}
use Rattle.wgr_request.specs.Bodies.{ReadCommand}
use Rattle.wgr_request.specs.Commands.{IsAdoption}
use Rattle.wgr_request.specs.Laws.{SecretsAreUnasked}
use Rattle.wgr_request.specs.Request.{RequestView, Follows, digest_given}
use Rattle.wgr_request.specs.Target.{dump}

adopts_there : (text other : List ℕ) → DifferInSecrets text other → (o : ReadCommand) → IsAdoption text o → IsAdoption other o
adopts_there text other differ o (inl a) = inl (a.0, (secrets_unread text other differ a.0.interface a.0.lines).0 a.1, a.2)
adopts_there text other differ o (inr a) = inr (a.0, a.1, (secrets_no_fault text other differ a.0 a.1).0 a.2, a.3)

adopts_here : (text other : List ℕ) → DifferInSecrets text other → (o : ReadCommand) → IsAdoption other o → IsAdoption text o
adopts_here text other differ o (inl a) = inl (a.0, (secrets_unread text other differ a.0.interface a.0.lines).1 a.1, a.2)
adopts_here text other differ o (inr a) = inr (a.0, a.1, (secrets_no_fault text other differ a.0 a.1).1 a.2, a.3)

alike : (digest : Option (List ℕ)) (name : List ℕ) (m : MessageView) (other : List ℕ) (r : RequestView) → DifferInSecrets m.body other
    → Follows (Ok (dump name)) digest m r ↔ Follows (Ok (dump name)) digest (record m { body = other }) r
alike None name m other r differ = (λ h. h, λ h. h)
alike (Some d) name m other r differ =
    (λ h. (h.0, adopts_there m.body other differ h.0 h.1, h.2), λ h. (h.0, adopts_here m.body other differ h.0 h.1, h.2))

pub secrets_unasked : SecretsAreUnasked
secrets_unasked m other name r at differ = rw at (alike (digest_given m) name m other r differ)
