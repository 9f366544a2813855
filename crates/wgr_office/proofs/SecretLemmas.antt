-- Dumps that differ in private and preshared keys alone are answered alike.
use Rattle.std.proofs.Common.{◌≡◌, ℕ, [], ◌∷◌, Some, Ok, refl, sym, ap, subst, ◌∙◌}
use Rattle.wgr_http.proofs.Growing.{answers_unique}
use Rattle.wgr_model.specs.Register.{Bytes}
use Rattle.wgr_model.specs.RowLaws.{IsRowStep, rows_view}
use Rattle.wgr_model.specs.Rows.{Tables}
use Rattle.wgr_model.specs.Steps.{Answer}
use Rattle.wgr_model.specs.Tenants.{tenant_run}
use Rattle.wgr_model.proofs.RowRunLemmas.{rows_isolated}
use Rattle.wgr_request.specs.Request.{Judged, MessageAsks, RequestView, Requests, ask, networks, refused}
use Rattle.wgr_request.proofs.OneRequest.{one_request}
use Rattle.wgr_request.proofs.Secrets.{secrets_unasked}
use Rattle.wgr_office.specs.Pages.{answer_bytes, event_of}
use Rattle.wgr_office.specs.Secrets.{DifferInKeys, SecretsAreUnanswered}

-- the two ask the same
same_request : (one other : Bytes) (r s : RequestView) → DifferInKeys one other → Requests one r → Requests other s → r ≡ s
same_request one other r s d asks asks_too =
    let is : asks.0 ≡ Ok d.message = answers_unique one asks.0 (Ok d.message) asks.1 d.first in
    let here : MessageAsks d.message r = subst (λ m. Judged m r) is asks.2 in
    one_request other r s (Ok (record d.message { body = d.body }), d.second, (secrets_unasked d.message d.body d.name r d.dump d.differ).0 here) asks_too

-- a request has one answer on some rows
one_answer : (now : ℕ) (r : RequestView) (t u v : Tables) (a b : Answer) → IsRowStep t (event_of now r) a u → IsRowStep t (event_of now r) b v → a ≡ b
one_answer now (refused why digest) t u v a b is ix = is.step.answered ∙ sym ix.step.answered
one_answer now (networks digest) t u v a b is ix = is.step.answered ∙ sym ix.step.answered
one_answer now (ask digest name command) t u v a b is ix = is.step.answered ∙ sym ix.step.answered

pub secrets_unanswered : SecretsAreUnanswered
secrets_unanswered now one other r s t u v a b d is ix good step step_too =
    let e = event_of now r in
    let same : s ≡ r = sym (same_request one other r s d is.asks ix.asks) in
    let again : IsRowStep t e b v = subst (λ x. IsRowStep t (event_of now x) b v) same step_too in
    let answer : a ≡ b = one_answer now r t u v a b step again in
    let first = rows_isolated t u ((e, Some a) ∷ []) good (is.proper, tt) (u, step, refl) in
    let second = rows_isolated t v ((e, Some b) ∷ []) good (is.proper, tt) (v, again, refl) in
    record {
      replies = ap (answer_bytes now) answer;
      views = λ me. sym (first.views me) ∙ ap (λ x. (tenant_run me (rows_view t me) ((e, x) ∷ [])).1) answer ∙ second.views me;
    }
