-- The law of two worlds, byte for byte.
use Rattle.std.proofs.Common.{◌≡◌, ℕ, Bool, true, false, List, [], ◌∷◌, Option, Some, None, refl, sym, ap, ap₂, ◌∙◌, subst}
use Rattle.std.specs.Prelude.{if◌then◌else◌}
use Rattle.std.specs.declared.vec.Vec.{Vec}
use Rattle.std.specs.declared.alloc.Global.{Global}
use Rattle.wgr_orders.specs.Orders.{order_event}
use Rattle.wgr_model.specs.Register.{Bytes, View}
use Rattle.wgr_model.specs.RowLaws.{rows_view}
use Rattle.wgr_model.specs.Runs.{Served, acknowledged}
use Rattle.wgr_model.specs.Steps.{Answer, Event, Listed, Plain, is_done}
use Rattle.wgr_model.specs.Tenants.{is_own_event, knows, own_events, tenant_after, tenant_answer, tenant_run}
use Rattle.wgr_orders.specs.declared.order.Order.{Order}
use Rattle.wgr_orders.specs.declared.order.Order.TheVariants as ordered
use Rattle.wgr_model.proofs.WorldLemmas.{not_own, two_worlds}
use Rattle.wgr_office.specs.Events.{AgreeAsGiven, HaveAnswers, IsAnswerIfAny}
use Rattle.wgr_office.specs.Pages.{answer_bytes, event_of, fault_page}
use Rattle.wgr_office.specs.Worlds.{WorldsAreAlike, before_replies, moment_of, own_replies, replies_to}
use Rattle.wgr_office.specs.declared.answer.Answer as given
use Rattle.wgr_office.specs.declared.answer.Answer.TheVariants as givens
use Rattle.wgr_office.specs.declared.run.Event as event
use Rattle.wgr_office.specs.declared.run.Event.TheVariants as events
use Rattle.wgr_reply.specs.declared.response.HttpReply.{HttpReply}
use Rattle.wgr_request.specs.Request.{RequestView, ask, networks, refused}

-- ---- bytes by the event alone

if_some : (b : Bool) (x a : Answer) → (if b then Some x else None) ≡ Some a → x ≡ a
if_some true x a e = cc
if_some false x a e = cc

at_moment : (now : ℕ) (r : RequestView) (v : View) (a : Answer) → tenant_answer v (event_of now r) ≡ Some a → answer_bytes now a ≡ answer_bytes (moment_of (event_of now r)) a
at_moment now (refused why None) v a e = cc
at_moment now (refused why (Some digest)) v a e = subst (λ x. answer_bytes now x ≡ answer_bytes 0 x) (if_some (knows v digest) (Plain (fault_page why)) a e) refl
at_moment now (networks digest) v a e = subst (λ x. answer_bytes now x ≡ answer_bytes 0 x) (if_some (knows v digest) (Listed _) a e) refl
at_moment now (ask digest name command) v a e = refl

no_answer : (v : View) (order : Order) → tenant_answer v (order_event order) ≡ None
no_answer v (ordered.AddTenant name) = refl
no_answer v (ordered.Grant tenant digest right) = refl
no_answer v (ordered.EndToken digest) = refl
no_answer v (ordered.AddNetwork tenant name settings) = refl
no_answer v (ordered.EndNetwork tenant name) = refl

-- ---- one event

asked_front : (now : ℕ) (bytes : Vec ℕ Global) (b : HttpReply) (answers : List given.Answer) (e : Event) (o : Option Answer) (rest : List (Option Answer)) (ys : List Bytes)
    → IsAnswerIfAny (events.Ask now bytes) (givens.Reply b) o → ((a : Answer) → o ≡ Some a → answer_bytes now a ≡ answer_bytes (moment_of e) a) → replies_to answers rest ≡ ys
    → replies_to (givens.Reply b ∷ answers) (o ∷ rest) ≡ before_replies (moment_of e) o ys
asked_front now bytes b answers e None rest ys tells moment same = same
asked_front now bytes b answers e (Some a) rest ys tells moment same = ap₂ (λ x xs. x ∷ xs) (tells.bytes ∙ moment a refl) same

-- the event is the tenant's own, or it has no answer and changes nothing
module _ (me : Bytes) (v : View) (reply : given.Answer) (answers : List given.Answer) (e : Event) (a : Answer) (es : List (Event × Answer)) where
  abbrev w : View
  w = tenant_after me v e (is_done a)

  next : ((ys : List Bytes) → replies_to answers (tenant_run me w es).0 ≡ ys → replies_to (reply ∷ answers) (tenant_answer v e ∷ (tenant_run me w es).0) ≡ before_replies (moment_of e) (tenant_answer v e) ys)
      → (replies_to (reply ∷ answers) (None ∷ (tenant_run me w es).0) ≡ replies_to answers (tenant_run me w es).0)
      → replies_to answers (tenant_run me w es).0 ≡ own_replies me w (own_events me w es)
      → replies_to (reply ∷ answers) (tenant_answer v e ∷ (tenant_run me w es).0) ≡ own_replies me v (own_events me v ((e, a) ∷ es))
  next front skip rest = by_test (is_own_event me v e (is_done a)) refl where
    by_test : (b : Bool) → is_own_event me v e (is_done a) ≡ b → replies_to (reply ∷ answers) (tenant_answer v e ∷ (tenant_run me w es).0) ≡ own_replies me v (if b then (e, is_done a) ∷ own_events me w es else own_events me v es)
    by_test true own = front (own_replies me w (own_events me w es)) rest
    by_test false own =
        let n = not_own me v e (is_done a) own in
        ap (λ o. replies_to (reply ∷ answers) (o ∷ (tenant_run me w es).0)) n.0 ∙ skip ∙ rest ∙ ap (λ x. own_replies me x (own_events me x es)) n.1

-- ---- all of them

pub given_own : (me : Bytes) (v : View) (asked : List event.Event) (answers : List given.Answer) (served : List Served)
    → HaveAnswers asked answers served → AgreeAsGiven asked answers (tenant_run me v (acknowledged served)).0
    → replies_to answers (tenant_run me v (acknowledged served)).0 ≡ own_replies me v (own_events me v (acknowledged served))
given_own me v [] [] [] told agree = refl
given_own me v [] [] (s ∷ served) told agree = absurd told
given_own me v [] (b ∷ answers) served told agree = absurd told
given_own me v (x ∷ asked) [] served told agree = absurd told
given_own me v (x ∷ asked) (b ∷ answers) [] told agree = absurd told
given_own me v (x ∷ asked) (givens.Unavailable ∷ answers) ((e, None) ∷ served) told agree = given_own me v asked answers served told.1 agree
given_own me v (events.Ask now bytes ∷ asked) (givens.Unavailable ∷ answers) ((e, Some a) ∷ served) told agree = absurd told.0.3
given_own me v (events.Order order ∷ asked) (givens.Unavailable ∷ answers) ((e, Some a) ∷ served) told agree = absurd told.0.1
given_own me v (events.Ask now bytes ∷ asked) (givens.Reply b ∷ answers) ((e, None) ∷ served) told agree = absurd told.0
given_own me v (events.Order order ∷ asked) (givens.Reply b ∷ answers) ((e, None) ∷ served) told agree = absurd told.0
given_own me v (events.Ask now bytes ∷ asked) (givens.Reply b ∷ answers) ((e, Some a) ∷ served) told agree =
    let es = acknowledged served in
    let is : e ≡ event_of now told.0.0 = told.0.2 in
    next me v (givens.Reply b) answers e a es
    (λ ys same. asked_front now bytes b answers e (tenant_answer v e) (tenant_run me (tenant_after me v e (is_done a)) es).0 ys agree.0
    (λ x has. subst (λ z. answer_bytes now x ≡ answer_bytes (moment_of z) x) (sym is) (at_moment now told.0.0 v x (subst (λ z. tenant_answer v z ≡ Some x) is has))) same)
    refl (given_own me (tenant_after me v e (is_done a)) asked answers served told.1 agree.1)
given_own me v (events.Order order ∷ asked) (givens.Reply b ∷ answers) ((e, Some a) ∷ served) told agree = absurd told.0.1
given_own me v (events.Ask now bytes ∷ asked) (givens.Order done ∷ answers) ((e, None) ∷ served) told agree = absurd told.0
given_own me v (events.Order order ∷ asked) (givens.Order done ∷ answers) ((e, None) ∷ served) told agree = absurd told.0
given_own me v (events.Ask now bytes ∷ asked) (givens.Order done ∷ answers) ((e, Some a) ∷ served) told agree = absurd told.0.3
given_own me v (events.Order order ∷ asked) (givens.Order done ∷ answers) ((e, Some a) ∷ served) told agree =
    let es = acknowledged served in
    let none : tenant_answer v e ≡ None = ap (tenant_answer v) told.0.0 ∙ no_answer v order in
    next me v (givens.Order done) answers e a es
    (λ ys same. subst (λ o. replies_to (givens.Order done ∷ answers) (o ∷ (tenant_run me (tenant_after me v e (is_done a)) es).0) ≡ before_replies (moment_of e) o ys) (sym none) same)
    refl (given_own me (tenant_after me v e (is_done a)) asked answers served told.1 agree.1)

pub worlds_are_alike : WorldsAreAlike
worlds_are_alike me w x is ix same own =
    let v = rows_view w.rows me in
    let u = rows_view x.rows me in
    let left = acknowledged w.served in
    let right = acknowledged x.served in
    let views = two_worlds me v left right (own ∙ ap (λ z. own_events me z right) (sym same)) in (
      given_own me v w.asked w.answers w.served is.reported (is.apart.answered me)
          ∙ ap₂ (λ z es. own_replies me z es) same own
          ∙ sym (given_own me u x.asked x.answers x.served ix.reported (ix.apart.answered me)),
      sym (is.apart.views me) ∙ views.1 ∙ ap (λ z. (tenant_run me z right).1) same ∙ ix.apart.views me,
    )
