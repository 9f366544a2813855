-- The law of two worlds.
use Rattle.std.proofs.Common.{◌≡◌, Bool, true, false, ◌&&◌, List, [], ◌∷◌, Option, Some, None, is_some, refl, sym, ap, ap₂, ◌∙◌, true≢false}
use Rattle.std.specs.Prelude.{if◌then◌else◌}
use Rattle.std.specs.FinMap as map_
use Rattle.std.specs.Option.{option_map}
use Rattle.wgr_model.specs.Register.{Bytes, View, is_same}
use Rattle.wgr_model.specs.Steps.{AddNetwork, AddTenant, Answer, Ask, Decided, EndNetwork, EndToken, Event, Grant, Networks, is_done}
use Rattle.wgr_model.specs.Tenants.{after_allowed, answer_allowed, in_front, is_own_event, knows, own_events, tenant_after, tenant_answer, tenant_run, answers_given}

-- what isn't the tenant's has no answer and changes nothing
if_false : {A : Type 0} (b : Bool) (x y : A) → b ≡ false → (if b then x else y) ≡ y
if_false true x y e = absurd (true≢false e)
if_false false x y e = refl

unknown : {A : Type 0} (x : Option A) → is_some x ≡ false → x ≡ None
unknown (Some a) e = absurd (true≢false e)
unknown None e = refl

pub not_own : (me : Bytes) (v : View) (e : Event) (done : Bool) → is_own_event me v e done ≡ false → (tenant_answer v e ≡ None) × (tenant_after me v e done ≡ v)
not_own me v (Decided None answer) done h = (refl, refl)
not_own me v (Decided (Some digest) answer) done h = (if_false (knows v digest) _ _ h, refl)
not_own me v (Ask digest name now command) done h = let none = unknown (map_.get v.rights digest) h in (ap (option_map (λ right. answer_allowed right now command (map_.get v.networks name))) none, ap (after_allowed v name now command) none)
not_own me v (Networks digest) done h = (if_false (knows v digest) _ _ h, refl)
not_own me v (AddTenant name) done h = (refl, refl)
not_own me v (Grant tenant digest right) done h = (refl, if_false (done && is_same me tenant) _ _ h)
not_own me v (EndToken digest) done h = (refl, if_false (done && knows v digest) _ _ h)
not_own me v (AddNetwork tenant name network) done h = (refl, if_false (done && is_same me tenant) _ _ h)
not_own me v (EndNetwork tenant name) done h = (refl, if_false (done && is_same me tenant) _ _ h)

-- what the own events alone give
abbrev replies : Bytes → View → List (Event × Bool) → List Answer
replies me v [] = []
replies me v (e ∷ es) = in_front (tenant_answer v e.0) (replies me (tenant_after me v e.0 e.1) es)

abbrev last_view : Bytes → View → List (Event × Bool) → View
last_view me v [] = v
last_view me v (e ∷ es) = last_view me (tenant_after me v e.0 e.1) es

abbrev run_given : Bytes → View → List (Event × Answer) → List Answer
run_given me v es = answers_given (tenant_run me v es).0

abbrev run_view : Bytes → View → List (Event × Answer) → View
run_view me v es = (tenant_run me v es).1

told_own : (me : Bytes) (v : View) (es : List (Event × Answer)) → run_given me v es ≡ replies me v (own_events me v es)
told_own me v [] = refl
told_own me v (e ∷ es) = by_test (is_own_event me v e.0 (is_done e.1)) refl (told_own me v es) (told_own me (tenant_after me v e.0 (is_done e.1)) es) where
  w : View
  w = tenant_after me v e.0 (is_done e.1)

  by_test : (b : Bool) → is_own_event me v e.0 (is_done e.1) ≡ b → run_given me v es ≡ replies me v (own_events me v es) → run_given me w es ≡ replies me w (own_events me w es) → in_front (tenant_answer v e.0) (run_given me w es) ≡ replies me v (if b then (e.0, is_done e.1) ∷ own_events me w es else own_events me v es)
  by_test true h skip take = ap (in_front (tenant_answer v e.0)) take
  by_test false h skip take = let n = not_own me v e.0 (is_done e.1) h in ap₂ (λ a x. in_front a (run_given me x es)) n.0 n.1 ∙ skip

view_own : (me : Bytes) (v : View) (es : List (Event × Answer)) → run_view me v es ≡ last_view me v (own_events me v es)
view_own me v [] = refl
view_own me v (e ∷ es) = by_test (is_own_event me v e.0 (is_done e.1)) refl (view_own me v es) (view_own me (tenant_after me v e.0 (is_done e.1)) es) where
  w : View
  w = tenant_after me v e.0 (is_done e.1)

  by_test : (b : Bool) → is_own_event me v e.0 (is_done e.1) ≡ b → run_view me v es ≡ last_view me v (own_events me v es) → run_view me w es ≡ last_view me w (own_events me w es) → run_view me w es ≡ last_view me v (if b then (e.0, is_done e.1) ∷ own_events me w es else own_events me v es)
  by_test true h skip take = take
  by_test false h skip take = let n = not_own me v e.0 (is_done e.1) h in ap (λ x. run_view me x es) n.1 ∙ skip

-- lists that agree on the tenant's own events, from one view
pub two_worlds : (me : Bytes) (v : View) (es fs : List (Event × Answer)) → own_events me v es ≡ own_events me v fs → (answers_given (tenant_run me v es).0 ≡ answers_given (tenant_run me v fs).0) × ((tenant_run me v es).1 ≡ (tenant_run me v fs).1)
two_worlds me v es fs h = (
  told_own me v es ∙ ap (replies me v) h ∙ sym (told_own me v fs),
  view_own me v es ∙ ap (last_view me v) h ∙ sym (view_own me v fs),
)
