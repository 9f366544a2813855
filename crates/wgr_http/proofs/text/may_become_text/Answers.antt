use Rattle.std.proofs.Common.{◌≡◌, ℕ, Bool, true, false, not, Option, Some, None, is_some, sym, ◌∙◌, refl}
use Rattle.wgr_http.proofs.text.may_become_text.Goals as goal
use Rattle.wgr_http.proofs.TextLemmas.{MayBecomeText_at, NeverBecomesText_at}

is_none_when_true : (len : Option ℕ) (answer : Bool) → is_some len ≡ not answer → answer ≡ true → len ≡ None
is_none_when_true None answer same holds = refl
is_none_when_true (Some n) true same holds = cc
is_none_when_true (Some n) false same holds = cc

is_some_when_false : (len : Option ℕ) (answer : Bool) → is_some len ≡ not answer → answer ≡ false → ¬ (len ≡ None)
is_some_when_false len true same fails none = cc
is_some_when_false None false same fails none = cc
is_some_when_false (Some n) false same fails none = cc

pub returns-in-Err-clause-may : goal.returns-in-Err-clause-may
returns-in-Err-clause-may c holds =
    MayBecomeText_at _ _ c.in-Err.ensures.cases.1
    (sym (c.error_len.ensures ∙ c.in-Err.ensures.fault) ∙ is_none_when_true _ _ c.is_none.ensures holds)

pub returns-in-Err-clause-never : goal.returns-in-Err-clause-never
returns-in-Err-clause-never c fails =
    NeverBecomesText_at _ _ c.in-Err.ensures.cases.1
    λ none. is_some_when_false _ _ c.is_none.ensures fails (c.error_len.ensures ∙ c.in-Err.ensures.fault ∙ none)
