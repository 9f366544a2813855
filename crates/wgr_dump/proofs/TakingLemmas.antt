-- What the first field says, and where a line goes bad.
use Rattle.std.proofs.Common.{◌≡◌, true, false, ℕ, suc, List, [], ◌∷◌, Option, Some, None, MatchOption, IfSome, IfNone, refl, sym, ap, subst, ◌∙◌}
use Rattle.std.specs.Borrow.{Bor}
use Rattle.std.specs.Option.{is_some}
use Rattle.std.proofs.lemmas.Bool.{false≢true}
use Rattle.wgr_dump.specs.Fields.{Form, IsOf}
use Rattle.wgr_dump.specs.Fault.{IsBadField}
use Rattle.wgr_dump.specs.Taking.{IsBadHead, TakesField}

pub taken : {B : Type 0} (form : Form) (R : List ℕ → B → Type 0) → ((field : List ℕ) → IsOf form field → (v : B) × R field v) → (field : List ℕ) (old new : List (List ℕ)) → old ≡ field ∷ new
    → (r : Option B) → IfSome r (R field) → IfNone r ((v : B) → ¬ (R field v)) → MatchOption r (IsBadHead form old) (λ v. TakesField (λ f. R f v) old new)
taken form R says field old new is None some none = subst (λ fields. IsBadHead form fields) (sym is) (λ of. let v = says field of in none v.0 v.1)
taken form R says field old new is (Some v) some none = (field, is, some)

-- the first field is the bad one
pub bad_here : (form : Form) (forms : List Form) (fields : List (List ℕ)) → IsBadHead form fields → IsBadField (form ∷ forms) fields 0
bad_here form forms [] bad = refl
bad_here form forms (field ∷ fields) bad = bad

-- or one of those after it
pub bad_later : (form : Form) (forms : List Form) (field : List ℕ) (old new : List (List ℕ)) (n : ℕ) → old ≡ field ∷ new → IsOf form field → IsBadField forms new n → IsBadField (form ∷ forms) old (suc n)
bad_later form forms field old new n is of bad = subst (λ fields. IsBadField (form ∷ forms) fields (suc n)) (sym is) (of, bad)

-- or there is one too many
pub bad_end : (old new : List (List ℕ)) (next : Option (Bor (List ℕ))) → MatchOption next ((old ≡ []) × (new ≡ [])) (λ field. old ≡ field.now ∷ new) → is_some next ≡ true → IsBadField [] old 0
bad_end old new None is more = absurd (false≢true more)
bad_end old new (Some field) is more = subst (λ fields. IsBadField [] fields 0) (sym is) refl

-- or none is left
pub at_end : (old new : List (List ℕ)) (next : Option (Bor (List ℕ))) → MatchOption next ((old ≡ []) × (new ≡ [])) (λ field. old ≡ field.now ∷ new) → is_some next ≡ false → old ≡ []
at_end old new None is more = is.0
at_end old new (Some field) is more = absurd (false≢true (sym more))

-- what is left after the first field
pub field_then : (field : List ℕ) (old new more : List (List ℕ)) → old ≡ field ∷ new → new ≡ more → old ≡ field ∷ more
field_then field old new more is rest = is ∙ ap (λ t. field ∷ t) rest
