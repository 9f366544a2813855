use Rattle.std.proofs.Common.{◌≡◌, ◌∷◌, ℕ, List, Option, Some, None, MatchOption, IfSome, IfNone, sym, subst}
use Rattle.wgr_text.specs.Prefix.{PrefixValue}
use Rattle.wgr_dump.specs.declared.remaining_parts.RemainingParts.{RemainingParts}
use Rattle.wgr_dump.specs.Fields.{OneByOne, SpellsMasked, SpellsAllowed, prefixes}
use Rattle.wgr_dump.specs.PartsLeft.{left}
use Rattle.wgr_dump.specs.Taking.{IsBadHead, TakesField}
use Rattle.wgr_dump.proofs.taking.take_allowed.Goals as goal

items_taken : (field : List ℕ) (old new : List (List ℕ)) → old ≡ field ∷ new → (r : Option RemainingParts) → IfSome r (λ items. (ps : List PrefixValue) × SpellsAllowed field ps × OneByOne SpellsMasked (left items) ps) → IfNone r ((ps : List PrefixValue) → ¬ (SpellsAllowed field ps))
    → MatchOption r (IsBadHead prefixes old) (λ items. (ps : List PrefixValue) × OneByOne SpellsMasked (left items) ps × TakesField (λ f. SpellsAllowed f ps) old new)
items_taken field old new is None some none = subst (λ fields. IsBadHead prefixes fields) (sym is) (λ of. none of.0 of.1)
items_taken field old new is (Some items) some none = (some.0, some.2, (field, is, some.1))

pub returns : goal.returns
returns c = items_taken c.in_ok-field.field.now _ _ c.in_ok-field.ensures c.read_allowed.result c.read_allowed.ensures.spelled c.read_allowed.ensures.none
