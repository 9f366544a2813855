-- The prefixes that the items of a field spell.
use Rattle.std.specs.Prelude.{ℕ, true, false, Bool, List, refl, ◌≡◌}
use Rattle.std.specs.Coded.{Coded, code_by, coded×, coded_ℕ, coded_bool}
use Rattle.wgr_text.specs.declared.addr.Family.{Family}
use Rattle.wgr_text.specs.declared.addr.Family.TheVariants.{V4, V6}
use Rattle.wgr_text.specs.Prefix.{PrefixValue}
use Rattle.wgr_dump.specs.Fields.{SpellsMasked}
use Rattle.wgr_dump.specs.Meant.{Meant, Meant-prop}
use Rattle.wgr_dump.specs.Unique.{one_masked}

abbrev pub is_v4 : Family → Bool
is_v4 V4 = true
is_v4 V6 = false

abbrev pub family_if_v4 : Bool → Family
family_if_v4 true = V4
family_if_v4 false = V6

pub same_family_of : (f : Family) → family_if_v4 (is_v4 f) ≡ f
same_family_of V4 = refl
same_family_of V6 = refl

-- a prefix as numbers, and back
abbrev pub code_of : PrefixValue → Bool × (ℕ × ℕ)
code_of p = (is_v4 p.address.family, (p.address.number, p.length))

abbrev pub prefix_of : Bool × (ℕ × ℕ) → PrefixValue
prefix_of t = record { address = record { family = family_if_v4 t.0; number = t.1.0 }; length = t.1.1 }

pub kept : (p : PrefixValue) → prefix_of (code_of p) ≡ p
kept p = λ i. record { address = record { family = same_family_of p.address.family i; number = p.address.number }; length = p.length }

abbrev pub coded_prefix : Coded PrefixValue
coded_prefix = code_by (Bool × (ℕ × ℕ)) (coded× coded_bool (coded× coded_ℕ coded_ℕ)) code_of prefix_of kept

abbrev pub MeantPrefixes : List (List ℕ) → Type 0
MeantPrefixes items = Meant SpellsMasked items

pub MeantPrefixes-prop : (items : List (List ℕ)) → IsProp (MeantPrefixes items)
MeantPrefixes-prop items = Meant-prop SpellsMasked coded_prefix one_masked items
