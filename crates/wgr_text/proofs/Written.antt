-- What is appended to a vector.
use Rattle.std.proofs.Common.{◌≡◌, ℕ, List, ◌++◌, sym, ◌∙◌, ap, if◌then◌else◌, Result, Ok, Err, OnOk, is_ok}
use Rattle.std.specs.Net.Text.{ipv4_text, hex_groups_text}
use Rattle.wgr_text.specs.declared.addr.Family.{Family}
use Rattle.wgr_text.specs.declared.addr.Family.TheVariants.{V4, V6}
use Rattle.wgr_text.specs.Prefix.{AddrValue}
use Rattle.wgr_text.specs.PrefixText.{canonical_number, canonical_addr, octets_of_number, groups_of_number}

pub appended : {E : Type 0} (r : Result (Unit {0}) E) (new old text want : List ℕ) → new ≡ (if is_ok r then old ++ text else old) → text ≡ want → OnOk r (new ≡ old ++ want)
appended (Ok u) new old text want is same = is ∙ ap (λ (x : List ℕ). old ++ x) same
appended (Err e) new old text want is same = tt

pub canonical_v4 : (a : AddrValue) (f : Family) → f ≡ a.family → f ≡ V4 → canonical_addr a ≡ ipv4_text (octets_of_number a.number)
canonical_v4 a f same is = ap (λ g. canonical_number g a.number) (sym same ∙ is)

pub canonical_v6 : (a : AddrValue) (f : Family) → f ≡ a.family → f ≡ V6 → canonical_addr a ≡ hex_groups_text (groups_of_number a.number)
canonical_v6 a f same is = ap (λ g. canonical_number g a.number) (sym same ∙ is)
