-- Numbers that stand among others.
use Rattle.std.proofs.Common.{◌≡◌, ◌<◌, ◌^◌, ℕ, ℤ, pos, List, get_or, true, nat_eq, Fits, w32, sym, ap, subst, ◌∙◌, arith}
use Rattle.std.specs.Int.{FitsUnsignedBits}
use Rattle.std.specs.List.{list_any}
use Rattle.sqlite.specs.declared.types.Value.{Value}
use Rattle.sqlite.specs.declared.types.Value.TheVariants.{Int}
use Rattle.sqlite_rules.specs.Edit.{id_in}
use Rattle.sqlite_rules.proofs.ListLemmas.{all_has, some_has}
use Rattle.wgr_pool.proofs.PrefixLemmas.{nat_eq_is}
use Rattle.wgr_checks.proofs.ListLemmas.{all_places}

-- what is among numbers of 32 bits is one
pub among_low : (n : ℕ) (ns : List ℕ) → ((i : ℕ) → Fits w32 (get_or ns i 0)) → list_any (λ id. nat_eq n id) ns ≡ true → n < 2 ^ 32
among_low n ns fits any =
    let found = some_has (nat_eq n) ns any in
    let low : found.0 < 2 ^ 32 = all_has (λ x. x < 2 ^ 32) ns found.0 (all_places (λ x. x < 2 ^ 32) ns 0 (λ k short. let f = fits k in omega (arith, f))) found.1 in
    let same : n ≡ found.0 = nat_eq_is n found.0 found.2 in
    omega (arith, low, same)

pub among_fits : (v : Value) (z : ℤ) (n : ℕ) (ns : List ℕ) → v ≡ Int z → v ≡ Int (pos n) → ((i : ℕ) → Fits w32 (get_or ns i 0)) → list_any (λ id. nat_eq n id) ns ≡ true → FitsUnsignedBits 32 z
among_fits v z n ns one other fits any = subst (FitsUnsignedBits 32) (ap id_in (sym other ∙ one)) (among_low n ns fits any)
