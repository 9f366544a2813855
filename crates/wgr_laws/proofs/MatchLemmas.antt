-- The longest match.
use Rattle.std.proofs.Common.{◌≡◌, ℕ, suc, ◌≤◌, inl, inr, true, false, cond, nat_lt, List, [], ◌∷◌, Option, Some, None, refl, sym, ◌∙◌, subst, arith}
use Rattle.std.specs.Prelude.{option_map}
use Rattle.std.specs.List.{All, Contains}
use Rattle.std.proofs.lemmas.Bool.Decides.{nat_tests}
use Rattle.std.proofs.lemmas.List.Elements.{All-nil, All-cons}
use Rattle.wgr_text.specs.Prefix.{AddrValue, PrefixValue}
use Rattle.wgr_pool.specs.PrefixTests.{has}
use Rattle.wgr_peers.specs.Routes.{Routes}
use Rattle.wgr_core.specs.Network.{NetworkValue}
use Rattle.wgr_core.specs.Owner.{allowed, longer, longest_match, owner_of}
use Rattle.wgr_laws.specs.Laws.{IsLongestMatch}
use Rattle.wgr_pool.proofs.Bools.{decide}

pub Contains-here : {X : Type 0} (x : X) (xs : List X) → Contains (x ∷ xs) x
Contains-here x xs = (0, omega arith, refl)

pub Contains-later : {X : Type 0} (y : X) (xs : List X) (x : X) → Contains xs x → Contains (y ∷ xs) x
Contains-later y xs x there = let l = there.1 in (suc there.0, omega (arith, l), there.2)

-- what is told of a list by the longest of those that have the address
abbrev Tells : Routes → AddrValue → Option (PrefixValue × ℕ) → Type 0
Tells routes a None = All (λ s. has s.0 a ≡ false) routes
Tells routes a (Some r) = Contains routes r × (has r.0 a ≡ true) × All (λ s. has s.0 a ≡ true → s.0.length ≤ r.0.length) routes

skip : (s : PrefixValue × ℕ) (routes : Routes) (a : AddrValue) (best : Option (PrefixValue × ℕ)) → has s.0 a ≡ false → Tells routes a best → Tells (s ∷ routes) a best
skip s routes a None apart told = All-cons (λ s. has s.0 a ≡ false) s routes apart told
skip s routes a (Some r) apart told =
    (Contains-later s routes r told.0, told.1, All-cons (λ s. has s.0 a ≡ true → s.0.length ≤ r.0.length) s routes (λ h. let bad : true ≡ false = sym h ∙ apart in cc) told.2)

not_longer : (m n : ℕ) → nat_lt m n ≡ false → n ≤ m
not_longer m n h = grind (arith, nat_tests)

is_longer : (m n : ℕ) → nat_lt m n ≡ true → m ≤ n
is_longer m n h = grind (arith, nat_tests)

take : (s : PrefixValue × ℕ) (routes : Routes) (a : AddrValue) (best : Option (PrefixValue × ℕ)) → has s.0 a ≡ true → Tells routes a best → Tells (s ∷ routes) a (longer (Some s) best)
take s routes a None here told = (
  Contains-here s routes,
  here,
  All-cons (λ t. has t.0 a ≡ true → t.0.length ≤ s.0.length) s routes (λ h. omega arith) (λ k d l h. let bad : true ≡ false = sym h ∙ told k d l in cc),
)
take s routes a (Some r) here told = elim (decide (nat_lt s.0.length r.0.length)) [
  | inl less ↦ subst (λ b. Tells (s ∷ routes) a (cond b (Some r) (Some s))) (sym less)
      (Contains-later s routes r told.0, told.1, All-cons (λ t. has t.0 a ≡ true → t.0.length ≤ r.0.length) s routes (λ h. is_longer s.0.length r.0.length less) told.2)
  | inr least ↦
      let from = not_longer s.0.length r.0.length least in
      subst (λ b. Tells (s ∷ routes) a (cond b (Some r) (Some s))) (sym least)
      (Contains-here s routes, here, All-cons (λ t. has t.0 a ≡ true → t.0.length ≤ s.0.length) s routes (λ h. omega arith) (λ k d l h. omega (arith, from, told.2 k d l h)))
]

match_tells : (routes : Routes) (a : AddrValue) → Tells routes a (longest_match routes a)
match_tells [] a = All-nil (λ s. has s.0 a ≡ false)
match_tells (s ∷ routes) a = elim (decide (has s.0 a)) [
  | inl here ↦ subst (λ b. Tells (s ∷ routes) a (longer (cond b (Some s) None) (longest_match routes a))) (sym here) (take s routes a (longest_match routes a) here (match_tells routes a))
  | inr apart ↦ subst (λ b. Tells (s ∷ routes) a (longer (cond b (Some s) None) (longest_match routes a))) (sym apart) (skip s routes a (longest_match routes a) apart (match_tells routes a))
]

pub match_is_longest : (n : NetworkValue) (a : AddrValue) (r : PrefixValue × ℕ) → longest_match (allowed n) a ≡ Some r → IsLongestMatch n a r
match_is_longest n a r found =
    let told = subst (Tells (allowed n) a) found (match_tells (allowed n) a) in
    record { is_allowed = told.0; has_it = told.1; longest = told.2 }

pub no_match_is_none : (n : NetworkValue) (a : AddrValue) → longest_match (allowed n) a ≡ None → All (λ s. has s.0 a ≡ false) (allowed n)
no_match_is_none n a found = subst (Tells (allowed n) a) found (match_tells (allowed n) a)

pub owner_has_longest : (n : NetworkValue) (a : AddrValue) (i : ℕ) → owner_of n a ≡ Some i → (r : PrefixValue × ℕ) × IsLongestMatch n a r × (r.1 ≡ i)
owner_has_longest n a i found = by_match (longest_match (allowed n) a) refl found
  where
    by_match : (best : Option (PrefixValue × ℕ)) → longest_match (allowed n) a ≡ best → option_map (λ r. r.1) best ≡ Some i → (r : PrefixValue × ℕ) × IsLongestMatch n a r × (r.1 ≡ i)
    by_match None is h = cc
    by_match (Some r) is h = (r, match_is_longest n a r is, cc)

pub nobody_owns : (n : NetworkValue) (a : AddrValue) → owner_of n a ≡ None → All (λ s. has s.0 a ≡ false) (allowed n)
nobody_owns n a found = by_match (longest_match (allowed n) a) refl found
  where
    by_match : (best : Option (PrefixValue × ℕ)) → longest_match (allowed n) a ≡ best → option_map (λ r. r.1) best ≡ None → All (λ s. has s.0 a ≡ false) (allowed n)
    by_match None is h = no_match_is_none n a is
    by_match (Some r) is h = cc
