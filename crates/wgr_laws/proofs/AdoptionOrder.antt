-- The lines in the order in which they are adopted: each once.
use Rattle.std.proofs.Common.{◌≡◌, ℕ, suc, ◌+◌, Bool, true, false, not, cond, List, [], ◌∷◌, ◌++◌, length, get_or, refl, ap, ◌∙◌}
use Rattle.std.specs.List.{All, AllPairs, filter}
use Rattle.std.proofs.lemmas.List.{length-append}
use Rattle.std.proofs.lemmas.List.Elements.{All-cons, All-contains, All-filter, All-head, All-nil, All-tail, Contains-append_left, Contains-append_right, Contains-get_or}
use Rattle.std.proofs.lemmas.List.Filters.{length-filter_both}
use Rattle.wgr_text.specs.Prefix.{PrefixValue}
use Rattle.wgr_core.specs.declared.seen_peer.SeenPeer.{SeenPeer}
use Rattle.wgr_core.specs.Adoption.{names_address, numbered_from, adoption_order}
use Rattle.wgr_pool.proofs.Lists.{AllPairs-cons, AllPairs-filter, AllPairs-head, AllPairs-nil, AllPairs-tail}
use Rattle.wgr_core.proofs.AdoptSteps.{numbered_all}
use Rattle.wgr_core.proofs.AllowedLemmas.{AllPairs-append}

-- ---- a list in two parts: what passes a test, and then the rest

module _ {X : Type 0} (p : X → Bool) where
  abbrev rest_of : List X → List X
  rest_of xs = filter (λ x. not (p x)) xs

  all_parts : (P : X → Type 0) (xs : List X) → All P (filter p xs) → All P (rest_of xs) → All P xs
  all_parts P [] kept left = All-nil P
  all_parts P (x ∷ xs) kept left = by_test (p x) kept left (all_parts P xs)
    where
      by_test : (b : Bool) → All P (cond b (x ∷ filter p xs) (filter p xs)) → All P (cond (not b) (x ∷ rest_of xs) (rest_of xs)) → (All P (filter p xs) → All P (rest_of xs) → All P xs) → All P (x ∷ xs)
      by_test true kept left rest = All-cons P x xs (All-head P x (filter p xs) kept) (rest (All-tail P x (filter p xs) kept) left)
      by_test false kept left rest = All-cons P x xs (All-head P x (rest_of xs) left) (rest kept (All-tail P x (rest_of xs) left))

  across_parts : (R : X → X → Type 0) (xs : List X) → ((x y : X) → R x y → R y x) → AllPairs R xs → All (λ x. All (R x) (rest_of xs)) (filter p xs)
  across_parts R [] turn pairs = All-nil (λ x. All (R x) [])
  across_parts R (x ∷ xs) turn pairs =
      let first = AllPairs-head R x xs pairs in
      let rest = across_parts R xs turn (AllPairs-tail R x xs pairs) in
      elim (p x) as (λ b. All (λ y. All (R y) (cond (not b) (x ∷ rest_of xs) (rest_of xs))) (cond b (x ∷ filter p xs) (filter p xs))) [
        | true ↦ All-cons (λ y. All (R y) (rest_of xs)) x (filter p xs) (All-filter (λ y. not (p y)) (R x) xs first) rest
        | false ↦ (λ k d h. All-cons (R (get_or (filter p xs) k d)) x (rest_of xs) (turn x (get_or (filter p xs) k d) (All-filter p (R x) xs first k d h)) (rest k d h))
      ]

  pairs_parted : (R : X → X → Type 0) (xs : List X) → ((x y : X) → R x y → R y x) → AllPairs R xs → AllPairs R (filter p xs ++ rest_of xs)
  pairs_parted R xs turn pairs = AllPairs-append R (filter p xs) (rest_of xs) (AllPairs-filter R p xs pairs) (AllPairs-filter R (λ x. not (p x)) xs pairs) (across_parts R xs turn pairs)

-- ---- the lines

unnumbered : (P : SeenPeer → Type 0) (number : ℕ) (lines : List SeenPeer) → All (λ l. P l.1) (numbered_from number lines) → All P lines
unnumbered P number [] all = All-nil P
unnumbered P number (line ∷ more) all =
    All-cons P line more (All-head (λ (l : ℕ × SeenPeer). P l.1) (number, line) (numbered_from (number + 1) more) all)
    (unnumbered P (number + 1) more (All-tail (λ (l : ℕ × SeenPeer). P l.1) (number, line) (numbered_from (number + 1) more) all))

-- what holds of each line in the order holds of each line
pub all_lines : (P : SeenPeer → Type 0) (pool : PrefixValue) (lines : List SeenPeer) → All (λ l. P l.1) (adoption_order pool lines) → All P lines
all_lines P pool lines all =
    let numbered = numbered_from 2 lines in
    let first = filter (λ (l : ℕ × SeenPeer). names_address pool l.1) numbered in
    let last = filter (λ (l : ℕ × SeenPeer). not (names_address pool l.1)) numbered in
    unnumbered P 2 lines
    (all_parts (λ (l : ℕ × SeenPeer). names_address pool l.1) (λ l. P l.1) numbered
    (λ k d h. All-contains (λ (l : ℕ × SeenPeer). P l.1) (first ++ last) (get_or first k d) all (Contains-append_left first last (get_or first k d) (Contains-get_or first k d h)))
    (λ k d h. All-contains (λ (l : ℕ × SeenPeer). P l.1) (first ++ last) (get_or last k d) all (Contains-append_right first last (get_or last k d) (Contains-get_or last k d h))))

numbered_pairs : (R : SeenPeer → SeenPeer → Type 0) (number : ℕ) (lines : List SeenPeer) → AllPairs R lines → AllPairs (λ k l. R k.1 l.1) (numbered_from number lines)
numbered_pairs R number [] pairs = AllPairs-nil (λ (k l : ℕ × SeenPeer). R k.1 l.1)
numbered_pairs R number (line ∷ more) pairs =
    AllPairs-cons (λ (k l : ℕ × SeenPeer). R k.1 l.1) (number, line) (numbered_from (number + 1) more) (numbered_all (R line) (number + 1) more (AllPairs-head R line more pairs))
    (numbered_pairs R (number + 1) more (AllPairs-tail R line more pairs))

-- what holds of any two lines, in either order, holds of any two in the order
pub paired_lines : (R : SeenPeer → SeenPeer → Type 0) (pool : PrefixValue) (lines : List SeenPeer) → ((k l : SeenPeer) → R k l → R l k) → AllPairs R lines → AllPairs (λ k l. R k.1 l.1) (adoption_order pool lines)
paired_lines R pool lines turn pairs =
    pairs_parted (λ (l : ℕ × SeenPeer). names_address pool l.1) (λ k l. R k.1 l.1) (numbered_from 2 lines) (λ k l is. turn k.1 l.1 is) (numbered_pairs R 2 lines pairs)

-- each line has its place
pub length-order : (pool : PrefixValue) (lines : List SeenPeer) → length (adoption_order pool lines) ≡ length lines
length-order pool lines =
    length-append (filter (λ (l : ℕ × SeenPeer). names_address pool l.1) (numbered_from 2 lines)) (filter (λ l. not (names_address pool l.1)) (numbered_from 2 lines))
    ∙ length-filter_both (λ (l : ℕ × SeenPeer). names_address pool l.1) (λ l. not (names_address pool l.1)) (λ l. refl) (numbered_from 2 lines)
    ∙ numbered 2 lines
  where
    numbered : (number : ℕ) (lines : List SeenPeer) → length (numbered_from number lines) ≡ length lines
    numbered number [] = refl
    numbered number (line ∷ more) = ap (λ k. suc k) (numbered (number + 1) more)
