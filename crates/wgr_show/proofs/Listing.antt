-- The entries that are made are those that are shown.
use Rattle.std.proofs.Common.{◌≡◌, ℕ, ◌+◌, ◌<◌, Bool, List, [], ◌∷◌, length, filter, map, cond, true, false, not, ◌&&◌, ◌||◌, ◌==◌, is_some, Option, Some, None, nat_eq, refl, sym, ap, ◌∙◌, subst, arith}
use Rattle.std.specs.List.{list_any}
use Rattle.std.specs.Option.{option_map}
use Rattle.std.specs.List.Sorted.{IsPermutation, IsSortedBy, IsSortedByKey}
use Rattle.std.specs.Cmp.{IsTotalOrder}
use Rattle.std.specs.Cmp.Lexicographic.{nat_list_cmp_total}
use Rattle.std.proofs.lemmas.Bool.Decides.{nat_tests}
use Rattle.std.proofs.lemmas.Cmp.{on_total, then_total, nat_cmp_total}
use Rattle.std.proofs.lemmas.List.{get_or-map, length-map}
use Rattle.std.proofs.lemmas.List.Sorted.{length_permutation, ranks_by}
use denote.Ref.{Bor}
use Rattle.wgr_model.specs.Register.{Bytes, Tenant, is_same}
use Rattle.wgr_orders.specs.declared.census.Census.{Census}
use Rattle.wgr_orders.specs.declared.census.Counted.{Counted}
use Rattle.wgr_orders.specs.declared.census.Granted.{Granted}
use Rattle.wgr_show.specs.Entries.{entry_of}
use Rattle.wgr_show.specs.Owned.{network_cmp, owned_cmp, token_cmp}
use Rattle.wgr_show.specs.Shown.{IsSortedOf, ShowsEach, asked_tenants, is_asked, is_there}
use Rattle.wgr_show.proofs.Permuted.{filter_permuted}
use Rattle.wgr_show.proofs.Rising.{rises_from, rises_owned, sorted_from}

pub filter_of_map : {X Y : Type 0} (f : Y → X) (p : X → Bool) (ys : List Y) → filter p (map f ys) ≡ map f (filter (λ y. p (f y)) ys)
filter_of_map f p [] = refl
filter_of_map f p (y ∷ ys) =
    let rest = filter_of_map f p ys in
    elim (p (f y)) as (λ b. cond b (f y ∷ filter p (map f ys)) (filter p (map f ys)) ≡ map f (cond b (y ∷ filter (λ y. p (f y)) ys) (filter (λ y. p (f y)) ys))) [
      | true ↦ ap (λ xs. f y ∷ xs) rest
      | false ↦ rest
    ]

pub map_of_map : {X Y Z : Type 0} (f : Y → X) (g : X → Z) (ys : List Y) → map g (map f ys) ≡ map (λ y. g (f y)) ys
map_of_map f g [] = refl
map_of_map f g (y ∷ ys) = ap (λ zs. g (f y) ∷ zs) (map_of_map f g ys)

pub owned_total : {X : Type 0} (owner : X → ℕ) (label : X → List ℕ) → IsTotalOrder (owned_cmp owner label)
owned_total owner label = then_total (on_total owner nat_cmp_total) (on_total label nat_list_cmp_total)

-- the values of what is sorted are sorted
pub sorted_values : {X Y : Type 0} (f : Y → X) (lt : X → X → Bool) (ys : List Y) → IsSortedBy (λ a b. lt (f a) (f b)) ys → IsSortedBy lt (map f ys)
sorted_values f lt [] up k d low high = absurd (omega (arith, high))
sorted_values f lt (y ∷ ys) up k d low high =
    let inside : k + 1 < length (y ∷ ys) = subst (λ n. k + 1 < n) (length-map (y ∷ ys) f) high in
    let one = get_or-map f (y ∷ ys) (k + 1) y d inside in
    let other = get_or-map f (y ∷ ys) k y d (omega (arith, inside)) in
    rw (one, other) (up k y low inside)

-- what one owner has
module _ {X : Type 0} (owner : X → ℕ) (label : X → List ℕ) (all : List X) (refs : List (Bor X)) (same : IsPermutation all (map (λ r. r.now) refs)) (up : IsSortedByKey (λ r. r.now) (owned_cmp owner label) refs) where
  pub owned_sorted : (id : ℕ) → IsSortedOf label (filter (λ x. nat_eq (owner x) id) all) (map (λ r. r.now) (filter (λ r. nat_eq (owner r.now) id) refs))
  owned_sorted id = record {
    same = subst (IsPermutation (filter (λ x. nat_eq (owner x) id) all)) (filter_of_map (λ r. r.now) (λ x. nat_eq (owner x) id) refs) (filter_permuted (λ x. nat_eq (owner x) id) _ _ same);
    sorted = sorted_from _ _ (rises_owned (λ r. r.now) owner label id refs (rises_from _ (ranks_by (owned_total owner label) (λ r. r.now)) refs up));
  }

module _ (c : Census) (tokens : List (Bor Granted)) (networks : List (Bor Counted))
    (same_tokens : IsPermutation c.tokens.items (map (λ r. r.now) tokens)) (token_order : IsSortedByKey (λ r. r.now) token_cmp tokens)
    (same_networks : IsPermutation c.networks.items (map (λ r. r.now) networks)) (network_order : IsSortedByKey (λ r. r.now) network_cmp networks) where
  pub shows_each : (ts : List (Bor Tenant)) → ShowsEach c (map (λ r. r.now) ts) (map (λ t. entry_of tokens networks t.now) ts)
  shows_each [] = tt
  shows_each (t ∷ ts) = (
    record {
      name = refl;
      tokens = owned_sorted (λ x. x.token.tenant) (λ x. x.token.digest) c.tokens.items tokens same_tokens token_order t.now.id;
      networks = owned_sorted (λ n. n.network_entry.tenant) (λ n. n.network_entry.name) c.networks.items networks same_networks network_order t.now.id;
    },
    shows_each ts,
  )

-- ---- whether there is what is asked for

any_left : {X : Type 0} (p : X → Bool) (xs : List X) → list_any p xs ≡ not (length (filter p xs) == 0)
any_left p [] = refl
any_left p (x ∷ xs) =
    let rest = any_left p xs in
    let cases : (b : Bool) → (b || list_any p xs) ≡ not (length (cond b (x ∷ filter p xs) (filter p xs)) == 0) = λ b. elim b as (λ b. (b || list_any p xs) ≡ not (length (cond b (x ∷ filter p xs) (filter p xs)) == 0)) [
      | true ↦ grind (arith, nat_tests)
      | false ↦ rest
    ] in
    cases (p x)

pub there_unless_missing : (name : Option (Bor Bytes)) (tenants : List Tenant) (found : List (Bor Tenant))
    → IsPermutation (asked_tenants (option_map (λ n. n.now) name) tenants) (map (λ r. r.now) found)
    → is_there (option_map (λ n. n.now) name) tenants ≡ not (is_some name && (length found == 0))
there_unless_missing None tenants found same = refl
there_unless_missing (Some name) tenants found same =
    let count : length (filter (is_asked (Some name.now)) tenants) ≡ length found = sym (length_permutation _ _ same) ∙ length-map found (λ r. r.now) in
    any_left (λ t. is_same name.now t.name) tenants ∙ ap (λ n. not (n == 0)) count
