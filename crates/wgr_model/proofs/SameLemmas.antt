-- The order of rows is of no account.
use Rattle.std.specs.Prelude.{if◌then◌else◌}
use Rattle.std.proofs.Common.{◌≡◌, ℕ, ◌≤◌, Bool, true, false, cond, ◌&&◌, ◌||◌, List, [], ◌∷◌, map, find, Some, None, Option, nat_eq, refl, sym, ap, ap₂, subst, ◌∙◌, arith, true≢false, option_map, ◌⊎◌, inl, inr, IsPermutation}
use Rattle.std.specs.List.{list_any, IsDistinct, AllByRecursion}
use Rattle.std.proofs.lemmas.List.Elements.{recursion_from_All, All-from_recursion}
use Rattle.std.proofs.lemmas.List.Sorted.{All-permutation, IsPermutation-map, IsPermutation-sym, list_any-IsPermutation, length_permutation}
use Rattle.std.proofs.lemmas.Map.Keys.{IsDistinct-head, IsDistinct-tail, IsDistinct-IsPermutation}
use Rattle.std.proofs.lemmas.Bool.Decides.{nat_tests}
use Rattle.wgr_text.specs.Prefix.{PrefixValue}
use Rattle.wgr_pool.specs.PrefixTests.{covers}
use Rattle.wgr_model.specs.Consistent.{IsConsistent, IsDigest, IsNetworkEntry, IsTenant, endpoint, has_digest, has_tenant, overlaps, pool_of, same_endpoint, same_slot, slot}
use Rattle.wgr_model.specs.Laws.{Has}
use Rattle.wgr_model.specs.declared.right.Right.TheVariants.{Full, Read}
use Rattle.wgr_model.specs.Register.{Bytes, NetworkEntry, IsSame, Register, Tenant, Token, digests_of, id_of, is_same, right_of, tenant_view, view_at, view_of}
use Rattle.wgr_model.specs.Steps.{network_at}
use Rattle.wgr_model.proofs.LookLemmas.{is_same_congr, is_same_sym}
use Rattle.wgr_model.proofs.ViewLemmas.{get_view, right_view, same_entries, same_networks}

-- ---- one row is found whatever the order
more : {A : Type 0} (x : A) (xs ys : List A) → AllByRecursion (Has ys) xs → AllByRecursion (Has (x ∷ ys)) xs
more x [] ys all = tt
more x (z ∷ xs) ys all = (inr all.0, more x xs ys all.1)

all_itself : {A : Type 0} (xs : List A) → AllByRecursion (Has xs) xs
all_itself [] = tt
all_itself (x ∷ xs) = (inl refl, more x xs xs (all_itself xs))

pub at_has : {A : Type 0} (P : A → Type 0) (xs : List A) (a : A) → AllByRecursion P xs → Has xs a → P a
at_has P [] a all h = elim h [ ]
at_has P (x ∷ xs) a all (inl e) = subst P e all.0
at_has P (x ∷ xs) a all (inr h) = at_has P xs a all.1 h

pub has_permutation : {A : Type 0} (xs ys : List A) (a : A) → IsPermutation xs ys → Has xs a → Has ys a
has_permutation xs ys a p h = at_has (Has ys) xs a (recursion_from_All (Has ys) xs (All-permutation (Has ys) ys xs (IsPermutation-sym xs ys p) (All-from_recursion (Has ys) ys (all_itself ys)))) h

module _ {A B : Type 0} (p : A → Bool) (f : A → B) (e : B → B → Bool) (tells : (a b : A) → p a ≡ true → p b ≡ true → e (f a) (f b) ≡ true) where
  apart : (b : B) (xs : List A) (a : A) → AllByRecursion (λ y. e b y ≡ false) (map f xs) → Has xs a → e b (f a) ≡ false
  apart b [] a all h = elim h [ ]
  apart b (x ∷ xs) a all (inl h) = ap (λ z. e b (f z)) (sym h) ∙ all.0
  apart b (x ∷ xs) a all (inr h) = apart b xs a all.1 h

  pub has_find : (xs : List A) (a : A) → IsDistinct e (map f xs) → Has xs a → p a ≡ true → find p xs ≡ Some a
  has_find [] a u h passes = elim h [ ]
  has_find (x ∷ xs) a u (inl h) passes = ap (λ b. cond b (Some x) (find p xs)) (ap p h ∙ passes) ∙ ap (λ z. Some z) h
  has_find (x ∷ xs) a u (inr h) passes = by_test (p x) refl (has_find xs a (IsDistinct-tail e (f x) (map f xs) u) h passes) where
    by_test : (b : Bool) → p x ≡ b → find p xs ≡ Some a → cond b (Some x) (find p xs) ≡ Some a
    by_test true t rest = absurd (true≢false (sym (tells x a t passes) ∙ apart (f x) xs a (IsDistinct-head e (f x) (map f xs) u) h))
    by_test false t rest = rest

  pub find_has : (xs : List A) (a : A) → find p xs ≡ Some a → Has xs a × (p a ≡ true)
  find_has [] a h = grind (arith, h)
  find_has (x ∷ xs) a h = by_test (p x) refl h (find_has xs a) where
    by_test : (b : Bool) → p x ≡ b → cond b (Some x) (find p xs) ≡ Some a → (find p xs ≡ Some a → Has xs a × (p a ≡ true)) → ((x ≡ a) ⊎ Has xs a) × (p a ≡ true)
    by_test true t g rest = let same : x ≡ a = grind (arith, g) in (inl same, ap p (sym same) ∙ t)
    by_test false t g rest = (inr (rest g).0, (rest g).1)

  pub find_permutation : (xs ys : List A) → IsPermutation xs ys → IsDistinct e (map f xs) → IsDistinct e (map f ys) → find p xs ≡ find p ys
  find_permutation xs ys s u v = by_found (find p xs) (find p ys) refl refl where
    by_found : (a b : Option A) → find p xs ≡ a → find p ys ≡ b → a ≡ b
    by_found None None g h = refl
    by_found (Some a) b g h = let x = find_has xs a g in sym (has_find ys a v (has_permutation xs ys a s x.0) x.1) ∙ h
    by_found None (Some b) g h = let y = find_has ys b h in sym g ∙ has_find xs b u (has_permutation ys xs b (IsPermutation-sym xs ys s) y.0) y.1

-- ---- the tests read the same both ways
pub eqb_sym : (a b : ℕ) → nat_eq a b ≡ nat_eq b a
eqb_sym a b = grind (arith, nat_tests)

pub slot_sym : (a b : ℕ × Bytes) → same_slot a b ≡ same_slot b a
slot_sym a b = ap₂ (λ x y. x && y) (eqb_sym a.0 b.0) (is_same_sym a.1 b.1)

pub endpoint_sym : (a b : Bytes × ℕ) → same_endpoint a b ≡ same_endpoint b a
endpoint_sym a b = ap₂ (λ x y. x && y) (is_same_sym a.0 b.0) (eqb_sym a.1 b.1)

or_sym : (a b : Bool) → (a || b) ≡ (b || a)
or_sym true true = refl
or_sym true false = refl
or_sym false true = refl
or_sym false false = refl

pub overlaps_sym : (p q : PrefixValue) → overlaps p q ≡ overlaps q p
unfolding overlaps
overlaps_sym p q = or_sym (covers p q) (covers q p)

-- ---- the look-ups
pub network_found : (hs : List NetworkEntry) (i : ℕ) (q : Bytes) → network_at hs i q ≡ option_map (λ h. h.network) (find (λ h. nat_eq h.tenant i && is_same q h.name) hs)
network_found [] i q = refl
network_found (h ∷ hs) i q = grind (arith, nat_tests, network_found hs i q)

id_found : (ts : List Tenant) (q : Bytes) → id_of ts q ≡ option_map (λ t. t.id) (find (λ t. is_same q t.name) ts)
id_found [] q = refl
id_found (t ∷ ts) q = grind (arith, nat_tests, id_found ts q)

digest_found : (ts : List Token) (i : ℕ) (d : Bytes) → list_any (is_same d) (digests_of ts i) ≡ list_any (λ t. nat_eq t.tenant i && is_same d t.digest) ts
digest_found [] i d = refl
digest_found (t ∷ ts) i d = grind (arith, nat_tests, digest_found ts i d)

pub slot_tells : (i : ℕ) (q : Bytes) (a b : NetworkEntry) → (nat_eq a.tenant i && is_same q a.name) ≡ true → (nat_eq b.tenant i && is_same q b.name) ≡ true → same_slot (slot a) (slot b) ≡ true
slot_tells i q a b x y = grind (arith, nat_tests, x, y, is_same_congr q a.name b.name)

name_tells : (q : Bytes) (a b : Tenant) → is_same q a.name ≡ true → is_same q b.name ≡ true → is_same a.name b.name ≡ true
name_tells q a b x y = sym (is_same_congr q a.name b.name x) ∙ y

module _ (r s : Register) (same : IsSame r s) (good : IsConsistent r) where
  keys : {A B : Type 0} (f : A → B) (e : B → B → Bool) → ((x y : B) → e x y ≡ e y x) → (xs ys : List A) → IsPermutation xs ys → IsDistinct e (map f xs) → IsDistinct e (map f ys)
  keys f e flips xs ys p u = IsDistinct-IsPermutation e flips (map f xs) (map f ys) (IsPermutation-map f xs ys p) u

  each : {A : Type 0} (P Q : A → Type 0) → ((x : A) → P x → Q x) → (xs ys : List A) → IsPermutation xs ys → AllByRecursion P xs → AllByRecursion Q ys
  each P Q h xs ys p all = weak ys (recursion_from_All P ys (All-permutation P xs ys p (All-from_recursion P xs all))) where
    weak : (zs : List _) → AllByRecursion P zs → AllByRecursion Q zs
    weak [] a = tt
    weak (z ∷ zs) a = (h z a.0, weak zs a.1)

  known : (id : ℕ) → has_tenant r.tenants id ≡ true → has_tenant s.tenants id ≡ true
  known id e = sym (list_any-IsPermutation (nat_eq id) (map (λ t. t.id) r.tenants) (map (λ t. t.id) s.tenants) (IsPermutation-map (λ t. t.id) r.tenants s.tenants same.tenants)) ∙ e

  known_digest : (d : Bytes) → has_digest r.tokens d ≡ true → has_digest s.tokens d ≡ true
  known_digest d e = sym (list_any-IsPermutation (is_same d) (map (λ t. t.digest) r.tokens) (map (λ t. t.digest) s.tokens) (IsPermutation-map (λ t. t.digest) r.tokens s.tokens same.tokens)) ∙ e

  pub same_consistent : IsConsistent s
  same_consistent = record {
    names = keys (λ t. t.name) is_same is_same_sym r.tenants s.tenants same.tenants good.names;
    ids = keys (λ t. t.id) nat_eq eqb_sym r.tenants s.tenants same.tenants good.ids;
    digests = keys (λ t. t.digest) is_same is_same_sym r.tokens s.tokens same.tokens good.digests;
    readers = IsDistinct-IsPermutation is_same is_same_sym r.readers s.readers same.readers good.readers;
    slots = keys slot same_slot slot_sym r.networks s.networks same.networks good.slots;
    network_ids = keys (λ h. h.id) nat_eq eqb_sym r.networks s.networks same.networks good.network_ids;
    endpoints = keys endpoint same_endpoint endpoint_sym r.networks s.networks same.networks good.endpoints;
    pools = keys pool_of overlaps overlaps_sym r.networks s.networks same.networks good.pools;
    token_tenants = each (λ t. has_tenant r.tenants t.tenant ≡ true) (λ t. has_tenant s.tenants t.tenant ≡ true) (λ t. known t.tenant) r.tokens s.tokens same.tokens good.token_tenants;
    reader_tokens = each (λ d. has_digest r.tokens d ≡ true) (λ d. has_digest s.tokens d ≡ true) known_digest r.readers s.readers same.readers good.reader_tokens;
    network_tenants = each (λ h. has_tenant r.tenants h.tenant ≡ true) (λ h. has_tenant s.tenants h.tenant ≡ true) (λ h. known h.tenant) r.networks s.networks same.networks good.network_tenants;
    tenants = each IsTenant IsTenant (λ t x. x) r.tenants s.tenants same.tenants good.tenants;
    tokens = each (λ t. IsDigest t.digest) (λ t. IsDigest t.digest) (λ t x. x) r.tokens s.tokens same.tokens good.tokens;
    networks = each IsNetworkEntry IsNetworkEntry (λ h x. x) r.networks s.networks same.networks good.networks;
    few_tenants = subst (λ n. n ≤ 65536) (sym (length_permutation r.tenants s.tenants same.tenants)) good.few_tenants;
    few_tokens = subst (λ n. n ≤ 65536) (sym (length_permutation r.tokens s.tokens same.tokens)) good.few_tokens;
    few_networks = subst (λ n. n ≤ 65536) (sym (length_permutation r.networks s.networks same.networks)) good.few_networks;
  }

  pub same_id : (q : Bytes) → id_of r.tenants q ≡ id_of s.tenants q
  same_id q = id_found r.tenants q ∙ ap (option_map (λ t. t.id)) (find_permutation (λ t. is_same q t.name) (λ t. t.name) is_same (name_tells q) r.tenants s.tenants same.tenants good.names same_consistent.names) ∙ sym (id_found s.tenants q)

  pub same_network : (i : ℕ) (q : Bytes) → network_at r.networks i q ≡ network_at s.networks i q
  same_network i q = network_found r.networks i q ∙ ap (option_map (λ h. h.network)) (find_permutation (λ h. nat_eq h.tenant i && is_same q h.name) slot same_slot (slot_tells i q) r.networks s.networks same.networks good.slots same_consistent.slots) ∙ sym (network_found s.networks i q)

  same_digest : (i : ℕ) (d : Bytes) → list_any (is_same d) (digests_of r.tokens i) ≡ list_any (is_same d) (digests_of s.tokens i)
  same_digest i d = digest_found r.tokens i d ∙ list_any-IsPermutation (λ t. nat_eq t.tenant i && is_same d t.digest) r.tokens s.tokens same.tokens ∙ sym (digest_found s.tokens i d)

  pub same_right : (d : Bytes) → right_of r.readers d ≡ right_of s.readers d
  same_right d = ap (λ b. if b then Read else Full) (list_any-IsPermutation (is_same d) r.readers s.readers same.readers)

  pub same_at : (x : Option ℕ) → view_of r x ≡ view_of s x
  same_at None = refl
  same_at (Some i) = λ j. record {
    rights = same_entries (view_at r i).rights (view_at s i).rights (λ d. right_view r i d ∙ ap₂ (λ b right. if b then Some right else None) (same_digest i d) (same_right d) ∙ sym (right_view s i d)) j;
    networks = same_networks (view_at r i).networks (view_at s i).networks (λ q. get_view r i q ∙ same_network i q ∙ sym (get_view s i q)) j;
  }

  pub same_view : (me : Bytes) → tenant_view r me ≡ tenant_view s me
  same_view me = ap (view_of r) (same_id me) ∙ same_at (id_of s.tenants me)
