-- The test of bytes, and look-ups in lists.
use Rattle.std.proofs.Common.{is_none, ◌≡◌, ℕ, Bool, true, false, cond, not, ◌&&◌, ◌||◌, List, [], ◌∷◌, map, filter, Some, None, Option, nat_eq, refl, sym, ap, ◌∙◌, arith, true≢false}
use Rattle.std.specs.Prelude.{if◌then◌else◌}
use Rattle.std.specs.List.{list_any, IsDistinct, AllByRecursion}
use Rattle.std.specs.Ordering.{nat_cmp, eq_by_cmp}
use Rattle.std.specs.Cmp.{eq_by_cmp_equiv, Equal-is, IsEquivalence}
use Rattle.std.specs.Cmp.Lexicographic.{slice_cmp, nat_list_cmp_total}
use Rattle.std.specs.FinMap.{find, slice_cmp-IsAntisymmetric, nat_cmp-IsAntisymmetric, IsAntisymmetric}
use Rattle.std.proofs.lemmas.Bool.Decides.{nat_tests}
use Rattle.std.proofs.lemmas.Map.Keys.{IsDistinct-head, IsDistinct-tail}
use Rattle.wgr_core.specs.Network.{NetworkValue}
use Rattle.wgr_model.specs.Consistent.{has_digest, has_tenant, same_slot, slot}
use Rattle.wgr_model.specs.declared.right.Right.{Right}
use Rattle.wgr_model.specs.declared.right.Right.TheVariants.{Full, Read}
use Rattle.wgr_model.specs.Register.{Bytes, NetworkEntry, Tenant, Token, digests_of, id_of, is_same, networks_of, right_of}
use Rattle.wgr_model.specs.Steps.{network_at, tenant_of_token, with_network, with_reader, without_reader}

pub is_same_equiv : IsEquivalence is_same
unfolding is_same
is_same_equiv = eq_by_cmp_equiv nat_list_cmp_total

pub is_same_refl : (x : Bytes) → is_same x x ≡ true
is_same_refl x = is_same_equiv.refl x

pub is_same_sym : (x y : Bytes) → is_same x y ≡ is_same y x
is_same_sym x y = is_same_equiv.symm x y

pub is_same_congr : (x y z : Bytes) → is_same x y ≡ true → is_same x z ≡ is_same y z
is_same_congr x y z e = is_same_equiv.congr x y z e

-- what is the same as c is the same as what is the same as c
pub joined : (a b c : Bytes) → is_same a c ≡ true → is_same b c ≡ is_same b a
joined a b c e = is_same_sym b c ∙ sym (is_same_congr a c b e) ∙ is_same_sym a b

-- what the std maps ask of two keys
pub is_same_is : (x y : Bytes) → eq_by_cmp (slice_cmp nat_cmp) x y ≡ is_same x y
unfolding is_same
is_same_is x y = refl

pub bytes_differ : IsAntisymmetric (slice_cmp nat_cmp)
bytes_differ = slice_cmp-IsAntisymmetric nat_cmp-IsAntisymmetric

pub same_exact : (x y : Bytes) → is_same x y ≡ true → x ≡ y
unfolding is_same
same_exact x y e = bytes_differ x y ((Equal-is (slice_cmp nat_cmp x y)).0 e)

-- a look-up among values that each belong to their key
pub find_paired : {X : Type 0} (f : Bytes → X) (ds : List Bytes) (q : Bytes) → find (slice_cmp nat_cmp) q (map {B = Bytes × X} (λ d. (d, f d)) ds) ≡ (if list_any (is_same q) ds then Some (f q) else None)
unfolding is_same
find_paired f [] q = refl
find_paired {X} f (d ∷ ds) q = by_test (is_same q d) refl (find_paired f ds q) where
  rest : Option X
  rest = find (slice_cmp nat_cmp) q (map {B = Bytes × X} (λ x. (x, f x)) ds)

  by_test : (b : Bool) → is_same q d ≡ b → rest ≡ (if list_any (is_same q) ds then Some (f q) else None) → cond b (Some (f d)) rest ≡ (if b || list_any (is_same q) ds then Some (f q) else None)
  by_test true e others = ap (λ x. Some (f x)) (sym (same_exact q d e))
  by_test false e others = others

pub find_network : (hs : List NetworkEntry) (id : ℕ) (q : Bytes) → find (slice_cmp nat_cmp) q (networks_of hs id) ≡ network_at hs id q
find_network [] id q = refl
find_network (h ∷ hs) id q = grind (arith, nat_tests, find_network hs id q, is_same_is q h.name)

none_later : {A : Type 0} (f : A → Bytes) (d : Bytes) (x : A) (xs : List A) → AllByRecursion (λ y. is_same (f x) y ≡ false) (map f xs) → is_same d (f x) ≡ true → list_any (is_same d) (map f xs) ≡ false
none_later f d x [] all e = refl
none_later f d x (y ∷ ys) all e = grind (arith, nat_tests, all.0, is_same_congr d (f x) (f y) e, none_later f d x ys all.1 e)

-- a digest is a tenant's exactly where the token's row says so
pub in_digests : (ts : List Token) (id : ℕ) (d : Bytes) → list_any (is_same d) (map (λ t. t.digest) ts) ≡ false → list_any (is_same d) (digests_of ts id) ≡ false
in_digests [] id d e = refl
in_digests (t ∷ ts) id d e = grind (arith, nat_tests, in_digests ts id d)

abbrev pub is_id : Option ℕ → ℕ → Bool
is_id None id = false
is_id (Some i) id = nat_eq i id

pub token_in_view : (ts : List Token) (id : ℕ) (d : Bytes) → IsDistinct is_same (map (λ t. t.digest) ts) → list_any (is_same d) (digests_of ts id) ≡ is_id (tenant_of_token ts d) id
token_in_view [] id d u = refl
token_in_view (t ∷ ts) id d u =
    let none = none_later (λ s. s.digest) d t ts (IsDistinct-head is_same t.digest (map (λ s. s.digest) ts) u) in
    let rest = token_in_view ts id d (IsDistinct-tail is_same t.digest (map (λ s. s.digest) ts) u) in
    grind (arith, nat_tests, none, rest, in_digests ts id d)

-- two names of one id are one
id_known : (ts : List Tenant) (a : Bytes) (i : ℕ) → id_of ts a ≡ Some i → list_any (nat_eq i) (map (λ t. t.id) ts) ≡ true
id_known [] a i e = grind (arith, nat_tests, e)
id_known (t ∷ ts) a i e = grind (arith, nat_tests, e, id_known ts a i)

id_head : (x : ℕ) (xs : List ℕ) → AllByRecursion (λ y. nat_eq x y ≡ false) xs → list_any (nat_eq x) xs ≡ false
id_head x [] all = refl
id_head x (y ∷ ys) all = grind (arith, nat_tests, all.0, id_head x ys all.1)

pub one_name : (ts : List Tenant) (a b : Bytes) (i : ℕ) → IsDistinct nat_eq (map (λ t. t.id) ts) → id_of ts a ≡ Some i → id_of ts b ≡ Some i → is_same a b ≡ true
one_name [] a b i u e f = grind (arith, nat_tests, e)
one_name (t ∷ ts) a b i u e f =
    let none = id_head t.id (map (λ s. s.id) ts) (IsDistinct-head nat_eq t.id (map (λ s. s.id) ts) u) in
    let rest = one_name ts a b i (IsDistinct-tail nat_eq t.id (map (λ s. s.id) ts) u) in
    grind (arith, nat_tests, none, rest, e, f, id_known ts a i, id_known ts b i, is_same_congr a t.name b, is_same_sym t.name b)

-- names that are one have one id
pub id_of_same : (ts : List Tenant) (a b : Bytes) → is_same a b ≡ true → id_of ts a ≡ id_of ts b
id_of_same [] a b e = refl
id_of_same (t ∷ ts) a b e = grind (arith, nat_tests, is_same_congr a b t.name e, id_of_same ts a b e)

pub id_of_none : (ts : List Tenant) (a : Bytes) → list_any (is_same a) (map (λ t. t.name) ts) ≡ false → id_of ts a ≡ None
id_of_none [] a e = refl
id_of_none (t ∷ ts) a e = grind (arith, nat_tests, e, id_of_none ts a)

-- nothing under an id that nothing names
true_false : (b : Bool) → b ≡ true → b ≡ false → {A : Type 0} → A
true_false b e f = absurd (true≢false (sym e ∙ f))

pub no_digests : (ts : List Token) (tenants : List Tenant) (new : ℕ) → AllByRecursion (λ t. has_tenant tenants t.tenant ≡ true) ts → has_tenant tenants new ≡ false → digests_of ts new ≡ []
no_digests [] tenants new all e = refl
no_digests (t ∷ ts) tenants new all e = grind (arith, nat_tests, all.0, e, no_digests ts tenants new all.1 e)

pub no_networks : (hs : List NetworkEntry) (tenants : List Tenant) (new : ℕ) → AllByRecursion (λ h. has_tenant tenants h.tenant ≡ true) hs → has_tenant tenants new ≡ false → networks_of hs new ≡ []
no_networks [] tenants new all e = refl
no_networks (h ∷ hs) tenants new all e = grind (arith, nat_tests, all.0, e, no_networks hs tenants new all.1 e)

pub network_same : (hs : List NetworkEntry) (id : ℕ) (a b : Bytes) → is_same a b ≡ true → network_at hs id a ≡ network_at hs id b
network_same [] id a b e = refl
network_same (h ∷ hs) id a b e = grind (arith, nat_tests, is_same_congr a b h.name e, network_same hs id a b e)

-- the look-up after each change
pub network_put : (hs : List NetworkEntry) (id i : ℕ) (name q : Bytes) (n old : NetworkValue) → network_at hs id name ≡ Some old → network_at (with_network hs id name n) i q ≡ (if nat_eq i id && is_same q name then Some n else network_at hs i q)
network_put [] id i name q n old e = grind (arith, nat_tests, e)
network_put (h ∷ hs) id i name q n old e = grind (arith, nat_tests, e, network_put hs id i name q n old, is_same_congr q name h.name, joined name q h.name)

pub network_gone : (hs : List NetworkEntry) (id i : ℕ) (name q : Bytes) → network_at (filter (λ h. not (same_slot (id, name) (slot h))) hs) i q ≡ (if nat_eq i id && is_same q name then None else network_at hs i q)
network_gone [] id i name q = grind (arith, nat_tests)
network_gone (h ∷ hs) id i name q = grind (arith, nat_tests, network_gone hs id i name q, is_same_congr q name h.name, joined name q h.name)

-- the digests after one ends
pub digest_gone : (ts : List Token) (id : ℕ) (d q : Bytes) → list_any (is_same q) (digests_of (filter (λ t. not (is_same d t.digest)) ts) id) ≡ (not (is_same q d) && list_any (is_same q) (digests_of ts id))
digest_gone [] id d q = grind (arith, nat_tests)
digest_gone (t ∷ ts) id d q = grind (arith, nat_tests, digest_gone ts id d q, is_same_congr q d t.digest, joined d q t.digest)

-- the rights after a token is granted, and after one ends
pub right_granted : (right : Right) (readers : List Bytes) (d q : Bytes) → list_any (is_same d) readers ≡ false → right_of (with_reader right d readers) q ≡ (if is_same q d then right else right_of readers q)
right_granted Full readers d q free = by_test (is_same q d) refl where
  by_test : (b : Bool) → is_same q d ≡ b → right_of readers q ≡ (if b then Full else right_of readers q)
  by_test true e = ap (λ x. right_of readers x) (same_exact q d e) ∙ ap (λ b. if b then Read else Full) free
  by_test false e = refl
right_granted Read readers d q free = by_test (is_same q d) where
  by_test : (b : Bool) → (if b || list_any (is_same q) readers then Read else Full) ≡ (if b then Read else right_of readers q)
  by_test true = refl
  by_test false = refl

reader_gone : (readers : List Bytes) (d q : Bytes) → list_any (is_same q) (without_reader d readers) ≡ (not (is_same q d) && list_any (is_same q) readers)
reader_gone [] d q = grind (arith, nat_tests)
reader_gone (x ∷ xs) d q = grind (arith, nat_tests, reader_gone xs d q, is_same_congr q d x, joined d q x)

pub right_ended : (readers : List Bytes) (d q : Bytes) → right_of (without_reader d readers) q ≡ (if is_same q d then Full else right_of readers q)
right_ended readers d q = ap (λ b. if b then Read else Full) (reader_gone readers d q) ∙ by_test (is_same q d) where
  by_test : (b : Bool) → (if not b && list_any (is_same q) readers then Read else Full) ≡ (if b then Full else right_of readers q)
  by_test true = refl
  by_test false = refl

-- what is no token's digest doesn't stand among those that only read
pub no_reader : (ts : List Token) (readers : List Bytes) (d : Bytes) → AllByRecursion (λ x. has_digest ts x ≡ true) readers → has_digest ts d ≡ false → list_any (is_same d) readers ≡ false
no_reader ts [] d all free = refl
no_reader ts (x ∷ xs) d all free = by_test (is_same d x) refl (no_reader ts xs d all.1 free) where
  by_test : (b : Bool) → is_same d x ≡ b → list_any (is_same d) xs ≡ false → (b || list_any (is_same d) xs) ≡ false
  by_test true e rest = absurd (true≢false (sym all.0 ∙ ap (has_digest ts) (sym (same_exact d x e)) ∙ free))
  by_test false e rest = rest

pub none_some : {A : Type 0} {a : A} → ◌≡◌ {A = Option A} None (Some a) → ⊥
none_some {A} e = true≢false (ap is_none e)
