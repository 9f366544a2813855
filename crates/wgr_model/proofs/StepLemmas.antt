-- Every event has a step.
use Rattle.std.proofs.Common.{◌≡◌, ℕ, ◌<◌, ◌≤◌, true, false, not, List, [], ◌∷◌, length, map, filter, Some, None, Option, nat_eq, nat_lt, refl, sym, ap, ◌∙◌, arith, true≢false, inl, inr, zero, suc}
use Rattle.std.proofs.lemmas.List.{length-map}
use Rattle.std.specs.List.{list_any}
use Rattle.std.proofs.lemmas.Bool.Decides.{nat_tests}
use Rattle.wgr_pool.proofs.Bools.{decide, not_false}
use Rattle.wgr_model.specs.Consistent.{IsId, is_pool}
use Rattle.wgr_model.specs.Laws.{AnIdIsUnused}
use Rattle.wgr_model.specs.Register.{Bytes, Register, id_of}
use Rattle.wgr_model.specs.Steps.{AddNetwork, AddTenant, Answer, Ask, BadPool, Decided, EndNetwork, EndToken, Event, Grant, IsStep, IsUnused, NameHeld, Networks, OrderRefusal, PortHeld, RegisterFull, Settings, first_refusal, given, has_endpoint, has_name, has_slot, is_done, is_full, network_added, network_checks, new_network, ordered, outcome, overlapping, pool_refusal, refuse, tenant_checks, with_new_network, with_tenant}
use Rattle.wgr_model.proofs.RunLemmas.{same_itself}
use Rattle.wgr_model.proofs.SeenLemmas.{not_refused, passed}

-- ---- an unused id

dropped : (a : ℕ) (xs : List ℕ) → length (filter (λ x. not (nat_eq a x)) xs) ≤ length xs
dropped a [] = omega arith
dropped a (x ∷ xs) = grind (arith, nat_tests, dropped a xs)

one_dropped : (a : ℕ) (xs : List ℕ) → list_any (nat_eq a) xs ≡ true → length (filter (λ x. not (nat_eq a x)) xs) < length xs
one_dropped a [] h = absurd (true≢false (sym h))
one_dropped a (x ∷ xs) h = grind (arith, nat_tests, h, dropped a xs, one_dropped a xs)

not_dropped : (k a : ℕ) (xs : List ℕ) → nat_eq k a ≡ false → list_any (nat_eq k) (filter (λ x. not (nat_eq a x)) xs) ≡ list_any (nat_eq k) xs
not_dropped k a [] h = refl
not_dropped k a (x ∷ xs) h = grind (arith, nat_tests, h, not_dropped k a xs h)

-- fewer numbers than n leave one of 1 to n
pub unused_below : (n : ℕ) (xs : List ℕ) → length xs < n → (k : ℕ) × (1 ≤ k) × (k ≤ n) × (list_any (nat_eq k) xs ≡ false)
unused_below zero xs h = absurd (omega (arith, h))
unused_below (suc n) xs h = elim (decide (list_any (nat_eq (suc n)) xs)) [
  | inr free ↦ (suc n, omega arith, omega arith, free)
  | inl held ↦
      let less = one_dropped (suc n) xs held in
      let rest = unused_below n (filter (λ x. not (nat_eq (suc n) x)) xs) (omega (arith, less, h)) in
      (rest.0, rest.1, omega (arith, rest.2), sym (not_dropped rest.0 (suc n) xs (grind (arith, nat_tests, rest.2))) ∙ rest.3)
]

pub an_id_is_unused : AnIdIsUnused
an_id_is_unused ids few = let k = unused_below 65536 ids few in (k.0, (k.1, k.2), k.3)

-- an id that is unused where there is room
some_id : (ids : List ℕ) → (id : ℕ) × (nat_lt (length ids) 65536 ≡ true → IsId id × (list_any (nat_eq id) ids ≡ false))
some_id ids = elim (decide (nat_lt (length ids) 65536)) [
  | inl few ↦ let k = an_id_is_unused ids (grind (arith, nat_tests, few)) in (k.0, λ _. (k.1, k.2))
  | inr full ↦ (0, λ few. absurd (true≢false (sym few ∙ full)))
]

-- ---- steps

-- an order that is done passed its checks
all_passed : (checks : List (Option OrderRefusal)) (r s : Register) → is_done (ordered checks r s).0 ≡ true → first_refusal checks ≡ None
all_passed checks r s done = by_check (first_refusal checks) done where
  by_check : (why : Option OrderRefusal) → is_done (given why r s).0 ≡ true → why ≡ None
  by_check None done = refl
  by_check (Some why) done = absurd (true≢false (sym done))

has_room : {A : Type 0} (id_in : A → ℕ) (xs : List A) → is_full xs ≡ false → nat_lt (length (map id_in xs)) 65536 ≡ true
has_room id_in xs h = ap (λ k. nat_lt k 65536) (length-map xs id_in) ∙ not_false (nat_lt (length xs) 65536) h

tenant_room : (r : Register) (name : Bytes) → first_refusal (tenant_checks r name) ≡ None → nat_lt (length (map (λ t. t.id) r.tenants)) 65536 ≡ true
tenant_room r name ok =
    let first = passed (refuse (has_name r.tenants name) NameHeld) (refuse (is_full r.tenants) RegisterFull ∷ []) ok in
    let last = passed (refuse (is_full r.tenants) RegisterFull) [] first.1 in
    has_room (λ t. t.id) r.tenants (not_refused (is_full r.tenants) RegisterFull last.0)

network_room : (r : Register) (id : ℕ) (name : Bytes) (s : Settings) → first_refusal (network_checks r id name s) ≡ None → nat_lt (length (map (λ h. h.id) r.networks)) 65536 ≡ true
network_room r id name s ok =
    let full = refuse (is_full r.networks) RegisterFull in
    let port = refuse (has_endpoint r.networks (s.host, s.port)) PortHeld in
    let pools = pool_refusal (overlapping r.tenants r.networks s.pool) in
    let pool = refuse (not (is_pool s.pool)) BadPool in
    let a = passed (refuse (has_slot r.networks id name) NameHeld) (pool ∷ pools ∷ port ∷ full ∷ []) ok in
    let b = passed pool (pools ∷ port ∷ full ∷ []) a.1 in
    let c = passed pools (port ∷ full ∷ []) b.1 in
    let d = passed port (full ∷ []) c.1 in
    has_room (λ h. h.id) r.networks (not_refused (is_full r.networks) RegisterFull (passed full [] d.1).0)

module _ (r : Register) where
  step_at : (e : Event) (new : ℕ) → (is_done (outcome r e new).0 ≡ true → IsUnused r e new) → (answer : Answer) × (s : Register) × IsStep r e answer s
  step_at e new unused = ((outcome r e new).0, (outcome r e new).1, record { new = new; unused = unused; answered = refl; rows = same_itself (outcome r e new).1 })

  added_room : (tenant name : Bytes) (s : Settings) (new : ℕ) (id : Option ℕ) → is_done (network_added r name s new id).0 ≡ true → nat_lt (length (map (λ h. h.id) r.networks)) 65536 ≡ true
  added_room tenant name s new None done = absurd (true≢false (sym done))
  added_room tenant name s new (Some id) done = network_room r id name s (all_passed (network_checks r id name s) r (with_new_network r new id name (new_network s)) done)

  pub has_step : (e : Event) → (answer : Answer) × (s : Register) × IsStep r e answer s
  has_step (Decided digest reply) = step_at (Decided digest reply) 0 (λ _. tt)
  has_step (Ask digest name now command) = step_at (Ask digest name now command) 0 (λ _. tt)
  has_step (Networks digest) = step_at (Networks digest) 0 (λ _. tt)
  has_step (AddTenant name) =
      let id = some_id (map (λ t. t.id) r.tenants) in
      step_at (AddTenant name) id.0 (λ done. id.1 (tenant_room r name (all_passed (tenant_checks r name) r (with_tenant r name id.0) done)))
  has_step (Grant tenant digest right) = step_at (Grant tenant digest right) 0 (λ _. tt)
  has_step (EndToken digest) = step_at (EndToken digest) 0 (λ _. tt)
  has_step (AddNetwork tenant name settings) =
      let id = some_id (map (λ h. h.id) r.networks) in
      step_at (AddNetwork tenant name settings) id.0 (λ done. id.1 (added_room tenant name settings id.0 (id_of r.tenants tenant) done))
  has_step (EndNetwork tenant name) = step_at (EndNetwork tenant name) 0 (λ _. tt)
