-- A route that comes, as a step of one network's value.
use Rattle.std.proofs.Common.{◌≡◌, ℕ, ◌⊎◌, List, [], ◌∷◌, ◌++◌, map, nat_eq, Bool, true, false, not, ◌&&◌, cond, IsPermutation, refl, sym, ap, subst, ◌∙◌, inl, inr, true≢false}
use Rattle.std.specs.Prelude.{⊤}
use Rattle.std.specs.List.{filter, IsDistinct, AllByRecursion}
use Rattle.std.proofs.lemmas.Map.Keys.{IsDistinct-cons, IsDistinct-IsPermutation}
use Rattle.std.proofs.lemmas.List.Elements.{recursion_from_All}
use Rattle.std.proofs.lemmas.List.Sorted.{IsPermutation-sym, IsPermutation-map}
use Rattle.wgr_text.specs.declared.addr.Family.{Family}
use Rattle.wgr_text.specs.declared.addr.Family.TheVariants.{V4, V6}
use Rattle.wgr_text.specs.Prefix.{PrefixValue, width}
use Rattle.wgr_pool.specs.PrefixTests.{same_prefix, same_family, is_before}
use Rattle.wgr_pool.proofs.Lists.{AllPairs-head, AllPairs-tail}
use Rattle.wgr_peers.specs.Ordered.{put_in_order}
use Rattle.wgr_peers.specs.Routes.{Routes, AreOrdered, ComesBefore, HasAddr, assign_route, without_route}
use Rattle.std.specs.Prelude.{All}
use Rattle.wgr_core.specs.Change.{assign_routes, without_routes}
use Rattle.wgr_peers.proofs.OrderedLemmas.{put_all, put_pairs}
use Rattle.wgr_peers.proofs.PlaceLemmas.{routes_lead, routes_placed}
use Rattle.wgr_peers.proofs.RouteLemmas.{not_same}
use Rattle.wgr_core.specs.Network.{NetworkValue}
use Rattle.wgr_model.specs.Laws.{Has}
use Rattle.wgr_model.specs.Rows.{AllowedRow, Tables, AreKeyed, address_row, route_row, family_number, allowed_key, same_allowed, same_pair}
use Rattle.wgr_model.proofs.CollectLemmas.{has_map, from_map, has_left, has_right, from_append}
use Rattle.wgr_model.proofs.GatherLemmas.{in_filter, eqb_self}
use Rattle.wgr_model.proofs.KeptLemmas.{distinct_filter}
use Rattle.wgr_model.proofs.OrderLemmas.{from_filter, filter_permutation}
use Rattle.wgr_model.proofs.SameLemmas.{at_has, eqb_sym, has_permutation}
use Rattle.wgr_tables.proofs.Rests.{Rests}
use Rattle.wgr_sql.specs.Steps.{Each}
use Rattle.wgr_tables.specs.TableSteps.{RoutePuts, RouteGoes, is_route_at}
use Rattle.wgr_tables.proofs.LeftRows.{left_by, left_all, two_stay, rows_stay, addresses_left, allowed_keyed, not_true, not_false}
use Rattle.wgr_tables.proofs.RestLemmas.{and_left, and_false}

-- ---- membership where an item is put in its order

module _ {X : Type 0} (below same : X → Bool) (x : X) where
  abbrev pub LaterApart : List X → Type 0
  LaterApart [] = ⊤
  LaterApart (y ∷ ys) = (below y ≡ false → (z : X) → Has ys z → same z ≡ false) × LaterApart ys

  put : List X → List X
  put xs = put_in_order below same xs x

  pub put_from : (xs : List X) → ((y : X) → below y ≡ true → same y ≡ false) → LaterApart xs → (z : X) → Has (put_in_order below same xs x) z → (x ≡ z) ⊎ (Has xs z × (same z ≡ false))
  put_from [] apart la z (inl q) = inl q
  put_from [] apart la z (inr none) = elim none [ ]
  put_from (y ∷ ys) apart la z h = go (below y) (same y) refl refl h (put_from ys apart la.1 z)
    where
      go : (b s : Bool) → below y ≡ b → same y ≡ s → Has (cond b (y ∷ put_in_order below same ys x) (cond s (x ∷ ys) (x ∷ y ∷ ys))) z
          → (Has (put_in_order below same ys x) z → (x ≡ z) ⊎ (Has ys z × (same z ≡ false))) → (x ≡ z) ⊎ (Has (y ∷ ys) z × (same z ≡ false))
      go true s e f (inl q) rec = inr (inl q, subst (λ w. same w ≡ false) q (apart y e))
      go true s e f (inr later) rec = elim (rec later) [ inl q ↦ inl q | inr q ↦ inr (inr q.0, q.1) ]
      go false true e f (inl q) rec = inl q
      go false true e f (inr later) rec = inr (inr later, la.0 e z later)
      go false false e f (inl q) rec = inl q
      go false false e f (inr (inl q)) rec = inr (inl q, subst (λ w. same w ≡ false) q f)
      go false false e f (inr (inr later)) rec = inr (inr later, la.0 e z later)

  pub put_to : (xs : List X) (z : X) → (x ≡ z) ⊎ (Has xs z × (same z ≡ false)) → Has (put_in_order below same xs x) z
  put_to [] z (inl q) = inl q
  put_to [] z (inr q) = elim q.0 [ ]
  put_to (y ∷ ys) z h = go (below y) (same y) refl h (put_to ys z)
    where
      go : (b s : Bool) → same y ≡ s → (x ≡ z) ⊎ (Has (y ∷ ys) z × (same z ≡ false)) → ((x ≡ z) ⊎ (Has ys z × (same z ≡ false)) → Has (put_in_order below same ys x) z)
          → Has (cond b (y ∷ put_in_order below same ys x) (cond s (x ∷ ys) (x ∷ y ∷ ys))) z
      go true s f (inl q) rec = inr (rec (inl q))
      go true s f (inr (inl q, n)) rec = inl q
      go true s f (inr (inr later, n)) rec = inr (rec (inr (later, n)))
      go false true f (inl q) rec = inl q
      go false true f (inr (inl q, n)) rec = absurd (true≢false (sym f ∙ ap same q ∙ n))
      go false true f (inr (inr later, n)) rec = inr later
      go false false f (inl q) rec = inl q
      go false false f (inr (inl q, n)) rec = inr (inl q)
      go false false f (inr (inr later, n)) rec = inr (inr later)

pub false_from : (b : Bool) → (b ≡ true → ⊥) → b ≡ false
false_from true h = absurd (h refl)
false_from false h = refl

-- routes in their order
pub routes_apart : (p : PrefixValue) (number : ℕ) (routes : Routes) → AreOrdered routes → LaterApart (λ r. is_before r.0 p) (λ r. same_prefix r.0 p) (p, number) routes
routes_apart p number [] ordered = tt
routes_apart p number (y ∷ ys) ordered = (
  (λ not_below z here. false_from _ (λ same. true≢false (sym (routes_lead p y z (at_has (ComesBefore y) ys z (recursion_from_All (ComesBefore y) ys (AllPairs-head ComesBefore y ys ordered)) here) same) ∙ not_below))),
  routes_apart p number ys (AllPairs-tail ComesBefore y ys ordered),
)

same_families : (f g : Family) → nat_eq (family_number f) (family_number g) ≡ same_family f g
same_families V4 V4 = refl
same_families V4 V6 = refl
same_families V6 V4 = refl
same_families V6 V6 = refl

nested : (f n l : Bool) → (f && (n && (l && true))) ≡ ((f && n) && l)
nested true true true = refl
nested true true false = refl
nested true false l = refl
nested false n l = refl

pub route_test : (id : ℕ) (p : PrefixValue) (s : PrefixValue × ℕ) → is_route_at id p (route_row id s) ≡ same_prefix s.0 p
route_test id p s = and_left (nat_eq id id) (nat_eq (family_number s.0.address.family) (family_number p.address.family) && (nat_eq s.0.address.number p.address.number && (nat_eq s.0.length p.length && true))) (eqb_self id)
    ∙ nested (nat_eq (family_number s.0.address.family) (family_number p.address.family)) (nat_eq s.0.address.number p.address.number) (nat_eq s.0.length p.length)
    ∙ ap (λ f. (f && nat_eq s.0.address.number p.address.number) && nat_eq s.0.length p.length) (same_families s.0.address.family p.address.family)

never : (a b c d : Bool) → (a && (b && (c && (d && false)))) ≡ false
never true true true true = refl
never true true true false = refl
never true true false d = refl
never true false c d = refl
never false b c d = refl

pub allowed_sym : (x y : ℕ × ℕ × ℕ × ℕ) → same_allowed x y ≡ same_allowed y x
allowed_sym x y = λ k. eqb_sym x.0 y.0 k && eqb_sym x.1 y.1 k && eqb_sym x.2 y.2 k && eqb_sym x.3 y.3 k

pub allowed_self : (x : ℕ × ℕ × ℕ × ℕ) → same_allowed x x ≡ true
allowed_self x = λ k. eqb_self x.0 k && eqb_self x.1 k && eqb_self x.2 k && eqb_self x.3 k

pub pair_sym : (x y : ℕ × ℕ) → same_pair x y ≡ same_pair y x
pair_sym x y = λ k. eqb_sym x.0 y.0 k && eqb_sym x.1 y.1 k

pub all_apart : (k : ℕ × ℕ × ℕ × ℕ) (rows : List AllowedRow) → ((a : AllowedRow) → Has rows a → same_allowed (allowed_key a) k ≡ false) → AllByRecursion (λ y. same_allowed k y ≡ false) (map allowed_key rows)
all_apart k [] h = tt
all_apart k (a ∷ rows) h = (allowed_sym k (allowed_key a) ∙ h a (inl refl), all_apart k rows (λ b here. h b (inr here)))

pub route_comes : (id : ℕ) (r : PrefixValue × ℕ) (t u v : Tables) (n : NetworkValue) → AreOrdered n.routes → Rests id t n u → RoutePuts id r u v → Rests id t (record n { routes = assign_route n.routes r.0 r.1 }) v
route_comes id r t u v n ordered rests (m, gone, (real, (rows, perm, is, apart))) = record {
  meta = ap (λ (x : Tables). x.meta) whole ∙ rests.meta;
  tenants = ap (λ (x : Tables). x.tenants) whole ∙ rests.tenants;
  tokens = ap (λ (x : Tables). x.tokens) whole ∙ rests.tokens;
  networks = ap (λ (x : Tables). x.networks) whole ∙ rests.networks;
  seconds = ap (λ (x : Tables). x.seconds) whole ∙ rests.seconds;
  readers = ap (λ (x : Tables). x.readers) whole ∙ rests.readers;
  peers = λ a. (
    (λ h. (rests.peers a).0 (subst (λ (x : Tables). Has x.peers a) whole h)),
    (λ h. subst (λ (x : Tables). Has x.peers a) (sym whole) ((rests.peers a).1 h)),
  );
  allowed = λ a. (
    (λ h. there a (subst (λ (x : Tables). Has x.allowed a) whole h)),
    (λ h. subst (λ (x : Tables). Has x.allowed a) (sym whole) (back a h)),
  );
  keyed = subst AreKeyed (sym whole) (record { peer_keys = rests.keyed.peer_keys; allowed_keys = keys; address_keys = address_keys });
}
  where
    q : AllowedRow → Bool
    q = is_route_at id r.0

    row : AllowedRow
    row = route_row id r

    kept : List AllowedRow
    kept = filter (λ a. not (q a)) u.allowed

    whole : v ≡ record u { allowed = rows }
    whole = is ∙ ap (λ (x : Tables). record x { allowed = rows }) gone

    put_rows : IsPermutation (row ∷ kept) rows
    put_rows = subst (λ l. IsPermutation (row ∷ l) rows) (ap (λ (x : Tables). x.allowed) gone) perm

    apart_kept : (a : AllowedRow) → Has kept a → same_allowed (allowed_key a) (allowed_key row) ≡ false
    apart_kept a h = apart a (subst (λ l. Has l a) (sym (ap (λ (x : Tables). x.allowed) gone)) h)

    first_keys : IsDistinct same_allowed (map allowed_key (row ∷ kept))
    first_keys = IsDistinct-cons same_allowed (allowed_key row) (map allowed_key kept) (all_apart (allowed_key row) kept apart_kept) (distinct_filter same_allowed allowed_key (λ a. not (q a)) u.allowed rests.keyed.allowed_keys)

    keys : IsDistinct same_allowed (map allowed_key rows)
    keys = IsDistinct-IsPermutation same_allowed allowed_sym (map allowed_key (row ∷ kept)) (map allowed_key rows) (IsPermutation-map allowed_key (row ∷ kept) rows put_rows) first_keys

    address_keys : IsDistinct same_pair (map (λ (a : AllowedRow). (a.network, a.peer)) (filter (λ a. not a.is_route) rows))
    address_keys =
        let moved = filter_permutation allowed_key same_allowed allowed_self allowed_sym (λ (a : AllowedRow). not a.is_route) (row ∷ kept) rows first_keys keys put_rows in
        let before = addresses_left q u.allowed rests.keyed.address_keys in
        IsDistinct-IsPermutation same_pair pair_sym (map (λ (a : AllowedRow). (a.network, a.peer)) (filter (λ a. not a.is_route) kept)) (map (λ (a : AllowedRow). (a.network, a.peer)) (filter (λ a. not a.is_route) rows))
        (IsPermutation-map (λ (a : AllowedRow). (a.network, a.peer)) (filter (λ a. not a.is_route) kept) (filter (λ a. not a.is_route) rows) moved) before

    routes : Routes
    routes = assign_route n.routes r.0 r.1

    there : (a : AllowedRow) → Has rows a → Has (map (address_row id) n.peers ++ map (route_row id) routes) a ⊎ (Has t.allowed a × (nat_eq a.network id ≡ false))
    there a h = elim (has_permutation rows (row ∷ kept) a (IsPermutation-sym (row ∷ kept) rows put_rows) h) [
      | inl mine ↦ inl (has_right (map (address_row id) n.peers) (map (route_row id) routes) a (subst (Has (map (route_row id) routes)) mine (has_map (route_row id) routes r (put_to (λ s. is_before s.0 r.0) (λ s. same_prefix s.0 r.0) r n.routes r (inl refl)))))
      | inr old ↦
          let f = from_filter (λ x. not (q x)) u.allowed a old in
          elim ((rests.allowed a).0 f.0) [
            | inl own ↦ elim (from_append (map (address_row id) n.peers) (map (route_row id) n.routes) a own) [
              | inl address ↦ inl (has_left (map (address_row id) n.peers) (map (route_row id) routes) a address)
              | inr route ↦
                  let s = from_map (route_row id) n.routes a route in
                  let other : same_prefix s.0.0 r.0 ≡ false = sym (route_test id r.0 s.0) ∙ ap q s.2 ∙ not_false (q a) f.1 in
                  inl (has_right (map (address_row id) n.peers) (map (route_row id) routes) a (subst (Has (map (route_row id) routes)) s.2 (has_map (route_row id) routes s.0 (put_to (λ x. is_before x.0 r.0) (λ x. same_prefix x.0 r.0) r n.routes s.0 (inr (s.1, other))))))
            ]
            | inr other ↦ inr other
          ]
    ]

    stays : (a : AllowedRow) → Has u.allowed a → q a ≡ false → Has rows a
    stays a h apart = has_permutation (row ∷ kept) rows a put_rows (inr (in_filter (λ x. not (q x)) u.allowed a h (not_true (q a) apart)))

    back : (a : AllowedRow) → Has (map (address_row id) n.peers ++ map (route_row id) routes) a ⊎ (Has t.allowed a × (nat_eq a.network id ≡ false)) → Has rows a
    back a (inl own) = elim (from_append (map (address_row id) n.peers) (map (route_row id) routes) a own) [
      | inl address ↦
          let p = from_map (address_row id) n.peers a address in
          stays a ((rests.allowed a).1 (inl (has_left (map (address_row id) n.peers) (map (route_row id) n.routes) a address))) (ap q (sym p.2) ∙ never (nat_eq id id) (nat_eq (family_number p.0.address.family) (family_number r.0.address.family)) (nat_eq p.0.address.number r.0.address.number) (nat_eq (width p.0.address.family) r.0.length))
      | inr route ↦
          let s = from_map (route_row id) routes a route in
          elim (put_from (λ x. is_before x.0 r.0) (λ x. same_prefix x.0 r.0) r n.routes (λ y e. not_same r.0 y e) (routes_apart r.0 r.1 n.routes ordered) s.0 s.1) [
            | inl mine ↦ has_permutation (row ∷ kept) rows a put_rows (inl (ap (route_row id) mine ∙ s.2))
            | inr old ↦ stays a ((rests.allowed a).1 (inl (has_right (map (address_row id) n.peers) (map (route_row id) n.routes) a (subst (Has (map (route_row id) n.routes)) s.2 (has_map (route_row id) n.routes s.0 old.0))))) (ap q (sym s.2) ∙ route_test id r.0 s.0 ∙ old.1)
          ]
    ]
    back a (inr other) = stays a ((rests.allowed a).1 (inr other)) (and_false (nat_eq a.network id) (nat_eq (family_number a.prefix.address.family) (family_number r.0.address.family) && (nat_eq a.prefix.address.number r.0.address.number && (nat_eq a.prefix.length r.0.length && a.is_route))) other.1)

-- the same of a list of routes
pub routes_come : (rs : Routes) (id : ℕ) (t u v : Tables) (n : NetworkValue) → AreOrdered n.routes → All HasAddr n.routes → Rests id t n u → Each (RoutePuts id) rs u v
    → Rests id t (record n { routes = assign_routes n.routes rs }) v
routes_come [] id t u v n ordered real rests done = subst (λ (x : Tables). Rests id t n x) done (record { meta = rests.meta; tenants = rests.tenants; tokens = rests.tokens; networks = rests.networks; seconds = rests.seconds; readers = rests.readers; peers = rests.peers; allowed = rests.allowed; keyed = rests.keyed })
routes_come (r ∷ rs) id t u v n ordered real rests (m, step, later) =
    let first = step.2.0 in
    let placed = routes_placed r.0 r.1 first in
    routes_come rs id t m v (record n { routes = assign_route n.routes r.0 r.1 })
    (put_pairs ComesBefore HasAddr (λ s. is_before s.0 r.0) (λ s. same_prefix s.0 r.0) n.routes r placed real ordered)
    (put_all HasAddr (λ s. is_before s.0 r.0) (λ s. same_prefix s.0 r.0) n.routes r real first)
    (route_comes id r t u m n ordered rests step) later

-- ---- a route that goes

pub route_goes : (id : ℕ) (p : PrefixValue) (t u v : Tables) (n : NetworkValue) → Rests id t n u → RouteGoes id p u v → Rests id t (record n { routes = without_route n.routes p }) v
route_goes id p t u v n rests gone = subst (Rests id t (record n { routes = without_route n.routes p })) (sym gone) (record {
  meta = rests.meta;
  tenants = rests.tenants;
  tokens = rests.tokens;
  networks = rests.networks;
  seconds = rests.seconds;
  readers = rests.readers;
  peers = rests.peers;
  allowed = rows_stay q (λ a. Has t.allowed a × (nat_eq a.network id ≡ false)) (λ a h. and_false _ _ h.1) (map (address_row id) n.peers ++ map (route_row id) n.routes) (map (address_row id) n.peers ++ map (route_row id) (without_route n.routes p)) u.allowed
      (two_stay q (address_row id) (route_row id) n.peers n.peers n.routes (without_route n.routes p) (left_all q (address_row id) n.peers (λ o. never (nat_eq id id) (nat_eq (family_number o.address.family) (family_number p.address.family)) (nat_eq o.address.number p.address.number) (nat_eq (width o.address.family) p.length)))
      (left_by q (route_row id) n.routes (λ r. same_prefix r.0 p) (route_test id p))) rests.allowed;
  keyed = allowed_keyed q u rests.keyed;
})
  where
    q : AllowedRow → Bool
    q = is_route_at id p

pub routes_go : (ps : List PrefixValue) (id : ℕ) (t u v : Tables) (n : NetworkValue) → Rests id t n u → Each (RouteGoes id) ps u v → Rests id t (record n { routes = without_routes n.routes ps }) v
routes_go [] id t u v n rests done = subst (λ (x : Tables). Rests id t n x) done (record { meta = rests.meta; tenants = rests.tenants; tokens = rests.tokens; networks = rests.networks; seconds = rests.seconds; readers = rests.readers; peers = rests.peers; allowed = rests.allowed; keyed = rests.keyed })
routes_go (p ∷ ps) id t u v n rests (m, step, later) = routes_go ps id t m v (record n { routes = without_route n.routes p }) (route_goes id p t u m n rests step) later
