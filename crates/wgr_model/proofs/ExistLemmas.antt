-- Every consistent register has rows.
use Rattle.std.proofs.Common.{◌≡◌, ℕ, ◌<◌, Bool, true, false, cond, not, ◌&&◌, List, [], ◌∷◌, ◌++◌, map, filter, flat_map, nat_eq, refl, sym, ap, ap₂, subst, ◌∙◌, arith, inl, inr}
use Rattle.std.specs.List.{AllPairs, AllByRecursion, IsDistinct, list_any}
use Rattle.std.proofs.lemmas.Bool.Decides.{nat_tests}
use Rattle.std.proofs.lemmas.List.{append-nil}
use Rattle.std.proofs.lemmas.List.Elements.{recursion_from_All}
use Rattle.std.proofs.lemmas.List.Sorted.{IsPermutation-refl}
use Rattle.std.proofs.lemmas.Map.Keys.{IsDistinct-cons, IsDistinct-head, IsDistinct-tail}
use Rattle.wgr_text.specs.Prefix.{PrefixValue}
use Rattle.wgr_text.specs.declared.addr.Family.{Family}
use Rattle.wgr_text.specs.declared.addr.Family.TheVariants.{V4, V6}
use Rattle.wgr_pool.proofs.Bools.{or_false}
use Rattle.wgr_pool.proofs.Lists.{AllPairs-head, AllPairs-tail}
use Rattle.wgr_pool.specs.PrefixTests.{full, same_family, same_prefix}
use Rattle.wgr_peers.proofs.RouteLemmas.{not_same}
use Rattle.wgr_peers.specs.Peers.{IsApart, IsNumberedBelow}
use Rattle.wgr_peers.specs.Routes.{ComesBefore}
use Rattle.wgr_peers.specs.declared.peer.Peer.{Peer}
use Rattle.wgr_core.specs.Network.{IsNetwork, IsRoute, server_address}
use Rattle.wgr_model.specs.Consistent.{IsNetworkEntry}
use Rattle.wgr_model.specs.Laws.{Has}
use Rattle.wgr_model.specs.Register.{NetworkEntry}
use Rattle.wgr_model.specs.Rows.{AllowedRow, address_row, allowed_key, allowed_rows, family_number, network_row, number_in, peer_id, peer_row, peer_rows, register_of, route_row, same_allowed, same_pair}
use Rattle.wgr_model.specs.RowsExist.{EveryEventHasARowStep, RowsExist, StepsHaveRows, rows_of}
use Rattle.wgr_model.proofs.CollectLemmas.{from_append, from_flat, from_map}
use Rattle.wgr_model.proofs.CommitLemmas.{own_allowed, own_peers}
use Rattle.wgr_model.proofs.GatherLemmas.{map_map, number_back}
use Rattle.wgr_model.proofs.HolderLemmas.{head_apart}
use Rattle.wgr_model.proofs.RuleLemmas.{none_at}
use Rattle.wgr_model.proofs.RunLemmas.{step_law}
use Rattle.wgr_model.proofs.SameLemmas.{at_has}
use Rattle.wgr_model.proofs.StepLemmas.{has_step}
use Rattle.wgr_peers.proofs.PeerLemmas.{apart_first}

-- ---- keys that are apart

module _ {A B : Type 0} (e : B → B → Bool) (f : A → B) where
  pub none_distinct : IsDistinct e (map f [])
  unfolding IsDistinct
  none_distinct = tt

  pub apart_from : (b : B) (xs : List A) → ((a : A) → Has xs a → e b (f a) ≡ false) → AllByRecursion (λ y. e b y ≡ false) (map f xs)
  apart_from b [] h = tt
  apart_from b (x ∷ xs) h = (h x (inl refl), apart_from b xs (λ a k. h a (inr k)))

  -- where a relation of each two tells it
  pub distinct_pairs : (R : A → A → Type 0) → ((a b : A) → R a b → e (f a) (f b) ≡ false) → (xs : List A) → AllPairs R xs → IsDistinct e (map f xs)
  distinct_pairs R tells [] pairs = none_distinct
  distinct_pairs R tells (x ∷ xs) pairs =
      let all = recursion_from_All (R x) xs (AllPairs-head R x xs pairs) in
      IsDistinct-cons e (f x) (map f xs) (apart_from (f x) xs (λ a h. tells x a (at_has (R x) xs a all h))) (distinct_pairs R tells xs (AllPairs-tail R x xs pairs))

  -- in a joined list
  distinct_append : (xs ys : List A) → IsDistinct e (map f xs) → IsDistinct e (map f ys) → ((a b : A) → Has xs a → Has ys b → e (f a) (f b) ≡ false) → IsDistinct e (map f (xs ++ ys))
  distinct_append [] ys u v cross = v
  distinct_append (x ∷ xs) ys u v cross = IsDistinct-cons e (f x) (map f (xs ++ ys))
      (apart_from (f x) (xs ++ ys) (λ a h. elim (from_append xs ys a h) [ inl k ↦ head_apart f e (f x) xs a (IsDistinct-head e (f x) (map f xs) u) k | inr k ↦ cross x a (inl refl) k ]))
      (distinct_append xs ys (IsDistinct-tail e (f x) (map f xs) u) v (λ a b h k. cross a b (inr h) k))

  -- in the rows of networks that no id is common to
  distinct_flat : (rows_in : NetworkEntry → List A) (id_in : A → ℕ) → ((k : NetworkEntry) (a : A) → Has (rows_in k) a → id_in a ≡ k.id) → ((a b : A) → nat_eq (id_in a) (id_in b) ≡ false → e (f a) (f b) ≡ false)
      → (hs : List NetworkEntry) → IsDistinct nat_eq (map (λ h. h.id) hs) → ((h : NetworkEntry) → Has hs h → IsDistinct e (map f (rows_in h))) → IsDistinct e (map f (flat_map rows_in hs))
  distinct_flat rows_in id_in own tells [] u each = none_distinct
  distinct_flat rows_in id_in own tells (h ∷ hs) u each =
      let ids = map (λ (x : NetworkEntry). x.id) hs in
      distinct_append (rows_in h) (flat_map rows_in hs) (each h (inl refl)) (distinct_flat rows_in id_in own tells hs (IsDistinct-tail nat_eq h.id ids u) (λ k at. each k (inr at)))
      (λ a b at there. let k = from_flat rows_in hs b there in tells a b (ap₂ nat_eq (own h a at) (own k.0 b k.2) ∙ head_apart (λ x. x.id) nat_eq h.id hs k.0 (IsDistinct-head nat_eq h.id ids u) k.1))

-- ---- the rows of one network

numbers_apart : (i n m : ℕ) → n < m → (nat_eq i i && nat_eq n m) ≡ false
numbers_apart i n m lt = grind (arith, nat_tests, lt)

ids_apart : (i n m : ℕ) → n < m → (nat_eq i i && nat_eq (peer_id i n) (peer_id i m)) ≡ false
ids_apart i n m lt = grind (arith, nat_tests, lt)

prefixes_apart : (i : ℕ) (p q : PrefixValue) → same_prefix p q ≡ false → same_allowed (i, family_number p.address.family, p.address.number, p.length) (i, family_number q.address.family, q.address.number, q.length) ≡ false
prefixes_apart i p q h = by_family p.address.family q.address.family h where
  by_family : (f g : Family) → ((same_family f g && nat_eq p.address.number q.address.number) && nat_eq p.length q.length) ≡ false → same_allowed (i, family_number f, p.address.number, p.length) (i, family_number g, q.address.number, q.length) ≡ false
  by_family V4 V4 h = grind (arith, nat_tests, h)
  by_family V4 V6 h = grind (arith, nat_tests)
  by_family V6 V4 h = grind (arith, nat_tests)
  by_family V6 V6 h = grind (arith, nat_tests, h)

differ_turn : (p q : PrefixValue) → same_prefix p q ≡ false → same_prefix q p ≡ false
differ_turn p q h = by_family p.address.family q.address.family h where
  by_family : (f g : Family) → ((same_family f g && nat_eq p.address.number q.address.number) && nat_eq p.length q.length) ≡ false → ((same_family g f && nat_eq q.address.number p.address.number) && nat_eq q.length p.length) ≡ false
  by_family V4 V4 h = grind (arith, nat_tests, h)
  by_family V4 V6 h = refl
  by_family V6 V4 h = refl
  by_family V6 V6 h = grind (arith, nat_tests, h)

module _ (h : NetworkEntry) (rules : IsNetwork h.network) where
  pub peers_apart : IsDistinct same_pair (map (λ p. (p.network, number_in p.network p.id)) (peer_rows h))
  peers_apart = subst (IsDistinct same_pair) (sym (map_map (peer_row h.id) (λ p. (p.network, number_in p.network p.id)) h.network.peers))
      (distinct_pairs same_pair (λ (p : Peer). (h.id, number_in h.id (peer_id h.id p.number))) IsNumberedBelow
      (λ p q lt. ap₂ (λ x y. nat_eq h.id h.id && nat_eq x y) (number_back h.id p.number) (number_back h.id q.number) ∙ numbers_apart h.id p.number q.number lt)
      h.network.peers rules.numbered)

  pub owners_apart : IsDistinct same_pair (map (λ a. (a.network, a.peer)) (map (address_row h.id) h.network.peers))
  owners_apart = subst (IsDistinct same_pair) (sym (map_map (address_row h.id) (λ a. (a.network, a.peer)) h.network.peers))
      (distinct_pairs same_pair (λ (p : Peer). (h.id, peer_id h.id p.number)) IsNumberedBelow (λ p q lt. ids_apart h.id p.number q.number lt) h.network.peers rules.numbered)

  pub addresses_apart : IsDistinct same_allowed (map allowed_key (map (address_row h.id) h.network.peers))
  addresses_apart = subst (IsDistinct same_allowed) (sym (map_map (address_row h.id) allowed_key h.network.peers))
      (distinct_pairs same_allowed (λ p. allowed_key (address_row h.id p)) IsApart
      (λ p q apart. prefixes_apart h.id (full p.address) (full q.address) (ap (λ b. b && nat_eq (full p.address).length (full q.address).length) (apart_first p q apart)))
      h.network.peers rules.apart)

  pub routes_apart : IsDistinct same_allowed (map allowed_key (map (route_row h.id) h.network.routes))
  routes_apart = subst (IsDistinct same_allowed) (sym (map_map (route_row h.id) allowed_key h.network.routes))
      (distinct_pairs same_allowed (λ r. allowed_key (route_row h.id r)) ComesBefore (λ r s before. prefixes_apart h.id r.0 s.0 (not_same s.0 r before)) h.network.routes rules.ordered)

  -- no route is a peer's address
  pub kinds_apart : (a b : AllowedRow) → Has (map (address_row h.id) h.network.peers) a → Has (map (route_row h.id) h.network.routes) b → same_allowed (allowed_key a) (allowed_key b) ≡ false
  kinds_apart a b at there =
      let p = from_map (address_row h.id) h.network.peers a at in
      let r = from_map (route_row h.id) h.network.routes b there in
      let rule = at_has (IsRoute h.network) h.network.routes r.0 (recursion_from_All (IsRoute h.network) h.network.routes rules.routes) r.1 in
      let other = or_false (list_any (λ e. same_prefix r.0.0 (full e.address)) h.network.peers) (same_prefix r.0.0 (full (server_address h.network.pool))) rule.no_address in
      ap₂ (λ x y. same_allowed (allowed_key x) (allowed_key y)) (sym p.2) (sym r.2)
      ∙ prefixes_apart h.id (full p.0.address) r.0.0 (differ_turn r.0.0 (full p.0.address) (none_at (λ e. same_prefix r.0.0 (full e.address)) h.network.peers p.0 other.0 p.1))

  allowed_apart : IsDistinct same_allowed (map allowed_key (allowed_rows h))
  allowed_apart = distinct_append same_allowed allowed_key (map (address_row h.id) h.network.peers) (map (route_row h.id) h.network.routes) addresses_apart routes_apart kinds_apart

-- ---- address rows alone

filter_append : {A : Type 0} (p : A → Bool) (xs ys : List A) → filter p (xs ++ ys) ≡ filter p xs ++ filter p ys
filter_append p [] ys = refl
filter_append p (x ∷ xs) ys = elim (p x) as (λ b. cond b (x ∷ filter p (xs ++ ys)) (filter p (xs ++ ys)) ≡ cond b (x ∷ filter p xs) (filter p xs) ++ filter p ys) [ true ↦ ap (λ zs. x ∷ zs) (filter_append p xs ys) | false ↦ filter_append p xs ys ]

addresses_kept : (id : ℕ) (peers : List Peer) → filter (λ a. not a.is_route) (map (address_row id) peers) ≡ map (address_row id) peers
addresses_kept id [] = refl
addresses_kept id (p ∷ peers) = ap (λ rows. address_row id p ∷ rows) (addresses_kept id peers)

routes_left_out : (id : ℕ) (routes : List (PrefixValue × ℕ)) → filter (λ a. not a.is_route) (map (route_row id) routes) ≡ []
routes_left_out id [] = refl
routes_left_out id (r ∷ routes) = routes_left_out id routes

only_addresses : (hs : List NetworkEntry) → filter (λ a. not a.is_route) (flat_map allowed_rows hs) ≡ flat_map (λ h. map (address_row h.id) h.network.peers) hs
only_addresses [] = refl
only_addresses (h ∷ hs) =
    filter_append (λ a. not a.is_route) (allowed_rows h) (flat_map allowed_rows hs)
    ∙ ap₂ (λ xs ys. xs ++ ys)
    (filter_append (λ a. not a.is_route) (map (address_row h.id) h.network.peers) (map (route_row h.id) h.network.routes)
    ∙ ap₂ (λ xs ys. xs ++ ys) (addresses_kept h.id h.network.peers) (routes_left_out h.id h.network.routes)
    ∙ append-nil (map (address_row h.id) h.network.peers))
    (only_addresses hs)

-- ---- all rows

pub pair_by_id : (a b c d : ℕ) → nat_eq a b ≡ false → (nat_eq a b && nat_eq c d) ≡ false
pair_by_id a b c d h = ap (λ x. x && nat_eq c d) h

pub rows_exist : RowsExist
rows_exist r good =
    let rules = λ (h : NetworkEntry) (at : Has r.networks h). (at_has IsNetworkEntry r.networks h good.networks at).rules in
    record {
      meta = refl;
      tenants = IsPermutation-refl r.tenants;
      tokens = IsPermutation-refl r.tokens;
      networks = IsPermutation-refl (map network_row r.networks);
      seconds = refl;
      readers = IsPermutation-refl r.readers;
      peers = λ a. ((λ h. h), (λ h. h));
      allowed = λ a. ((λ h. h), (λ h. h));
      keyed = record {
        peer_keys = distinct_flat same_pair (λ p. (p.network, number_in p.network p.id)) peer_rows (λ p. p.network) own_peers
            (λ a b apart. pair_by_id a.network b.network (number_in a.network a.id) (number_in b.network b.id) apart) r.networks good.network_ids (λ h at. peers_apart h (rules h at));
        allowed_keys = distinct_flat same_allowed allowed_key allowed_rows (λ a. a.network) own_allowed
            (λ a b apart. ap (λ x. x && nat_eq (allowed_key a).1 (allowed_key b).1 && nat_eq (allowed_key a).2 (allowed_key b).2 && nat_eq (allowed_key a).3 (allowed_key b).3) apart) r.networks good.network_ids (λ h at. allowed_apart h (rules h at));
        address_keys = subst (λ rows. IsDistinct same_pair (map (λ (a : AllowedRow). (a.network, a.peer)) rows)) (sym (only_addresses r.networks))
            (distinct_flat same_pair (λ a. (a.network, a.peer)) (λ h. map (address_row h.id) h.network.peers) (λ a. a.network)
            (λ k a x. let v = from_map (address_row k.id) k.network.peers a x in ap (λ z. z.network) (sym v.2))
            (λ a b apart. pair_by_id a.network b.network a.peer b.peer apart) r.networks good.network_ids (λ h at. owners_apart h (rules h at)));
      };
    }

pub steps_have_rows : StepsHaveRows
steps_have_rows t e answer s is proper step = record { after = s; step = step; rows = rows_exist s (step_law (register_of t) s e answer is.consistent proper step).consistent }

pub has_row_step : EveryEventHasARowStep
has_row_step t e is proper =
    let step = has_step (register_of t) e in
    (step.0, rows_of step.1, steps_have_rows t e step.0 step.1 is proper step.2)
