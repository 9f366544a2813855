-- The rows of a good register are read back as that register.
use Rattle.std.proofs.Common.{◌≡◌, ℕ, ◌+◌, Bool, true, false, cond, not, ◌&&◌, List, [], ◌∷◌, map, filter, find, Some, None, Option, nat_eq, refl, sym, ap, ap₂, subst, ◌∙◌, arith, true≢false, inl, inr, Ordering, Less, Equal, eqb-true, IsPermutation}
use Rattle.std.specs.Prelude.{⊤, if◌then◌else◌}
use Rattle.std.specs.List.{AllByRecursion}
use Rattle.std.specs.Ordering.{nat_cmp, ordering_then}
use Rattle.std.specs.Cmp.{IsTotalOrder, nat_cmp_total}
use Rattle.std.specs.FinMap.{IsAntisymmetric, nat_cmp-IsAntisymmetric}
use Rattle.std.proofs.lemmas.Cmp.{on_total, then_total}
use Rattle.std.proofs.lemmas.Bool.Decides.{nat_tests}
use Rattle.std.proofs.lemmas.List.Sorted.{IsPermutation-map}
use Rattle.std.proofs.lemmas.Map.Lookups.{exact_pairs, exact_unsigned}
use Rattle.std.specs.Prelude.{◌^◌, ◌<◌, ◌||◌, nat_lt}
use Rattle.std.specs.List.{AllPairs}
use Rattle.std.specs.List.Sorted.{IsStrictlySortedBy}
use Rattle.std.specs.Cmp.{nat_cmp_is}
use Rattle.std.proofs.lemmas.List.Elements.{recursion_from_All}
use Rattle.wgr_text.specs.Prefix.{AddrValue, IsAddr, PrefixValue, first_rank, width}
use Rattle.wgr_text.specs.declared.addr.Family.{Family}
use Rattle.wgr_text.specs.declared.addr.Family.TheVariants.{V4, V6}
use Rattle.wgr_pool.proofs.Bools.{and_true, or_cases}
use Rattle.wgr_pool.proofs.Lists.{AllPairs-head, AllPairs-tail}
use Rattle.wgr_pool.specs.PrefixTests.{is_before}
use Rattle.wgr_peers.specs.Peers.{IsNumberedBelow}
use Rattle.wgr_peers.specs.Routes.{ComesBefore}
use Rattle.wgr_peers.specs.declared.peer.Peer.{Peer}
use Rattle.wgr_core.specs.Network.{IsNetwork, IsRoute, NetworkValue}
use Rattle.wgr_model.specs.Consistent.{IsConsistent, IsNetworkEntry}
use Rattle.wgr_model.specs.Laws.{Has}
use Rattle.wgr_model.specs.Register.{NetworkEntry, IsSame, Register}
use Rattle.wgr_model.specs.Rows.{AllowedRow, AreKeyed, AreRowsOf, PeerRow, Tables, address_of, address_row, allowed_key, allowed_rows, family_number, network_entry_of, network_row, number_in, peer_id, peer_row, peer_rows, peer_value, peers_of, prefix_cmp, prefix_key, register_of, route_row, route_value, routes_of, same_allowed, same_pair}
use Rattle.wgr_model.proofs.CollectLemmas.{collected, from_append, from_flat, from_map, has_flat, has_left, has_map, has_right}
use Rattle.wgr_model.proofs.HolderLemmas.{member, one_or_apart}
use Rattle.wgr_model.proofs.SameLemmas.{at_has, eqb_sym, has_find}

pub eqb_self : (a : ℕ) → nat_eq a a ≡ true
eqb_self a = grind (arith, nat_tests)

pub prefix_total : IsTotalOrder prefix_cmp
prefix_total = then_total (on_total (λ p. p.0) nat_cmp_total) (then_total (on_total (λ p. p.1) nat_cmp_total) (on_total (λ p. p.2) nat_cmp_total))

pub prefix_exact : IsAntisymmetric prefix_cmp
prefix_exact p q h = ap (λ (z : ℕ × (ℕ × ℕ)). (z.0, z.1.0, z.1.1)) (exact_pairs nat_cmp (λ (x y : ℕ × ℕ). ordering_then (nat_cmp x.0 y.0) (nat_cmp x.1 y.1)) exact_unsigned (exact_pairs nat_cmp nat_cmp exact_unsigned exact_unsigned) (p.0, (p.1, p.2)) (q.0, (q.1, q.2)) h)

pub in_filter : {A : Type 0} (p : A → Bool) (xs : List A) (a : A) → Has xs a → p a ≡ true → Has (filter p xs) a
in_filter p [] a h t = elim h [ ]
in_filter p (x ∷ xs) a (inl e) t = subst (λ b. Has (cond b (x ∷ filter p xs) (filter p xs)) a) (sym (ap p e ∙ t)) (inl e)
in_filter p (x ∷ xs) a (inr h) t = by_test (p x) (in_filter p xs a h t) where
  by_test : (b : Bool) → Has (filter p xs) a → Has (cond b (x ∷ filter p xs) (filter p xs)) a
  by_test true k = inr k
  by_test false k = k

-- ---- keys in order

number_below : (x y : ℕ) → x < y → nat_cmp x y ≡ Less
number_below x y lt = sym (nat_cmp_is x y Less lt)

then_below : (base n m k l : ℕ) → (nat_lt (base + n) (base + m) || (nat_eq (base + n) (base + m) && nat_lt k l)) ≡ true → ordering_then (nat_cmp n m) (nat_cmp k l) ≡ Less
then_below base n m k l h = elim (or_cases (nat_lt (base + n) (base + m)) (nat_eq (base + n) (base + m) && nat_lt k l) h) [
  | inl e ↦ ap (λ o. ordering_then o (nat_cmp k l)) (number_below n m (grind (arith, nat_tests, e)))
  | inr e ↦
      let both = and_true (nat_eq (base + n) (base + m)) (nat_lt k l) e in
      let same : nat_cmp n m ≡ Equal = sym (nat_cmp_is n m Equal (grind (arith, nat_tests, both.0))) in
      ap (λ o. ordering_then o (nat_cmp k l)) same ∙ number_below k l (grind (arith, nat_tests, both.1))
]

beyond : (base n m k l : ℕ) → m < base → (nat_lt (base + n) (0 + m) || (nat_eq (base + n) (0 + m) && nat_lt k l)) ≡ false
beyond base n m k l lt = grind (arith, nat_tests, lt)

-- real prefixes in their order have keys in order
before_below : (p q : PrefixValue) → IsAddr p.address → IsAddr q.address → is_before p q ≡ true → prefix_cmp (prefix_key p) (prefix_key q) ≡ Less
before_below p q fits there h = by_family p.address.family q.address.family fits there h where
  by_family : (f g : Family) → p.address.number < 2 ^ width f → q.address.number < 2 ^ width g
      → (nat_lt (first_rank f + p.address.number) (first_rank g + q.address.number) || (nat_eq (first_rank f + p.address.number) (first_rank g + q.address.number) && nat_lt p.length q.length)) ≡ true
      → prefix_cmp (family_number f, p.address.number, p.length) (family_number g, q.address.number, q.length) ≡ Less
  by_family V4 V4 a b e = then_below 0 p.address.number q.address.number p.length q.length e
  by_family V4 V6 a b e = refl
  by_family V6 V4 a b e = absurd (true≢false (sym e ∙ beyond (2 ^ 128) p.address.number q.address.number p.length q.length (omega (arith, b))))
  by_family V6 V6 a b e = then_below (2 ^ 128) p.address.number q.address.number p.length q.length e

module _ {X K : Type 0} (R : K → K → Ordering) (k : X → K) (S : X → X → Type 0) (Is : X → Type 0) (tells : (x y : X) → Is x → Is y → S x y → R (k x) (k y) ≡ Less) where
  below : (x : X) (xs : List X) → Is x → AllByRecursion Is xs → AllByRecursion (S x) xs → AllByRecursion (λ y. R (k x) y ≡ Less) (map k xs)
  below x [] is are all = tt
  below x (y ∷ ys) is are all = (tells x y is are.0 all.0, below x ys is are.1 all.1)

  pub in_sorted : (xs : List X) → AllByRecursion Is xs → AllPairs S xs → IsStrictlySortedBy R (map k xs)
  unfolding IsStrictlySortedBy
  in_sorted [] are pairs = tt
  in_sorted (x ∷ xs) are pairs = (below x xs are.0 are.1 (recursion_from_All (S x) xs (AllPairs-head S x xs pairs)), in_sorted xs are.1 (AllPairs-tail S x xs pairs))

everywhere : {X : Type 0} (xs : List X) → AllByRecursion (λ _. ⊤) xs
everywhere [] = tt
everywhere (x ∷ xs) = (tt, everywhere xs)

weaken : {A : Type 0} (P Q : A → Type 0) → ((x : A) → P x → Q x) → (xs : List A) → AllByRecursion P xs → AllByRecursion Q xs
weaken P Q h [] all = tt
weaken P Q h (x ∷ xs) all = (h x all.0, weaken P Q h xs all.1)

pub peers_sorted : (n : NetworkValue) → IsNetwork n → IsStrictlySortedBy nat_cmp (map (λ p. p.number) n.peers)
peers_sorted n rules = in_sorted nat_cmp (λ p. p.number) IsNumberedBelow (λ _. ⊤) (λ p q _ _ lt. number_below p.number q.number lt) n.peers (everywhere n.peers) rules.numbered

pub routes_sorted : (n : NetworkValue) → IsNetwork n → IsStrictlySortedBy prefix_cmp (map (λ r. prefix_key r.0) n.routes)
routes_sorted n rules = in_sorted prefix_cmp (λ r. prefix_key r.0) ComesBefore (λ r. IsAddr r.0.address) (λ r s a b lt. before_below r.0 s.0 a b lt) n.routes
    (weaken (IsRoute n) (λ r. IsAddr r.0.address) (λ r is. is.masked.0) n.routes (recursion_from_All (IsRoute n) n.routes rules.routes)) rules.ordered

-- ---- addresses
address_in : Option AllowedRow → AddrValue
address_in None = record { family = V4; number = 0 }
address_in (Some a) = a.prefix.address

address_found : (rows : List AllowedRow) (n p : ℕ) → address_of rows n p ≡ address_in (find (λ a. nat_eq a.network n && nat_eq a.peer p) (filter (λ a. not a.is_route) rows))
unfolding address_in
address_found [] n p = refl
address_found (a ∷ rows) n p = by_test (not a.is_route) (nat_eq a.network n && nat_eq a.peer p) refl (address_found rows n p) where
  rest : List AllowedRow
  rest = filter (λ a. not a.is_route) rows

  by_test : (b c : Bool) → (nat_eq a.network n && nat_eq a.peer p) ≡ c → address_of rows n p ≡ address_in (find (λ a. nat_eq a.network n && nat_eq a.peer p) rest) → (if b && c then a.prefix.address else address_of rows n p) ≡ address_in (find (λ a. nat_eq a.network n && nat_eq a.peer p) (cond b (a ∷ rest) rest))
  by_test false c e h = h
  by_test true true e h = ap (λ b. address_in (cond b (Some a) (find (λ a. nat_eq a.network n && nat_eq a.peer p) rest))) (sym e)
  by_test true false e h = h ∙ ap (λ b. address_in (cond b (Some a) (find (λ a. nat_eq a.network n && nat_eq a.peer p) rest))) (sym e)

pair_tells : (n p : ℕ) (a b : AllowedRow) → (nat_eq a.network n && nat_eq a.peer p) ≡ true → (nat_eq b.network n && nat_eq b.peer p) ≡ true → same_pair (a.network, a.peer) (b.network, b.peer) ≡ true
pair_tells n p a b h k = grind (arith, nat_tests, h, k)

-- a number is read back from its peer's id
pub number_back : (network number : ℕ) → number_in network (peer_id network number) ≡ number
number_back network number = omega arith

-- the address of a peer is that of its row
pub address_read : (t : Tables) → AreKeyed t → (id : ℕ) (v : Peer) → Has t.allowed (address_row id v) → address_of t.allowed id (peer_id id v.number) ≡ v.address
unfolding address_in
address_read t keyed id v here = address_found t.allowed id (peer_id id v.number) ∙ ap address_in
    (has_find (λ a. nat_eq a.network id && nat_eq a.peer (peer_id id v.number)) (λ a. (a.network, a.peer)) same_pair (pair_tells id (peer_id id v.number)) (filter (λ a. not a.is_route) t.allowed) (address_row id v) keyed.address_keys
    (in_filter (λ a. not a.is_route) t.allowed (address_row id v) here refl) (ap₂ (λ x y. x && y) (eqb_self id) (eqb_self (peer_id id v.number))))

-- two rows of a network with one key are told to be the same
pub peer_keys_tell : (id : ℕ) (a b : PeerRow) → nat_eq a.network id ≡ true → nat_eq b.network id ≡ true → number_in a.network a.id ≡ number_in b.network b.id
    → same_pair (a.network, number_in a.network a.id) (b.network, number_in b.network b.id) ≡ true
peer_keys_tell id a b x y e =
    let networks : nat_eq a.network b.network ≡ true = grind (arith, nat_tests, x, y) in
    ap₂ (λ u v. u && v) networks (ap (nat_eq (number_in a.network a.id)) (sym e) ∙ eqb_self (number_in a.network a.id))

pub route_keys_tell : (id : ℕ) (a b : AllowedRow) → (a.is_route && nat_eq a.network id) ≡ true → (b.is_route && nat_eq b.network id) ≡ true → prefix_key a.prefix ≡ prefix_key b.prefix → same_allowed (allowed_key a) (allowed_key b) ≡ true
route_keys_tell id a b x y e =
    let p = eqb-true a.network id (and_true a.is_route (nat_eq a.network id) x).1 in
    let q = eqb-true b.network id (and_true b.is_route (nat_eq b.network id) y).1 in
    let key = prefix_key a.prefix in
    subst (λ z. same_allowed (allowed_key a) z ≡ true) (λ i. ((p ∙ sym q) i, (e i).0, (e i).1, (e i).2))
    (ap₂ (λ u v. u && v) (ap₂ (λ u v. u && v) (ap₂ (λ u v. u && v) (eqb_self a.network) (eqb_self key.0)) (eqb_self key.1)) (eqb_self key.2))

module _ (r : Register) (t : Tables) (rows : AreRowsOf r t) (good : IsConsistent r) (h : NetworkEntry) (held : Has r.networks h) where
  one_id : (k : NetworkEntry) → Has r.networks k → nat_eq k.id h.id ≡ true → k ≡ h
  one_id k kk e = elim (one_or_apart (λ x. x.id) nat_eq eqb_sym r.networks k h good.network_ids kk held) [ inl same ↦ same | inr other ↦ absurd (true≢false (sym e ∙ other)) ]

  rules : IsNetwork h.network
  rules = (at_has IsNetworkEntry r.networks h good.networks held).rules

  allowed_there : (a : AllowedRow) → Has (allowed_rows h) a → Has t.allowed a
  allowed_there a k = (rows.allowed a).0 (has_flat allowed_rows r.networks h a held k)

  address_is : (v : Peer) → Has h.network.peers v → address_of t.allowed h.id (peer_id h.id v.number) ≡ v.address
  address_is v k = address_read t rows.keyed h.id v (allowed_there (address_row h.id v) (has_left (map (address_row h.id) h.network.peers) (map (route_row h.id) h.network.routes) (address_row h.id v) (has_map (address_row h.id) h.network.peers v k)))

  peer_to : (v : Peer) → Has h.network.peers v → Has t.peers (peer_row h.id v) × (nat_eq (peer_row h.id v).network h.id ≡ true) × (number_in h.id (peer_id h.id v.number) ≡ v.number) × (peer_value t (peer_row h.id v) ≡ v)
  peer_to v k = (
    (rows.peers (peer_row h.id v)).0 (has_flat peer_rows r.networks h (peer_row h.id v) held (has_map (peer_row h.id) h.network.peers v k)),
    eqb_self h.id,
    number_back h.id v.number,
    λ i. record { number = number_back h.id v.number i; key = v.key; label = v.label; address = address_is v k i; second = sym (member h.network v rules k).alone i; until = v.until; keepalive = v.keepalive; status = v.status },
  )

  peer_from : (a : PeerRow) → Has t.peers a → nat_eq a.network h.id ≡ true → (v : Peer) × Has h.network.peers v × (peer_row h.id v ≡ a)
  peer_from a k e =
      let f = from_flat peer_rows r.networks a ((rows.peers a).1 k) in
      let v = from_map (peer_row f.0.id) f.0.network.peers a f.2 in
      let same : f.0 ≡ h = one_id f.0 f.1 (ap (λ x. nat_eq x.network h.id) v.2 ∙ e) in
      (v.0, subst (λ x. Has x.network.peers v.0) same v.1, ap (λ x. peer_row x.id v.0) (sym same) ∙ v.2)

  pub peers_read : peers_of t h.id ≡ h.network.peers
  peers_read = collected nat_cmp nat_cmp_total nat_cmp-IsAntisymmetric (λ v. v.number) (λ p. nat_eq p.network h.id) (λ p. number_in p.network p.id) (peer_value t) (peer_row h.id) (λ p. (p.network, number_in p.network p.id)) same_pair t.peers h.network.peers (peer_keys_tell h.id) rows.keyed.peer_keys (peers_sorted h.network rules) peer_to peer_from

  route_to : (v : PrefixValue × ℕ) → Has h.network.routes v → Has t.allowed (route_row h.id v) × ((true && nat_eq h.id h.id) ≡ true) × (prefix_key v.0 ≡ prefix_key v.0) × (route_value (route_row h.id v) ≡ v)
  route_to v k = (allowed_there (route_row h.id v) (has_right (map (address_row h.id) h.network.peers) (map (route_row h.id) h.network.routes) (route_row h.id v) (has_map (route_row h.id) h.network.routes v k)), eqb_self h.id, refl, λ i. (v.0, number_back h.id v.1 i))

  route_from : (a : AllowedRow) → Has t.allowed a → (a.is_route && nat_eq a.network h.id) ≡ true → (v : PrefixValue × ℕ) × Has h.network.routes v × (route_row h.id v ≡ a)
  route_from a k e =
      let f = from_flat allowed_rows r.networks a ((rows.allowed a).1 k) in
      let b = and_true a.is_route (nat_eq a.network h.id) e in
      elim (from_append (map (address_row f.0.id) f.0.network.peers) (map (route_row f.0.id) f.0.network.routes) a f.2) [
        | inl x ↦ let v = from_map (address_row f.0.id) f.0.network.peers a x in absurd (true≢false (sym b.0 ∙ ap (λ z. z.is_route) (sym v.2)))
        | inr x ↦
            let v = from_map (route_row f.0.id) f.0.network.routes a x in
            let same : f.0 ≡ h = one_id f.0 f.1 (ap (λ z. nat_eq z.network h.id) v.2 ∙ b.1) in
            (v.0, subst (λ z. Has z.network.routes v.0) same v.1, ap (λ z. route_row z.id v.0) (sym same) ∙ v.2)
      ]

  pub routes_read : routes_of t h.id ≡ h.network.routes
  routes_read = collected prefix_cmp prefix_total prefix_exact (λ v. prefix_key v.0) (λ a. a.is_route && nat_eq a.network h.id) (λ a. prefix_key a.prefix) route_value (route_row h.id) allowed_key same_allowed t.allowed h.network.routes (route_keys_tell h.id) rows.keyed.allowed_keys (routes_sorted h.network rules) route_to route_from

  pub network_entry_read : network_entry_of t (network_row h) ≡ h
  network_entry_read = λ i. record { id = h.id; tenant = h.tenant; name = h.name; network = record { pool = h.network.pool; host = h.network.host; port = h.network.port; server = h.network.server; capacity = h.network.capacity; next = h.network.next; peers = peers_read i; routes = routes_read i } }

map_itself : {A : Type 0} (f : A → A) (xs : List A) → ((x : A) → Has xs x → f x ≡ x) → map f xs ≡ xs
map_itself f [] h = refl
map_itself f (x ∷ xs) h = ap₂ (λ y ys. y ∷ ys) (h x (inl refl)) (map_itself f xs (λ z k. h z (inr k)))

pub map_map : {A B C : Type 0} (f : A → B) (g : B → C) (xs : List A) → map g (map f xs) ≡ map (λ x. g (f x)) xs
map_map f g [] = refl
map_map f g (x ∷ xs) = ap (λ ys. g (f x) ∷ ys) (map_map f g xs)

pub gathered : (r : Register) (t : Tables) → AreRowsOf r t → IsConsistent r → IsSame r (register_of t)
gathered r t rows good = record {
  tenants = rows.tenants;
  tokens = rows.tokens;
  readers = rows.readers;
  networks = subst (λ xs. IsPermutation xs (map (network_entry_of t) t.networks)) (map_map network_row (network_entry_of t) r.networks ∙ map_itself (λ h. network_entry_of t (network_row h)) r.networks (λ h k. network_entry_read r t rows good h k)) (IsPermutation-map (network_entry_of t) (map network_row r.networks) t.networks rows.networks);
}
