-- What a commit owes: the rows after a change are those of the register after it.
use Rattle.std.proofs.Common.{◌≡◌, ℕ, Bool, true, false, ◌&&◌, List, [], ◌∷◌, map, flat_map, nat_eq, refl, sym, ap, ap₂, subst, ◌∙◌, true≢false, ◌⊎◌, inl, inr, ◌↔◌, IsPermutation}
use Rattle.std.specs.Prelude.{if◌then◌else◌}
use Rattle.std.specs.List.{IsDistinct, AllByRecursion}
use Rattle.std.proofs.lemmas.Map.Keys.{IsDistinct-head, IsDistinct-tail}
use Rattle.std.proofs.lemmas.List.Sorted.{IsPermutation-map, IsPermutation-trans}
use Rattle.wgr_laws.specs.Laws.{HasSettingsOf}
use Rattle.wgr_core.specs.Network.{NetworkValue}
use Rattle.wgr_model.specs.Consistent.{IsConsistent, same_slot, slot}
use Rattle.wgr_model.specs.Laws.{Has}
use Rattle.wgr_model.specs.Register.{NetworkEntry, Register, is_same}
use Rattle.wgr_model.specs.Rows.{AllowedRow, AreRowsOf, NetworkRow, PeerRow, Replaces, Tables, address_row, allowed_rows, network_row, peer_row, peer_rows, route_row, with_next}
use Rattle.wgr_model.specs.Steps.{put_network, with_network}
use Rattle.wgr_model.proofs.CollectLemmas.{from_append, from_flat, from_map, has_flat}
use Rattle.wgr_model.proofs.GatherLemmas.{eqb_self, map_map}
use Rattle.wgr_model.proofs.HolderLemmas.{head_apart, one_or_apart}
use Rattle.wgr_model.proofs.LookLemmas.{is_same_refl}
use Rattle.wgr_model.proofs.SameLemmas.{eqb_sym, slot_sym}

in_slot : (h x : NetworkEntry) → Bool
in_slot h x = nat_eq x.tenant h.tenant && is_same h.name x.name

is_slot : (h x : NetworkEntry) → (nat_eq x.tenant h.tenant && is_same h.name x.name) ≡ same_slot (slot h) (slot x)
is_slot h x = ap (λ b. b && is_same h.name x.name) (eqb_sym x.tenant h.tenant)

pub self_slot : (h : NetworkEntry) → same_slot (slot h) (slot h) ≡ true
self_slot h = ap₂ (λ x y. x && y) (eqb_self h.tenant) (is_same_refl h.name)

module _ (h : NetworkEntry) (n : NetworkValue) where
  put : List NetworkEntry → List NetworkEntry
  put hs = with_network hs h.tenant h.name n

  -- the network itself is in its place
  pub put_has : (hs : List NetworkEntry) → IsDistinct same_slot (map slot hs) → Has hs h → Has (with_network hs h.tenant h.name n) (record h { network = n })
  put_has [] u k = elim k [ ]
  put_has (x ∷ hs) u (inl e) = subst (λ b. Has (if b then record x { network = n } ∷ hs else x ∷ with_network hs h.tenant h.name n) (record h { network = n })) (sym (is_slot h x ∙ ap (λ z. same_slot (slot h) (slot z)) e ∙ self_slot h)) (inl (ap {A = NetworkEntry} (λ z. record z { network = n }) e))
  put_has (x ∷ hs) u (inr k) = subst (λ b. Has (if b then record x { network = n } ∷ hs else x ∷ with_network hs h.tenant h.name n) (record h { network = n })) (sym (is_slot h x ∙ slot_sym (slot h) (slot x) ∙ head_apart slot same_slot (slot x) hs h (IsDistinct-head same_slot (slot x) (map slot hs) u) k)) (inr (put_has hs (IsDistinct-tail same_slot (slot x) (map slot hs) u) k))

  -- and so is each other one
  pub put_other : (hs : List NetworkEntry) (k : NetworkEntry) → Has hs k → same_slot (slot h) (slot k) ≡ false → Has (with_network hs h.tenant h.name n) k
  put_other [] k there apart = elim there [ ]
  put_other (x ∷ hs) k (inl e) apart = subst (λ b. Has (if b then record x { network = n } ∷ hs else x ∷ with_network hs h.tenant h.name n) k) (sym (is_slot h x ∙ ap (λ z. same_slot (slot h) (slot z)) e ∙ apart)) (inl e)
  put_other (x ∷ hs) k (inr there) apart = by_test (nat_eq x.tenant h.tenant && is_same h.name x.name) (put_other hs k there apart) where
    by_test : (b : Bool) → Has (with_network hs h.tenant h.name n) k → Has (if b then record x { network = n } ∷ hs else x ∷ with_network hs h.tenant h.name n) k
    by_test true rest = inr there
    by_test false rest = inr rest

  -- nothing else is there
  from_put : (hs : List NetworkEntry) → IsDistinct same_slot (map slot hs) → Has hs h → (k : NetworkEntry) → Has (with_network hs h.tenant h.name n) k → (k ≡ record h { network = n }) ⊎ (Has hs k × (same_slot (slot h) (slot k) ≡ false))
  from_put [] u there k at = elim there [ ]
  from_put (x ∷ hs) u (inl e) k at = split (subst (λ b. Has (if b then record x { network = n } ∷ hs else x ∷ with_network hs h.tenant h.name n) k) (is_slot h x ∙ ap (λ z. same_slot (slot h) (slot z)) e ∙ self_slot h) at) where
    split : Has (record x { network = n } ∷ hs) k → (k ≡ record h { network = n }) ⊎ (Has (x ∷ hs) k × (same_slot (slot h) (slot k) ≡ false))
    split (inl same) = inl (sym same ∙ ap {A = NetworkEntry} (λ z. record z { network = n }) e)
    split (inr later) = inr (inr later, ap (λ z. same_slot (slot z) (slot k)) (sym e) ∙ head_apart slot same_slot (slot x) hs k (IsDistinct-head same_slot (slot x) (map slot hs) u) later)
  from_put (x ∷ hs) u (inr there) k at = split (from_put hs (IsDistinct-tail same_slot (slot x) (map slot hs) u) there k) (subst (λ b. Has (if b then record x { network = n } ∷ hs else x ∷ with_network hs h.tenant h.name n) k) (is_slot h x ∙ apart) at) where
    apart : same_slot (slot h) (slot x) ≡ false
    apart = slot_sym (slot h) (slot x) ∙ head_apart slot same_slot (slot x) hs h (IsDistinct-head same_slot (slot x) (map slot hs) u) there

    split : (Has (with_network hs h.tenant h.name n) k → (k ≡ record h { network = n }) ⊎ (Has hs k × (same_slot (slot h) (slot k) ≡ false))) → Has (x ∷ with_network hs h.tenant h.name n) k → (k ≡ record h { network = n }) ⊎ (Has (x ∷ hs) k × (same_slot (slot h) (slot k) ≡ false))
    split rest (inl same) = inr (inl same, ap (λ z. same_slot (slot h) (slot z)) (sym same) ∙ apart)
    split rest (inr later) = elim (rest later) [ inl e ↦ inl e | inr e ↦ inr (inr e.0, e.1) ]

-- rows of one kind, each with its network's id
module _ {A : Type 0} (rows_in : NetworkEntry → List A) (id_in : A → ℕ) (own : (k : NetworkEntry) (a : A) → Has (rows_in k) a → id_in a ≡ k.id) (r : Register) (good : IsConsistent r) (h : NetworkEntry) (held : Has r.networks h) (n : NetworkValue) where
  after : NetworkEntry
  after = record h { network = n }

  ids_apart : (k : NetworkEntry) → Has r.networks k → same_slot (slot h) (slot k) ≡ false → nat_eq k.id h.id ≡ false
  ids_apart k kk apart = elim (one_or_apart (λ x. x.id) nat_eq eqb_sym r.networks k h good.network_ids kk held) [ inr other ↦ other | inl same ↦ absurd (true≢false (sym (self_slot h) ∙ ap (λ z. same_slot (slot h) (slot z)) (sym same) ∙ apart)) ]

  slots_apart : (k : NetworkEntry) → Has r.networks k → nat_eq k.id h.id ≡ false → same_slot (slot h) (slot k) ≡ false
  slots_apart k kk apart = elim (one_or_apart slot same_slot slot_sym r.networks h k good.slots held kk) [ inr other ↦ other | inl same ↦ absurd (true≢false (sym (eqb_self h.id) ∙ ap (λ z. nat_eq z.id h.id) same ∙ apart)) ]

  pub replaced : (old new : List A) → ((a : A) → Has (flat_map rows_in r.networks) a ↔ Has old a) → ((a : A) → Has new a ↔ (Has (rows_in (record h { network = n })) a ⊎ (Has old a × (nat_eq (id_in a) h.id ≡ false)))) → (a : A) → Has (flat_map rows_in (with_network r.networks h.tenant h.name n)) a ↔ Has new a
  replaced old new was now a = (there, back) where
    there : Has (flat_map rows_in (with_network r.networks h.tenant h.name n)) a → Has new a
    there x =
        let f = from_flat rows_in (with_network r.networks h.tenant h.name n) a x in
        elim (from_put h n r.networks good.slots held f.0 f.1) [
          | inl e ↦ (now a).1 (inl (subst (λ z. Has (rows_in z) a) e f.2))
          | inr e ↦ (now a).1 (inr ((was a).0 (has_flat rows_in r.networks f.0 a e.0 f.2), ap (λ i. nat_eq i h.id) (own f.0 a f.2) ∙ ids_apart f.0 e.0 e.1))
        ]

    back : Has new a → Has (flat_map rows_in (with_network r.networks h.tenant h.name n)) a
    back x = elim ((now a).0 x) [
      | inl e ↦ has_flat rows_in (with_network r.networks h.tenant h.name n) (record h { network = n }) a (put_has h n r.networks good.slots held) e
      | inr e ↦
          let f = from_flat rows_in r.networks a ((was a).1 e.0) in
          has_flat rows_in (with_network r.networks h.tenant h.name n) f.0 a (put_other h n r.networks f.0 f.1 (slots_apart f.0 f.1 (ap (λ i. nat_eq i h.id) (sym (own f.0 a f.2)) ∙ e.1))) f.2
    ]

-- the network rows
abbrev network_row_put : NetworkEntry → NetworkValue → NetworkRow
network_row_put h n = network_row (record h { network = n })

module _ (h : NetworkEntry) (n : NetworkValue) (pool : n.pool ≡ h.network.pool) (host : n.host ≡ h.network.host) (port : n.port ≡ h.network.port) (server : n.server ≡ h.network.server) (capacity : n.capacity ≡ h.network.capacity) where
  next_row : network_row_put h n ≡ with_next h.id n.next (network_row h)
  next_row = (λ i. record { id = h.id; tenant = h.tenant; name = h.name; pool = pool i; host = host i; port = port i; server = server i; capacity = capacity i; next = n.next })
      ∙ sym (ap (λ b. if b then record (network_row h) { next = n.next } else network_row h) (eqb_self h.id))

  others_stay : (hs : List NetworkEntry) → AllByRecursion (λ y. nat_eq h.id y ≡ false) (map (λ x. x.id) hs) → map network_row hs ≡ map (λ x. with_next h.id n.next (network_row x)) hs
  others_stay [] all = refl
  others_stay (x ∷ hs) all = ap₂ (λ y ys. y ∷ ys) (sym (ap (λ b. if b then record (network_row x) { next = n.next } else network_row x) (eqb_sym x.id h.id ∙ all.0))) (others_stay hs all.1)

  rows_put : (hs : List NetworkEntry) → IsDistinct same_slot (map slot hs) → IsDistinct nat_eq (map (λ x. x.id) hs) → Has hs h → map network_row (with_network hs h.tenant h.name n) ≡ map (λ x. with_next h.id n.next (network_row x)) hs
  rows_put [] u v there = elim there [ ]
  rows_put (x ∷ hs) u v (inl e) =
      ap (λ b. map network_row (if b then record x { network = n } ∷ hs else x ∷ with_network hs h.tenant h.name n)) (is_slot h x ∙ ap (λ z. same_slot (slot h) (slot z)) e ∙ self_slot h)
      ∙ ap₂ (λ y ys. y ∷ ys) (ap (λ z. network_row_put z n) e ∙ next_row ∙ ap (λ z. with_next h.id n.next (network_row z)) (sym e))
      (others_stay hs (subst (λ z. AllByRecursion (λ y. nat_eq z.id y ≡ false) (map (λ x. x.id) hs)) e (IsDistinct-head nat_eq x.id (map (λ x. x.id) hs) v)))
  rows_put (x ∷ hs) u v (inr there) =
      ap (λ b. map network_row (if b then record x { network = n } ∷ hs else x ∷ with_network hs h.tenant h.name n)) (is_slot h x ∙ slot_sym (slot h) (slot x) ∙ head_apart slot same_slot (slot x) hs h (IsDistinct-head same_slot (slot x) (map slot hs) u) there)
      ∙ ap₂ (λ y ys. y ∷ ys) (sym (ap (λ b. if b then record (network_row x) { next = n.next } else network_row x) (head_apart (λ x. x.id) nat_eq x.id hs h (IsDistinct-head nat_eq x.id (map (λ x. x.id) hs) v) there)))
      (rows_put hs (IsDistinct-tail same_slot (slot x) (map slot hs) u) (IsDistinct-tail nat_eq x.id (map (λ x. x.id) hs) v) there)

pub own_peers : (k : NetworkEntry) (a : PeerRow) → Has (peer_rows k) a → a.network ≡ k.id
own_peers k a x = let v = from_map (peer_row k.id) k.network.peers a x in ap (λ z. z.network) (sym v.2)

pub own_allowed : (k : NetworkEntry) (a : AllowedRow) → Has (allowed_rows k) a → a.network ≡ k.id
own_allowed k a x = elim (from_append (map (address_row k.id) k.network.peers) (map (route_row k.id) k.network.routes) a x) [
  | inl y ↦ let v = from_map (address_row k.id) k.network.peers a y in ap (λ z. z.network) (sym v.2)
  | inr y ↦ let v = from_map (route_row k.id) k.network.routes a y in ap (λ z. z.network) (sym v.2)
]

-- what a commit leaves are the rows of the register with the network in its place
pub committed : (r : Register) (t u : Tables) (h : NetworkEntry) (n : NetworkValue) → AreRowsOf r t → IsConsistent r → Has r.networks h
    → HasSettingsOf h.network n
    → Replaces h.id n t u → AreRowsOf (put_network r h.tenant h.name n) u
committed r t u h n rows good held settings done = record {
  meta = done.meta ∙ rows.meta;
  tenants = subst (IsPermutation r.tenants) (sym done.tenants) rows.tenants;
  tokens = subst (IsPermutation r.tokens) (sym done.tokens) rows.tokens;
  networks = subst (λ xs. IsPermutation xs u.networks) (map_map network_row (with_next h.id n.next) r.networks ∙ sym (rows_put h n settings.pool settings.host settings.port settings.server settings.capacity r.networks good.slots good.network_ids held))
      (IsPermutation-trans (map (with_next h.id n.next) (map network_row r.networks)) (map (with_next h.id n.next) t.networks) u.networks (IsPermutation-map (with_next h.id n.next) (map network_row r.networks) t.networks rows.networks) done.networks);
  seconds = done.seconds ∙ rows.seconds;
  readers = subst (IsPermutation r.readers) (sym done.readers) rows.readers;
  peers = replaced peer_rows (λ a. a.network) own_peers r good h held n t.peers u.peers rows.peers done.peers;
  allowed = replaced allowed_rows (λ a. a.network) own_allowed r good h held n t.allowed u.allowed rows.allowed done.allowed;
  keyed = done.keyed;
}
