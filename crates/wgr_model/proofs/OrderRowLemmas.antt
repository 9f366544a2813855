-- What an order owes to the rows.
use Rattle.std.proofs.Common.{◌≡◌, ℕ, Bool, true, false, cond, not, List, [], ◌∷◌, map, filter, flat_map, nat_eq, refl, sym, ap, ap₂, subst, ◌∙◌, true≢false, inl, inr, ◌↔◌, IsPermutation}
use Rattle.std.specs.List.{IsDistinct}
use Rattle.std.proofs.lemmas.List.Sorted.{IsPermutation-cons, IsPermutation-map, IsPermutation-trans}
use Rattle.std.proofs.lemmas.Map.Keys.{IsDistinct-IsPermutation}
use Rattle.wgr_pool.proofs.Bools.{not_true}
use Rattle.wgr_model.specs.Consistent.{IsConsistent, same_slot, slot}
use Rattle.wgr_model.specs.Laws.{Has}
use Rattle.wgr_model.specs.declared.right.Right.{Right}
use Rattle.wgr_model.specs.declared.right.Right.TheVariants.{Full, Read}
use Rattle.wgr_model.specs.Register.{Bytes, NetworkEntry, Register, Token, is_same}
use Rattle.wgr_model.specs.RowRules.{NetworksGain, NetworksLose, TenantsGain, TokensGain, TokensLose}
use Rattle.wgr_model.specs.Rows.{HaveSame, NetworkRow, allowed_rows, network_row, peer_rows}
use Rattle.wgr_model.specs.Steps.{new_network, with_reader, without_network, without_reader}
use Rattle.wgr_model.proofs.CollectLemmas.{from_flat, has_flat}
use Rattle.wgr_model.proofs.CommitLemmas.{own_allowed, own_peers, self_slot}
use Rattle.wgr_model.proofs.GatherLemmas.{eqb_self, in_filter, map_map}
use Rattle.wgr_model.proofs.HolderLemmas.{one_or_apart}
use Rattle.wgr_model.proofs.LookLemmas.{is_same_refl, is_same_sym}
use Rattle.wgr_model.proofs.OrderLemmas.{filter_permutation, from_filter, reader_permutation}
use Rattle.wgr_model.proofs.SameLemmas.{eqb_sym, slot_sym}

pub tenants_gain : TenantsGain
tenants_gain r t name new tenants rows more = record {
  meta = rows.meta;
  tenants = IsPermutation-trans (record { id = new; name = name } ∷ r.tenants) (record { id = new; name = name } ∷ t.tenants) tenants (IsPermutation-cons (record { id = new; name = name }) r.tenants t.tenants rows.tenants) more;
  tokens = rows.tokens;
  networks = rows.networks;
  seconds = rows.seconds;
  readers = rows.readers;
  peers = rows.peers;
  allowed = rows.allowed;
  keyed = record { peer_keys = rows.keyed.peer_keys; allowed_keys = rows.keyed.allowed_keys; address_keys = rows.keyed.address_keys };
}

-- one row more where the token only reads
reader_gains : (right : Right) (digest : Bytes) (old held : List Bytes) → IsPermutation old held → IsPermutation (with_reader right digest old) (with_reader right digest held)
reader_gains Full digest old held same = same
reader_gains Read digest old held same = IsPermutation-cons digest old held same

pub tokens_gain : TokensGain
tokens_gain r t digest id right tokens readers rows more also = record {
  meta = rows.meta;
  tenants = rows.tenants;
  tokens = IsPermutation-trans (record { digest = digest; tenant = id } ∷ r.tokens) (record { digest = digest; tenant = id } ∷ t.tokens) tokens (IsPermutation-cons (record { digest = digest; tenant = id }) r.tokens t.tokens rows.tokens) more;
  networks = rows.networks;
  seconds = rows.seconds;
  readers = IsPermutation-trans (with_reader right digest r.readers) (with_reader right digest t.readers) readers (reader_gains right digest r.readers t.readers rows.readers) also;
  peers = rows.peers;
  allowed = rows.allowed;
  keyed = record { peer_keys = rows.keyed.peer_keys; allowed_keys = rows.keyed.allowed_keys; address_keys = rows.keyed.address_keys };
}

pub tokens_lose : TokensLose
tokens_lose r t digest tokens readers rows good less also =
    let keep = λ (x : Token). not (is_same digest x.digest) in
    let apart = IsDistinct-IsPermutation is_same is_same_sym (map (λ x. x.digest) r.tokens) (map (λ x. x.digest) t.tokens) (IsPermutation-map (λ x. x.digest) r.tokens t.tokens rows.tokens) good.digests in
    record {
      meta = rows.meta;
      tenants = rows.tenants;
      tokens = IsPermutation-trans (filter keep r.tokens) (filter keep t.tokens) tokens (filter_permutation (λ x. x.digest) is_same is_same_refl is_same_sym keep r.tokens t.tokens good.digests apart rows.tokens) less;
      networks = rows.networks;
      seconds = rows.seconds;
      readers = IsPermutation-trans (without_reader digest r.readers) (without_reader digest t.readers) readers
          (reader_permutation (λ d. not (is_same digest d)) r.readers t.readers good.readers (IsDistinct-IsPermutation is_same is_same_sym r.readers t.readers rows.readers good.readers) rows.readers) also;
      peers = rows.peers;
      allowed = rows.allowed;
      keyed = record { peer_keys = rows.keyed.peer_keys; allowed_keys = rows.keyed.allowed_keys; address_keys = rows.keyed.address_keys };
    }

pub networks_gain : NetworksGain
networks_gain r t new id name s networks rows more =
    let row = network_row (record { id = new; tenant = id; name = name; network = new_network s }) in
    record {
      meta = rows.meta;
      tenants = rows.tenants;
      tokens = rows.tokens;
      networks = IsPermutation-trans (row ∷ map network_row r.networks) (row ∷ t.networks) networks (IsPermutation-cons row (map network_row r.networks) t.networks rows.networks) more;
      seconds = rows.seconds;
      readers = rows.readers;
      peers = rows.peers;
      allowed = rows.allowed;
      keyed = record { peer_keys = rows.keyed.peer_keys; allowed_keys = rows.keyed.allowed_keys; address_keys = rows.keyed.address_keys };
    }

-- ---- a network that ends

filter_agree : {A : Type 0} (p q : A → Bool) (xs : List A) → ((a : A) → Has xs a → p a ≡ q a) → filter p xs ≡ filter q xs
filter_agree p q [] same = refl
filter_agree p q (x ∷ xs) same = ap₂ (λ b ys. cond b (x ∷ ys) ys) (same x (inl refl)) (filter_agree p q xs (λ a h. same a (inr h)))

map_filter : {A B : Type 0} (f : A → B) (p : B → Bool) (xs : List A) → map f (filter (λ x. p (f x)) xs) ≡ filter p (map f xs)
map_filter f p [] = refl
map_filter f p (x ∷ xs) = by_test (p (f x)) (map_filter f p xs) where
  by_test : (b : Bool) → map f (filter (λ z. p (f z)) xs) ≡ filter p (map f xs) → map f (cond b (x ∷ filter (λ z. p (f z)) xs) (filter (λ z. p (f z)) xs)) ≡ cond b (f x ∷ filter p (map f xs)) (filter p (map f xs))
  by_test true rest = ap (λ ys. f x ∷ ys) rest
  by_test false rest = rest

module _ (r : Register) (good : IsConsistent r) (h : NetworkEntry) (held : Has r.networks h) where
  -- a network is told by its name as it is by its id
  told_apart : (k : NetworkEntry) → Has r.networks k → not (same_slot (h.tenant, h.name) (slot k)) ≡ not (nat_eq k.id h.id)
  told_apart k kk = elim (one_or_apart (λ x. x.id) nat_eq eqb_sym r.networks k h good.network_ids kk held) [
    | inl same ↦ ap not (ap (λ z. same_slot (slot h) (slot z)) same ∙ self_slot h ∙ sym (ap (λ z. nat_eq z.id h.id) same ∙ eqb_self h.id))
    | inr apart ↦ elim (one_or_apart slot same_slot slot_sym r.networks h k good.slots held kk) [
      | inl same ↦ absurd (true≢false (sym (eqb_self h.id) ∙ ap (λ z. nat_eq z.id h.id) same ∙ apart))
      | inr other ↦ ap not (other ∙ sym apart)
    ]
  ]

  left : (without_network r h.tenant h.name).networks ≡ filter (λ k. not (nat_eq k.id h.id)) r.networks
  left = filter_agree (λ k. not (same_slot (h.tenant, h.name) (slot k))) (λ k. not (nat_eq k.id h.id)) r.networks told_apart

  rows_left : {A : Type 0} (rows_in : NetworkEntry → List A) (id_in : A → ℕ) → ((k : NetworkEntry) (a : A) → Has (rows_in k) a → id_in a ≡ k.id) → (old new : List A) → HaveSame (flat_map rows_in r.networks) old
      → ((a : A) → Has new a ↔ (Has old a × (nat_eq (id_in a) h.id ≡ false))) → HaveSame (flat_map rows_in (filter (λ k. not (nat_eq k.id h.id)) r.networks)) new
  rows_left rows_in id_in own old new was now a = (
    (λ x.
        let f = from_flat rows_in (filter (λ k. not (nat_eq k.id h.id)) r.networks) a x in
        let k = from_filter (λ k. not (nat_eq k.id h.id)) r.networks f.0 f.1 in
        (now a).1 ((was a).0 (has_flat rows_in r.networks f.0 a k.0 f.2), ap (λ i. nat_eq i h.id) (own f.0 a f.2) ∙ not_true (nat_eq f.0.id h.id) k.1)),
    (λ x.
        let y = (now a).0 x in
        let f = from_flat rows_in r.networks a ((was a).1 y.0) in
        has_flat rows_in (filter (λ k. not (nat_eq k.id h.id)) r.networks) f.0 a (in_filter (λ k. not (nat_eq k.id h.id)) r.networks f.0 f.1 (ap not (ap (λ i. nat_eq i h.id) (sym (own f.0 a f.2)) ∙ y.1))) f.2),
  )

ids_of_rows : (hs : List NetworkEntry) → map (λ w. w.id) (map network_row hs) ≡ map (λ h. h.id) hs
ids_of_rows hs = map_map network_row (λ w. w.id) hs

pub networks_lose : NetworksLose
networks_lose r t u h rows good held gone =
    let keep = λ (w : NetworkRow). not (nat_eq w.id h.id) in
    let ids = subst (IsDistinct nat_eq) (sym (ids_of_rows r.networks)) good.network_ids in
    let apart = IsDistinct-IsPermutation nat_eq eqb_sym (map (λ w. w.id) (map network_row r.networks)) (map (λ w. w.id) t.networks) (IsPermutation-map (λ w. w.id) (map network_row r.networks) t.networks rows.networks) ids in
    record {
      meta = gone.meta ∙ rows.meta;
      tenants = subst (IsPermutation r.tenants) (sym gone.tenants) rows.tenants;
      tokens = subst (IsPermutation r.tokens) (sym gone.tokens) rows.tokens;
      networks = subst (λ xs. IsPermutation xs u.networks) (sym (ap (map network_row) (left r good h held) ∙ map_filter network_row keep r.networks))
          (IsPermutation-trans (filter keep (map network_row r.networks)) (filter keep t.networks) u.networks (filter_permutation (λ w. w.id) nat_eq eqb_self eqb_sym keep (map network_row r.networks) t.networks ids apart rows.networks) gone.networks);
      seconds = gone.seconds ∙ rows.seconds;
      readers = subst (IsPermutation r.readers) (sym gone.readers) rows.readers;
      peers = subst (λ xs. HaveSame (flat_map peer_rows xs) u.peers) (sym (left r good h held)) (rows_left r good h held peer_rows (λ a. a.network) own_peers t.peers u.peers rows.peers gone.peers);
      allowed = subst (λ xs. HaveSame (flat_map allowed_rows xs) u.allowed) (sym (left r good h held)) (rows_left r good h held allowed_rows (λ a. a.network) own_allowed t.allowed u.allowed rows.allowed gone.allowed);
      keyed = gone.keyed;
    }
