-- No two peers of a consistent register hold one address.
use Rattle.std.proofs.Common.{◌≡◌, ℕ, ◌+◌, ◌-◌, ◌*◌, ◌/◌, ◌^◌, ◌≤◌, Bool, true, false, not, ◌&&◌, List, [], ◌∷◌, map, nat_eq, nat_lt, sym, ap, ap₂, subst, ◌∙◌, arith, true≢false, ◌⊎◌, inl, inr}
use Rattle.std.specs.List.{AllPairs, IsDistinct, AllByRecursion}
use Rattle.std.proofs.lemmas.Bool.Decides.{nat_tests}
use Rattle.std.proofs.lemmas.List.Elements.{recursion_from_All}
use Rattle.std.proofs.lemmas.Map.Keys.{IsDistinct-head, IsDistinct-tail}
use Rattle.wgr_text.specs.Prefix.{AddrValue, PrefixValue, block, width}
use Rattle.wgr_pool.proofs.Bools.{and_true, decide, or_left, or_right}
use Rattle.wgr_pool.proofs.Lists.{AllPairs-head, AllPairs-tail}
use Rattle.wgr_pool.proofs.PrefixLemmas.{coarser, nat_eq_is, nat_eq_self, same_address_self, same_family_is, same_family_self}
use Rattle.wgr_pool.specs.Pool.{reserved}
use Rattle.wgr_pool.specs.PrefixTests.{covers, has, same_address, same_family}
use Rattle.wgr_peers.specs.Peers.{IsApart}
use Rattle.wgr_peers.specs.declared.peer.Peer.{Peer}
use Rattle.wgr_core.specs.Network.{IsMember, IsNetwork, NetworkValue}
use Rattle.wgr_model.specs.Consistent.{IsConsistent, IsNetworkEntry, overlaps, pool_of}
use Rattle.wgr_model.specs.Laws.{Has, HasOneHolder}
use Rattle.wgr_model.specs.Register.{NetworkEntry, Register}
use Rattle.wgr_model.proofs.SameLemmas.{at_has, overlaps_sym}
use Rattle.wgr_peers.proofs.PeerLemmas.{apart_first}

pub head_apart : {A B : Type 0} (f : A → B) (e : B → B → Bool) (b : B) (xs : List A) (a : A) → AllByRecursion (λ y. e b y ≡ false) (map f xs) → Has xs a → e b (f a) ≡ false
head_apart f e b [] a all h = elim h [ ]
head_apart f e b (x ∷ xs) a all (inl h) = ap (λ z. e b (f z)) (sym h) ∙ all.0
head_apart f e b (x ∷ xs) a all (inr h) = head_apart f e b xs a all.1 h

-- two entries are one, or differ
pub one_or_apart : {A B : Type 0} (f : A → B) (e : B → B → Bool) → ((x y : B) → e x y ≡ e y x) → (xs : List A) (a b : A) → IsDistinct e (map f xs) → Has xs a → Has xs b → (a ≡ b) ⊎ (e (f a) (f b) ≡ false)
one_or_apart f e flips [] a b u h k = elim h [ ]
one_or_apart f e flips (x ∷ xs) a b u (inl h) (inl k) = inl (sym h ∙ k)
one_or_apart f e flips (x ∷ xs) a b u (inl h) (inr k) = inr (ap (λ z. e (f z) (f b)) (sym h) ∙ head_apart f e (f x) xs b (IsDistinct-head e (f x) (map f xs) u) k)
one_or_apart f e flips (x ∷ xs) a b u (inr h) (inl k) = inr (flips (f a) (f b) ∙ ap (λ z. e (f z) (f a)) (sym k) ∙ head_apart f e (f x) xs a (IsDistinct-head e (f x) (map f xs) u) h)
one_or_apart f e flips (x ∷ xs) a b u (inr h) (inr k) = one_or_apart f e flips xs a b (IsDistinct-tail e (f x) (map f xs) u) h k

-- the same where a relation holds of each two
pub one_or_related : {A : Type 0} (R : A → A → Type 0) (xs : List A) (a b : A) → AllPairs R xs → Has xs a → Has xs b → (a ≡ b) ⊎ R a b ⊎ R b a
one_or_related R [] a b pairs h k = elim h [ ]
one_or_related R (x ∷ xs) a b pairs (inl h) (inl k) = inl (sym h ∙ k)
one_or_related R (x ∷ xs) a b pairs (inl h) (inr k) = inr (inl (subst (λ z. R z b) h (at_has (R x) xs b (recursion_from_All (R x) xs (AllPairs-head R x xs pairs)) k)))
one_or_related R (x ∷ xs) a b pairs (inr h) (inl k) = inr (inr (subst (λ z. R z a) k (at_has (R x) xs a (recursion_from_All (R x) xs (AllPairs-head R x xs pairs)) h)))
one_or_related R (x ∷ xs) a b pairs (inr h) (inr k) = one_or_related R xs a b (AllPairs-tail R x xs pairs) h k

-- ---- pools

-- of two prefixes with a common address, the shorter has all of the other
pub shorter_covers : (p q : PrefixValue) (a : AddrValue) → nat_lt q.length p.length ≡ false → has p a ≡ true → has q a ≡ true → covers p q ≡ true
shorter_covers p q a le h k =
    let hp = and_true (same_family p.address.family a.family) (nat_eq (a.number / block p.address.family p.length) (p.address.number / block p.address.family p.length)) h in
    let hq = and_true (same_family q.address.family a.family) (nat_eq (a.number / block q.address.family q.length) (q.address.number / block q.address.family q.length)) k in
    let fp = same_family_is p.address.family a.family hp.0 in
    let fq = same_family_is q.address.family a.family hq.0 in
    let one : q.address.family ≡ p.address.family = fq ∙ sym fp in
    let in_p = nat_eq_is (a.number / block p.address.family p.length) (p.address.number / block p.address.family p.length) hp.1 in
    let in_q = subst (λ f. a.number / block f q.length ≡ q.address.number / block f q.length) one (nat_eq_is (a.number / block q.address.family q.length) (q.address.number / block q.address.family q.length) hq.1) in
    let lengths : width p.address.family - q.length ≤ width p.address.family - p.length = grind (arith, nat_tests, le) in
    let there : q.address.number / block p.address.family p.length ≡ p.address.number / block p.address.family p.length =
    sym (coarser a.number q.address.number (width p.address.family - q.length) (width p.address.family - p.length) lengths in_q) ∙ in_p in
    ap₂ (λ x y. x && y) (ap not le)
    (ap₂ (λ x y. x && y) (ap (same_family p.address.family) one ∙ same_family_self p.address.family)
    (ap (λ n. nat_eq n (p.address.number / block p.address.family p.length)) there ∙ nat_eq_self (p.address.number / block p.address.family p.length)))

-- pools with a common address overlap
pub in_both : (p q : PrefixValue) (a : AddrValue) → has p a ≡ true → has q a ≡ true → overlaps p q ≡ true
unfolding overlaps
in_both p q a h k = elim (decide (nat_lt q.length p.length)) [
  | inl longer ↦ or_right (covers p q) (covers q p) (shorter_covers q p a (grind (arith, nat_tests, longer)) k h)
  | inr longer ↦ or_left (covers p q) (covers q p) (shorter_covers p q a longer h k)
]

-- ---- peers

pub member : (n : NetworkValue) (p : Peer) → IsNetwork n → Has n.peers p → IsMember n p
member n p rules h = at_has (IsMember n) n.peers p (recursion_from_All (IsMember n) n.peers rules.members) h

-- a peer's address is one of the pool
pub in_pool : (n : NetworkValue) (p : Peer) → IsNetwork n → Has n.peers p → has n.pool p.address ≡ true
in_pool n p rules h =
    let a = p.address in
    (and_true (has n.pool a) (not (nat_lt a.number (n.pool.address.number + 2))) (and_true (has n.pool a && not (nat_lt a.number (n.pool.address.number + 2))) (nat_lt a.number (n.pool.address.number + block n.pool.address.family n.pool.length - reserved n.pool.address.family)) (member n p rules h).assignable).0).0

not_both : (a b : AddrValue) → a ≡ b → same_address a b ≡ false → ⊥
not_both a b e f = true≢false (sym (same_address_self b) ∙ ap (λ z. same_address z b) (sym e) ∙ f)

-- two peers of a network with one address are one
pub one_in_network : (n : NetworkValue) (p q : Peer) → IsNetwork n → Has n.peers p → Has n.peers q → p.address ≡ q.address → p ≡ q
one_in_network n p q rules hp hq same = elim (one_or_related IsApart n.peers p q rules.apart hp hq) [
  | inl e ↦ e
  | inr apart ↦ elim apart [ inl x ↦ absurd (not_both p.address q.address same (apart_first p q x)) | inr x ↦ absurd (not_both q.address p.address (sym same) (apart_first q p x)) ]
]

pub one_holder : (r : Register) → IsConsistent r → HasOneHolder r
one_holder r good h k p q hh kk hp kq same = elim (one_or_apart pool_of overlaps overlaps_sym r.networks h k good.pools hh kk) [
  | inl e ↦ (e, one_in_network k.network p q (rules k kk) (subst (λ z. Has z.network.peers p) e hp) kq same)
  | inr e ↦ absurd (true≢false (sym (in_both (pool_of h) (pool_of k) q.address (subst (λ a. has (pool_of h) a ≡ true) same (in_pool h.network p (rules h hh) hp)) (in_pool k.network q (rules k kk) kq)) ∙ e))
] where
  rules : (x : NetworkEntry) → Has r.networks x → IsNetwork x.network
  rules x there = (at_has IsNetworkEntry r.networks x good.networks there).rules
