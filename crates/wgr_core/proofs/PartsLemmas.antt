-- The tests that tell whether parts make a network.
use Rattle.std.proofs.Common.{◌≡◌, ℕ, zero, suc, ◌+◌, ◌-◌, ◌<◌, ◌≤◌, ◌↔◌, inl, inr, Bool, true, false, ◌&&◌, ◌||◌, nat_lt, List, [], ◌∷◌, length, get_or, refl, sym, ap, subst, ◌∙◌, arith}
use Rattle.std.specs.Prelude.{IsTrue}
use Rattle.std.specs.List.{All, AllPairs, list_any, AllAdjacentBelow, IsAllAdjacentAnswer, HoldsAt}
use Rattle.std.proofs.lemmas.Bool.Decides.{nat_tests}
use Rattle.std.proofs.lemmas.List.{get_or_default}
use Rattle.wgr_text.specs.Prefix.{AddrValue, PrefixValue}
use Rattle.wgr_peers.specs.declared.peer.Peer.{Peer}
use Rattle.wgr_pool.specs.PrefixTests.{same_address, same_prefix, is_before, full}
use Rattle.wgr_pool.specs.Pool.{IsPool}
use Rattle.wgr_peers.specs.Limits.{IsPort, IsCapacity}
use Rattle.wgr_peers.specs.Peers.{is_own, AreNumbered, AreApart, is_first}
use Rattle.wgr_peers.specs.Routes.{Routes, AreOrdered}
use Rattle.wgr_core.specs.Network.{NetworkValue, IsMember, IsRoute, IsNetwork, is_address, server_address}
use Rattle.wgr_pool.proofs.Bools.{decide, and_false_last}
use Rattle.wgr_peers.proofs.PlaceLemmas.{before_joins}
use Rattle.wgr_pool.proofs.PrefixLemmas.{same_address_is, same_address_self, same_prefix_is}
use Rattle.wgr_core.specs.Network.{AreAlone}
use Rattle.wgr_core.proofs.AloneLemmas.{own_alone}

-- ---- lists in order

-- where each item is related to the next, by a relation that joins, each is to all after it
pub pairs_from_adjacent : {X : Type 0} (R : X → X → Type 0) (xs : List X) → ((x y z : X) → R x y → R y z → R x z) → AllAdjacentBelow R xs (length xs) → AllPairs R xs
pairs_from_adjacent {X} R xs joins next = λ i j d before within.
    let at : i + 1 + (j - i - 1) ≡ j = omega (arith, before) in
    subst (λ (k : ℕ). R (get_or xs i d) (get_or xs k d)) at (far (j - i - 1) i d (subst (λ (k : ℕ). k < length xs) (sym at) within))
  where
    far : (m i : ℕ) (d : X) → i + 1 + m < length xs → R (get_or xs i d) (get_or xs (i + 1 + m) d)
    far zero i d l = subst (λ (k : ℕ). R (get_or xs i d) (get_or xs k d)) (omega arith) (next i d (omega (arith, l)))
    far (suc m) i d l =
        let step = next (i + 1 + m) d (omega (arith, l)) in
        subst (λ (k : ℕ). R (get_or xs i d) (get_or xs k d)) (omega arith) (joins _ _ _ (far m i d (omega (arith, l))) step)

-- a walk over neighbours tells whether each item is before all after it
pub rise_iff : {X : Type 0} (before : X → X → Bool) → ((x y z : X) → before x y ≡ true → before y z ≡ true → before x z ≡ true) → (xs : List X) (result : Bool)
    → IsAllAdjacentAnswer (λ x y b. b ≡ before x y) xs result → IsTrue result ↔ AllPairs (λ x y. before x y ≡ true) xs
rise_iff before joins xs true next = (
  (λ h. pairs_from_adjacent (λ x y. before x y ≡ true) xs joins (λ k d l. sym (next k d l))),
  (λ h. refl),
)
rise_iff before joins [] false bad = absurd (omega (arith, bad.1))
rise_iff before joins (x ∷ xs) false bad = (
  (λ h. cc),
  (λ pairs. let wrong : false ≡ true = bad.2 x ∙ pairs bad.0 (bad.0 + 1) x (omega arith) bad.1 in cc),
)

pub ordered_iff : (routes : Routes) (result : Bool) → IsAllAdjacentAnswer (λ r s b. b ≡ is_before r.0 s.0) routes result → IsTrue result ↔ AreOrdered routes
ordered_iff routes result next = rise_iff (λ r s. is_before r.0 s.0) (λ r s t h i. before_joins r.0 s.0 t.0 h i) routes result next

pub numbered_if : (peers : List Peer) (result : Bool) → IsAllAdjacentAnswer (λ p q b. b ≡ nat_lt p.number q.number) peers result → IsTrue result → AreNumbered peers
numbered_if peers result next h =
    let rise = (rise_iff (λ (p : Peer) (q : Peer). nat_lt p.number q.number) (λ p q r l l'. joins p.number q.number r.number l l') peers result next).0 h in
    λ i j d l l'. below (get_or peers i d).number (get_or peers j d).number (rise i j d l l')
  where
    joins : (a b c : ℕ) → nat_lt a b ≡ true → nat_lt b c ≡ true → nat_lt a c ≡ true
    joins a b c l l' = grind (arith, nat_tests)

    below : (a b : ℕ) → nat_lt a b ≡ true → a < b
    below a b l = grind (arith, nat_tests)

-- ---- addresses of peers and of the server

-- a prefix is an address where it is its own at full length
one_address : (p : PrefixValue) (a : AddrValue) → same_prefix p (full a) ≡ (same_prefix p (full p.address) && same_address a p.address)
one_address p a = elim (decide (same_address a p.address)) [
  | inl same ↦
      let is = same_address_is a p.address same in
      ap (λ (b : AddrValue). same_prefix p (full b)) is ∙ sym (and_true_right (same_prefix p (full p.address))) ∙ ap (λ b. same_prefix p (full p.address) && b) (sym same)
  | inr apart ↦ elim (decide (same_prefix p (full a))) [
    | inl here ↦
        let is : p.address ≡ a = ap (λ (q : PrefixValue). q.address) (same_prefix_is p (full a) here) in
        let bad : true ≡ false = sym (same_address_self a) ∙ ap (same_address a) (sym is) ∙ apart in cc
    | inr not_here ↦ not_here ∙ sym (and_false_last (same_prefix p (full p.address)) (same_address a p.address) apart)
  ]
]
  where
    and_true_right : (b : Bool) → (b && true) ≡ b
    and_true_right true = refl
    and_true_right false = refl

-- a prefix is a peer's address where it is full and its own address is a peer's
address_of_peer : (p : PrefixValue) (peers : List Peer) → list_any (λ e. same_prefix p (full e.address)) peers ≡ (same_prefix p (full p.address) && list_any (λ e. is_first e p.address) peers)
address_of_peer p [] = sym (and_false_last (same_prefix p (full p.address)) false refl)
address_of_peer p (e ∷ peers) =
    ap (λ b. same_prefix p (full e.address) || b) (address_of_peer p peers)
    ∙ ap (λ b. b || (same_prefix p (full p.address) && list_any (λ (q : Peer). is_first q p.address) peers)) (one_address p e.address)
    ∙ joined (same_prefix p (full p.address)) (same_address e.address p.address) (list_any (λ (q : Peer). is_first q p.address) peers)
  where
    joined : (f x y : Bool) → ((f && x) || (f && y)) ≡ (f && (x || y))
    joined false x y = refl
    joined true x y = refl

pub address_is : (n : NetworkValue) (pool : PrefixValue) (peers : List Peer) (p : PrefixValue) → AreAlone n.peers → n.pool ≡ pool → n.peers ≡ peers
    → ((same_prefix p (full p.address) && is_own peers p.address) || same_prefix p (full (server_address pool))) ≡ is_address n p
address_is n pool peers p alone same_pool same_peers =
    ap (λ (q : PrefixValue). (same_prefix p (full p.address) && is_own peers p.address) || same_prefix p (full (server_address q))) (sym same_pool)
    ∙ ap (λ (ps : List Peer). (same_prefix p (full p.address) && is_own ps p.address) || same_prefix p (full (server_address n.pool))) (sym same_peers)
    ∙ ap (λ b. b || same_prefix p (full (server_address n.pool))) (ap (λ b. same_prefix p (full p.address) && b) (own_alone n.peers p.address alone) ∙ sym (address_of_peer p n.peers))

-- ---- an item that is read

pub holds_at : {X : Type 0} (P : X → Type 0) (xs : List X) (i : ℕ) (x : X) → P x → i < length xs → x ≡ get_or xs i x → HoldsAt P xs i
holds_at P xs i x here l is = λ d. subst P (is ∙ get_or_default xs i x d l) here

-- ---- what the tests tell together

pub network_is : (n : NetworkValue) → IsPool n.pool → IsPort n.port → IsCapacity n.capacity → (1 ≤ n.next) × (n.next ≤ 1000001) × (length n.peers ≤ n.capacity) × (length n.routes ≤ 4096)
    → All (IsMember n) n.peers → AreNumbered n.peers × AreApart n.peers → All (IsRoute n) n.routes → AreOrdered n.routes → IsNetwork n
network_is n pool port capacity limits members table routes ordered = record {
  pool = pool;
  port = port;
  capacity = capacity;
  next = (limits.0, limits.1);
  room = limits.2;
  members = members;
  numbered = table.0;
  apart = table.1;
  few_routes = limits.3;
  routes = routes;
  ordered = ordered;
}
