-- The allowed prefixes of a network: none stands twice.
use Rattle.std.proofs.Common.{◌≡◌, ℕ, ◌-◌, ◌%◌, ◌^◌, inl, inr, true, false, ◌&&◌, nat_eq, List, [], ◌∷◌, ◌++◌, get_or, sym, ap, ◌∙◌, subst, arith}
use Rattle.std.specs.List.{All, AllPairs, list_any}
use Rattle.std.proofs.lemmas.List.Elements.{All-append, All-head, All-map, All-tail}
use Rattle.wgr_text.specs.Prefix.{AddrValue, PrefixValue, IsPrefix, width}
use Rattle.wgr_peers.specs.declared.peer.Peer.{Peer}
use Rattle.wgr_pool.specs.PrefixTests.{full, same_prefix}
use Rattle.wgr_peers.specs.Routes.{ComesBefore}
use Rattle.wgr_core.specs.Network.{NetworkValue, IsNetwork, is_address, server_address}
use Rattle.wgr_core.specs.Owner.{allowed, own_prefixes}
use Rattle.wgr_pool.proofs.Lists.{AllPairs-cons, AllPairs-head, AllPairs-tail, list_any-none}
use Rattle.wgr_pool.proofs.Bools.{decide, or_false}
use Rattle.wgr_pool.proofs.PrefixLemmas.{same_prefix_is, same_prefix_self}
use Rattle.wgr_peers.proofs.PlaceLemmas.{not_before_self}
use Rattle.wgr_peers.proofs.PutLemmas.{map_pairs}
use Rattle.wgr_peers.proofs.PeerLemmas.{apart_first}

pub AllPairs-append : {X : Type 0} (R : X → X → Type 0) (xs ys : List X) → AllPairs R xs → AllPairs R ys → All (λ x. All (R x) ys) xs → AllPairs R (xs ++ ys)
AllPairs-append R [] ys pairs pairs' cross = pairs'
AllPairs-append R (x ∷ xs) ys pairs pairs' cross =
    AllPairs-cons R x (xs ++ ys) (All-append (R x) xs ys (AllPairs-head R x xs pairs) (All-head (λ x. All (R x) ys) x xs cross))
    (AllPairs-append R xs ys (AllPairs-tail R x xs pairs) pairs' (All-tail (λ x. All (R x) ys) x xs cross))

abbrev pub Differ : PrefixValue × ℕ → PrefixValue × ℕ → Type 0
Differ r s = same_prefix r.0 s.0 ≡ false

differ_turn : (p q : PrefixValue) → same_prefix p q ≡ false → same_prefix q p ≡ false
differ_turn p q apart = elim (decide (same_prefix q p)) [
  | inl same ↦ let bad : true ≡ false = sym (subst (λ r. same_prefix r q ≡ true) (same_prefix_is q p same) (same_prefix_self q)) ∙ apart in cc
  | inr other ↦ other
]

pub before_differs : (r s : PrefixValue × ℕ) → ComesBefore r s → Differ r s
before_differs r s before = elim (decide (same_prefix r.0 s.0)) [
  | inl same ↦ let bad : true ≡ false = sym (subst (λ p. ComesBefore (p, r.1) s) (same_prefix_is r.0 s.0 same) before) ∙ not_before_self s.0 in cc
  | inr apart ↦ apart
]

pub all_differ : (n : NetworkValue) → IsNetwork n → AllPairs Differ (allowed n)
all_differ n is =
    AllPairs-append Differ (own_prefixes n.peers) n.routes
    (map_pairs (λ (e : Peer). (full e.address, e.number)) Differ n.peers (λ i j d l h. ap (λ b. b && nat_eq (width (get_or n.peers i d).address.family) (width (get_or n.peers j d).address.family)) (apart_first (get_or n.peers i d) (get_or n.peers j d) (is.apart i j d l h))))
    (λ i j d l h. before_differs (get_or n.routes i d) (get_or n.routes j d) (is.ordered i j d l h))
    (All-map (λ (r : PrefixValue × ℕ). All (Differ r) n.routes) (λ (e : Peer). (full e.address, e.number)) n.peers
    (λ k d h j e l. differ_turn (get_or n.routes j e).0 (full (get_or n.peers k d).address) (no_own (get_or n.routes j e) ((is.routes j e l).no_address) k d h)))
  where
    no_own : (r : PrefixValue × ℕ) → is_address n r.0 ≡ false → All (λ e. same_prefix r.0 (full e.address) ≡ false) n.peers
    no_own r apart = list_any-none (λ (e : Peer). same_prefix r.0 (full e.address)) n.peers (or_false (list_any (λ (e : Peer). same_prefix r.0 (full e.address)) n.peers) (same_prefix r.0 (full (server_address n.pool))) apart).0

-- an address at full length is a prefix
pub full_is_prefix : (a : AddrValue) → IsPrefix (full a)
full_is_prefix a =
    let none : width a.family - width a.family ≡ 0 = omega arith in
    (omega arith, subst (λ (k : ℕ). a.number % 2 ^ k ≡ 0) (sym none) (mod_one a.number))
  where
    mod_one : (m : ℕ) → m % 1 ≡ 0
    mod_one m = omega arith
