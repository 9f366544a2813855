-- An address has one longest match at most.
use Rattle.std.proofs.Common.{◌≡◌, ℕ, ◌*◌, ◌/◌, ◌<◌, ◌≤◌, inl, inr, true, false, length, get_or, Option, Some, None, refl, sym, ap, ◌∙◌, subst, arith}
use Rattle.std.specs.Prelude.{option_map}
use Rattle.std.specs.List.{All, AllPairs, Contains}
use Rattle.std.proofs.lemmas.Bool.{cases_lt}
use Rattle.std.proofs.lemmas.List.{get_or-map, get_or_default, length-map}
use Rattle.std.proofs.lemmas.List.Elements.{All-append, All-contains, All-map, Contains-append_left}
use Rattle.wgr_text.specs.Prefix.{AddrValue, PrefixValue, IsPrefix, block}
use Rattle.wgr_text.proofs.Blocks.{block_start}
use Rattle.wgr_peers.specs.declared.peer.Peer.{Peer}
use Rattle.wgr_pool.specs.PrefixTests.{has, full, same_prefix}
use Rattle.wgr_peers.specs.Routes.{Routes}
use Rattle.wgr_core.specs.Network.{NetworkValue, IsNetwork}
use Rattle.wgr_core.specs.Owner.{allowed, longest_match, owner_of, own_prefixes}
use Rattle.wgr_laws.specs.Laws.{IsLongestMatch}
use Rattle.wgr_pool.proofs.PrefixLemmas.{same_prefix_self}
use Rattle.wgr_pool.proofs.Bridge.{has_iff}
use Rattle.wgr_core.proofs.AllowedLemmas.{Differ, all_differ, full_is_prefix}
use Rattle.wgr_laws.proofs.MatchLemmas.{match_is_longest, no_match_is_none}

-- ---- what is allowed

-- a peer's address at full length leads to the peer
pub own_allowed : (n : NetworkValue) (p : Peer) → Contains n.peers p → Contains (allowed n) (full p.address, p.number)
own_allowed n p there = Contains-append_left (own_prefixes n.peers) n.routes (own_prefix p) own
  where
    own_prefix : Peer → PrefixValue × ℕ
    own_prefix e = (full e.address, e.number)

    own : Contains (own_prefixes n.peers) (own_prefix p)
    own = (there.0, subst (λ (m : ℕ). there.0 < m) (sym (length-map n.peers own_prefix)) there.1, get_or-map own_prefix n.peers there.0 p (own_prefix p) there.1 ∙ ap own_prefix there.2)

-- ---- one place, one prefix

-- two allowed prefixes that are the same prefix are one
pub same_place : (routes : Routes) (r s : PrefixValue × ℕ) → AllPairs Differ routes → Contains routes r → Contains routes s → r.0 ≡ s.0 → r ≡ s
same_place routes r s differ at_r at_s same = elim (cases_lt at_r.0 at_s.0) [
  | inl before ↦ absurd (clash at_r.0 at_s.0 before at_s.1 at_r.2 (get_or_default routes at_s.0 r s at_s.1 ∙ at_s.2) same)
  | inr from ↦ elim (cases_lt at_s.0 at_r.0) [
    | inl before ↦ absurd (turned before)
    | inr upto ↦
        let one : at_r.0 ≡ at_s.0 = omega (arith, from, upto) in
        sym at_r.2 ∙ ap (λ (k : ℕ). get_or routes k r) one ∙ get_or_default routes at_s.0 r s at_s.1 ∙ at_s.2
  ]
]
  where
    two : (x y r s : PrefixValue × ℕ) → Differ x y → x ≡ r → y ≡ s → r.0 ≡ s.0 → ⊥
    two x y r s apart is_r is_s same =
        let prefixes : x.0 ≡ y.0 = ap (λ (z : PrefixValue × ℕ). z.0) is_r ∙ same ∙ ap (λ (z : PrefixValue × ℕ). z.0) (sym is_s) in
        let bad : true ≡ false = sym (subst (λ p. same_prefix x.0 p ≡ true) prefixes (same_prefix_self x.0)) ∙ apart in cc

    clash : (i j : ℕ) → i < j → j < length routes → get_or routes i r ≡ r → get_or routes j r ≡ s → r.0 ≡ s.0 → ⊥
    clash i j before within is_r is_s same = two (get_or routes i r) (get_or routes j r) r s (differ i j r before within) is_r is_s same

    turned : at_s.0 < at_r.0 → ⊥
    turned before = two (get_or routes at_s.0 r) (get_or routes at_r.0 r) s r (differ at_s.0 at_r.0 r before at_r.1) (get_or_default routes at_s.0 r s at_s.1 ∙ at_s.2) at_r.2 (sym same)

-- ---- two prefixes of one length that have an address are one

pub all_prefixes : (n : NetworkValue) → IsNetwork n → All (λ r. IsPrefix r.0) (allowed n)
all_prefixes n is =
    All-append (λ (r : PrefixValue × ℕ). IsPrefix r.0) (own_prefixes n.peers) n.routes
    (All-map (λ (r : PrefixValue × ℕ). IsPrefix r.0) (λ (e : Peer). (full e.address, e.number)) n.peers (λ k d h. full_is_prefix (get_or n.peers k d).address))
    (λ k d h. (is.routes k d h).masked.1)

pub one_prefix : (p q : PrefixValue) (a : AddrValue) → IsPrefix p → IsPrefix q → has p a ≡ true → has q a ≡ true → p.length ≡ q.length → p ≡ q
one_prefix p q a p_is q_is p_has q_has same =
    let in_p = (has_iff p a).0 p_has in
    let in_q = (has_iff q a).0 q_has in
    let family : p.address.family ≡ q.address.family = sym in_p.0 ∙ in_q.0 in
    let size : block p.address.family p.length ≡ block q.address.family q.length = ap (λ f. block f p.length) family ∙ ap (block q.address.family) same in
    let number : p.address.number ≡ q.address.number =
    sym (block_start p.address.number (block p.address.family p.length) p_is.1)
    ∙ ap (λ (m : ℕ). m * block p.address.family p.length) (sym in_p.1)
    ∙ ap (λ (b : ℕ). a.number / b * b) size
    ∙ ap (λ (m : ℕ). m * block q.address.family q.length) in_q.1
    ∙ block_start q.address.number (block q.address.family q.length) q_is.1 in
    ap (λ f. record { address = record { family = f; number = p.address.number }; length = p.length }) family
    ∙ ap (λ (m : ℕ). record { address = record { family = q.address.family; number = m }; length = p.length }) number
    ∙ ap (λ (k : ℕ). record { address = q.address; length = k }) same

pub longest_is_match : (n : NetworkValue) (a : AddrValue) (r : PrefixValue × ℕ) → IsNetwork n → IsLongestMatch n a r → longest_match (allowed n) a ≡ Some r
longest_is_match n a r is longest = by_match (longest_match (allowed n) a) refl
  where
    by_match : (best : Option (PrefixValue × ℕ)) → longest_match (allowed n) a ≡ best → best ≡ Some r
    by_match None found = let bad : true ≡ false = sym longest.has_it ∙ All-contains (λ (s : PrefixValue × ℕ). has s.0 a ≡ false) (allowed n) r (no_match_is_none n a found) longest.is_allowed in cc
    by_match (Some s) found =
        let other = match_is_longest n a s found in
        let masked = all_prefixes n is in
        let upto : s.0.length ≤ r.0.length = All-contains (λ (t : PrefixValue × ℕ). has t.0 a ≡ true → t.0.length ≤ r.0.length) (allowed n) s longest.longest other.is_allowed other.has_it in
        let from : r.0.length ≤ s.0.length = All-contains (λ (t : PrefixValue × ℕ). has t.0 a ≡ true → t.0.length ≤ s.0.length) (allowed n) r other.longest longest.is_allowed longest.has_it in
        let prefixes = one_prefix s.0 r.0 a (All-contains (λ (t : PrefixValue × ℕ). IsPrefix t.0) (allowed n) s masked other.is_allowed) (All-contains (λ (t : PrefixValue × ℕ). IsPrefix t.0) (allowed n) r masked longest.is_allowed) other.has_it longest.has_it (omega (arith, upto, from)) in
        ap (λ t. Some t) (same_place (allowed n) s r (all_differ n is) other.is_allowed longest.is_allowed prefixes)

pub longest_owns : (n : NetworkValue) (a : AddrValue) (r : PrefixValue × ℕ) → IsNetwork n → IsLongestMatch n a r → owner_of n a ≡ Some r.1
longest_owns n a r is longest = ap (option_map (λ (s : PrefixValue × ℕ). s.1)) (longest_is_match n a r is longest)
