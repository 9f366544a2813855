-- The longest match among peers' own addresses and routes.
use Rattle.std.proofs.Common.{◌≡◌, ℕ, ◌-◌, ◌/◌, ◌^◌, ◌≤◌, inl, inr, true, false, ◌&&◌, ◌||◌, cond, nat_eq, nat_lt, List, [], ◌∷◌, ◌++◌, Option, Some, None, refl, sym, ap, subst, ◌∙◌, arith}
use Rattle.std.specs.Prelude.{IfSome, option_map}
use Rattle.std.specs.List.{All, list_any}
use Rattle.std.proofs.lemmas.Bool.Decides.{nat_tests}
use Rattle.std.proofs.lemmas.List.Elements.{All-cons, All-head, All-tail}
use Rattle.wgr_text.specs.declared.addr.Family.{Family}
use Rattle.wgr_text.specs.Prefix.{AddrValue, PrefixValue, block, width}
use Rattle.wgr_peers.specs.declared.peer.Peer.{Peer}
use Rattle.wgr_pool.specs.PrefixTests.{same_family, same_address, has, full}
use Rattle.wgr_peers.specs.Peers.{is_own, is_first}
use Rattle.wgr_peers.specs.Routes.{Routes}
use Rattle.wgr_core.specs.Owner.{own_prefixes, longer, longest_match, owner_of}
use Rattle.wgr_core.specs.Network.{NetworkValue, IsNetwork}
use Rattle.wgr_pool.proofs.Bools.{decide, and_true, or_false}
use Rattle.wgr_pool.proofs.PrefixLemmas.{same_address_is, same_family_is}
use Rattle.wgr_core.proofs.AloneLemmas.{members_alone, own_alone}

-- ---- the longer of two

longer_none : (a : Option (PrefixValue × ℕ)) → longer a None ≡ a
longer_none None = refl
longer_none (Some a) = refl

longer_joins : (a b c : Option (PrefixValue × ℕ)) → longer a (longer b c) ≡ longer (longer a b) c
longer_joins None b c = refl
longer_joins (Some a) None c = refl
longer_joins (Some a) (Some b) None = sym (longer_none (cond (nat_lt a.0.length b.0.length) (Some b) (Some a)))
longer_joins (Some a) (Some b) (Some c) = elim (decide (nat_lt b.0.length c.0.length)) [
  | inl bc ↦
      ap (λ x. longer (Some a) (cond x (Some c) (Some b))) bc
      ∙ (elim (decide (nat_lt a.0.length b.0.length)) [
        | inl ab ↦
            ap (λ x. cond x (Some c) (Some a)) (rises a.0.length b.0.length c.0.length ab bc)
            ∙ sym (ap (λ x. longer (cond x (Some b) (Some a)) (Some c)) ab ∙ ap (λ x. cond x (Some c) (Some b)) bc)
        | inr ba ↦ sym (ap (λ x. longer (cond x (Some b) (Some a)) (Some c)) ba)
      ])
  | inr cb ↦
      ap (λ x. longer (Some a) (cond x (Some c) (Some b))) cb
      ∙ (elim (decide (nat_lt a.0.length b.0.length)) [
        | inl ab ↦
            ap (λ x. cond x (Some b) (Some a)) ab
            ∙ sym (ap (λ x. longer (cond x (Some b) (Some a)) (Some c)) ab ∙ ap (λ x. cond x (Some c) (Some b)) cb)
        | inr ba ↦
            ap (λ x. cond x (Some b) (Some a)) ba
            ∙ sym (ap (λ x. longer (cond x (Some b) (Some a)) (Some c)) ba ∙ ap (λ x. cond x (Some c) (Some a)) (falls a.0.length b.0.length c.0.length ba cb))
      ])
]
  where
    rises : (a b c : ℕ) → nat_lt a b ≡ true → nat_lt b c ≡ true → nat_lt a c ≡ true
    rises a b c h i = grind (arith, nat_tests)

    falls : (a b c : ℕ) → nat_lt a b ≡ false → nat_lt b c ≡ false → nat_lt a c ≡ false
    falls a b c h i = grind (arith, nat_tests)

pub longest_skip : (r : PrefixValue × ℕ) (routes : Routes) (a : AddrValue) → has r.0 a ≡ false → longest_match (r ∷ routes) a ≡ longest_match routes a
longest_skip r routes a h = ap (λ b. longer (cond b (Some r) None) (longest_match routes a)) h

longest_append : (these those : Routes) (a : AddrValue) → longest_match (these ++ those) a ≡ longer (longest_match these a) (longest_match those a)
longest_append [] those a = refl
longest_append (r ∷ these) those a =
    ap (longer (cond (has r.0 a) (Some r) None)) (longest_append these those a)
    ∙ longer_joins (cond (has r.0 a) (Some r) None) (longest_match these a) (longest_match those a)

-- ---- lengths

longer_all : (P : PrefixValue × ℕ → Type 0) (m n : Option (PrefixValue × ℕ)) → IfSome m P → IfSome n P → IfSome (longer m n) P
longer_all P None n h i = i
longer_all P (Some r) None h i = h
longer_all P (Some r) (Some s) h i = elim (nat_lt r.0.length s.0.length) as (λ b. IfSome (cond b (Some s) (Some r)) P) [ true ↦ i | false ↦ h ]

abbrev IsInWidth : PrefixValue × ℕ → Type 0
IsInWidth r = r.0.length ≤ width r.0.address.family

-- a match is no longer than its address
longest_within : (routes : Routes) (a : AddrValue) → All IsInWidth routes → IfSome (longest_match routes a) (λ r. r.0.length ≤ width a.family)
longest_within [] a all = tt
longest_within (r ∷ routes) a all =
    longer_all (λ r. r.0.length ≤ width a.family) (cond (has r.0 a) (Some r) None) (longest_match routes a)
    (elim (decide (has r.0 a)) [
      | inl h ↦
          let both = and_true (same_family r.0.address.family a.family) (nat_eq (a.number / block r.0.address.family r.0.length) (r.0.address.number / block r.0.address.family r.0.length)) h in
          let l : r.0.length ≤ width a.family = subst (λ (f : Family). r.0.length ≤ width f) (same_family_is r.0.address.family a.family both.0) (All-head IsInWidth r routes all) in
          subst (λ b. IfSome (cond b (Some r) None) (λ r. r.0.length ≤ width a.family)) (sym h) l
      | inr h ↦ subst (λ b. IfSome (cond b (Some r) None) (λ r. r.0.length ≤ width a.family)) (sym h) tt
    ])
    (longest_within routes a (All-tail IsInWidth r routes all))

-- a match of this length, as long as any other
abbrev IsFound : Option (PrefixValue × ℕ) → ℕ → Type 0
IsFound None length = ⊥
IsFound (Some r) length = r.0.length ≡ length

found_stands : (m n : Option (PrefixValue × ℕ)) (length : ℕ) → IsFound m length → IfSome n (λ r. r.0.length ≤ length) → longer m n ≡ m
found_stands None n length h i = absurd h
found_stands (Some r) None length h i = refl
found_stands (Some r) (Some s) length h i = ap (λ b. cond b (Some s) (Some r)) (no_longer r.0.length s.0.length length h i)
  where
    no_longer : (m n length : ℕ) → m ≡ length → n ≤ length → nat_lt m n ≡ false
    no_longer m n length h i = grind (arith, nat_tests)

-- ---- peers' own addresses

-- a prefix of full length has its address alone
pub full_has_own : (e a : AddrValue) → has (full e) a ≡ same_address e a
full_has_own e a =
    let none : width e.family - width e.family ≡ 0 = omega arith in
    ap (λ k. same_family e.family a.family && nat_eq (a.number / 2 ^ k) (e.number / 2 ^ k)) none
    ∙ ap (λ b. same_family e.family a.family && b) (turned a.number e.number)
  where
    turned : (m n : ℕ) → nat_eq (m / 1) (n / 1) ≡ nat_eq n m
    turned m n = grind (arith, nat_tests)

own_within : (peers : List Peer) → All IsInWidth (own_prefixes peers)
own_within [] = λ k d h. absurd (omega (arith, h))
own_within (e ∷ peers) = All-cons IsInWidth (full e.address, e.number) (own_prefixes peers) (omega arith) (own_within peers)

full_width : (e a : AddrValue) → same_address e a ≡ true → width e.family ≡ width a.family
full_width e a h = ap (λ (b : AddrValue). width b.family) (same_address_is e a h)

-- the first peer at the address is the match
pub own_here : (e : Peer) (peers : List Peer) (a : AddrValue) → same_address e.address a ≡ true → longest_match (own_prefixes (e ∷ peers)) a ≡ Some (full e.address, e.number)
own_here e peers a h =
    ap (λ b. longer (cond b (Some (full e.address, e.number)) None) (longest_match (own_prefixes peers) a)) (full_has_own e.address a ∙ h)
    ∙ found_stands (Some (full e.address, e.number)) (longest_match (own_prefixes peers) a) (width a.family) (full_width e.address a h) (longest_within (own_prefixes peers) a (own_within peers))

pub own_skip : (e : Peer) (peers : List Peer) (a : AddrValue) → same_address e.address a ≡ false → longest_match (own_prefixes (e ∷ peers)) a ≡ longest_match (own_prefixes peers) a
own_skip e peers a h = longest_skip (full e.address, e.number) (own_prefixes peers) a (full_has_own e.address a ∙ h)

own_found : (peers : List Peer) (a : AddrValue) → list_any (λ p. is_first p a) peers ≡ true → IsFound (longest_match (own_prefixes peers) a) (width a.family)
own_found [] a h = cc
own_found (e ∷ peers) a h = elim (decide (same_address e.address a)) [
  | inl t ↦ subst (λ (m : Option (PrefixValue × ℕ)). IsFound m (width a.family)) (sym (own_here e peers a t)) (full_width e.address a t)
  | inr f ↦
      let rest : list_any (λ (p : Peer). is_first p a) peers ≡ true = ap (λ b. b || list_any (λ (p : Peer). is_first p a) peers) (sym f) ∙ h in
      subst (λ (m : Option (PrefixValue × ℕ)). IsFound m (width a.family)) (sym (own_skip e peers a f)) (own_found peers a rest)
]

own_none : (peers : List Peer) (a : AddrValue) → list_any (λ p. is_first p a) peers ≡ false → longest_match (own_prefixes peers) a ≡ None
own_none [] a h = refl
own_none (e ∷ peers) a h =
    let parts = or_false (same_address e.address a) (list_any (λ (p : Peer). is_first p a) peers) h in
    own_skip e peers a parts.0 ∙ own_none peers a parts.1

-- ---- the owner

pub owner_own : (n : NetworkValue) (a : AddrValue) → IsNetwork n → is_own n.peers a ≡ true → owner_of n a ≡ option_map (λ r. r.1) (longest_match (own_prefixes n.peers) a)
owner_own n a is h =
    let within : All IsInWidth n.routes = λ k d l. (is.routes k d l).masked.1.0 in
    ap (option_map (λ (r : PrefixValue × ℕ). r.1))
    (longest_append (own_prefixes n.peers) n.routes a
    ∙ found_stands (longest_match (own_prefixes n.peers) a) (longest_match n.routes a) (width a.family) (own_found n.peers a (sym (own_alone n.peers a (members_alone n is)) ∙ h)) (longest_within n.routes a within))

pub owner_routed : (n : NetworkValue) (a : AddrValue) → IsNetwork n → is_own n.peers a ≡ false → owner_of n a ≡ option_map (λ r. r.1) (longest_match n.routes a)
owner_routed n a is h =
    ap (option_map (λ (r : PrefixValue × ℕ). r.1))
    (longest_append (own_prefixes n.peers) n.routes a ∙ ap (λ (m : Option (PrefixValue × ℕ)). longer m (longest_match n.routes a)) (own_none n.peers a (sym (own_alone n.peers a (members_alone n is)) ∙ h)))
