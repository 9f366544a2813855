-- A peer that moves: the network in which it holds no address.
use Rattle.std.proofs.Common.{◌≡◌, ℕ, zero, suc, ◌+◌, ◌-◌, ◌<◌, ◌≤◌, inl, inr, Bool, true, false, not, ◌&&◌, ◌||◌, cond, nat_eq, nat_lt, List, [], ◌∷◌, Option, Some, None, refl, sym, ap, ◌∙◌, subst, arith}
use Rattle.std.specs.Prelude.{Result}
use Rattle.std.proofs.lemmas.Bool.{cases_lt}
use Rattle.std.proofs.lemmas.Bool.Decides.{nat_tests}
use Rattle.wgr_text.specs.declared.addr.Family.{Family}
use Rattle.wgr_text.specs.Prefix.{AddrValue, block}
use Rattle.wgr_peers.specs.declared.peer.Peer.{Peer}
use Rattle.wgr_core.specs.declared.refusal.Refusal.{Refusal}
use Rattle.wgr_pool.specs.PrefixTests.{same_address, has}
use Rattle.wgr_pool.specs.Pool.{reserved}
use Rattle.wgr_pool.specs.Allot.{is_assignable, first_from, lower}
use Rattle.wgr_peers.specs.Peers.{is_own, peer_of, is_at, is_second}
use Rattle.wgr_pool.specs.HeldSpans.{is_routed}
use Rattle.wgr_core.specs.Network.{NetworkValue, IsNetwork, IsMember, is_held, lowest_free}
use Rattle.wgr_core.specs.Outcome.{at_place, if_stands, move, replaced, vacated}
use Rattle.wgr_core.specs.Refusals.{place}
use Rattle.wgr_pool.proofs.Bools.{decide, and_true, or_left, or_right}
use Rattle.wgr_peers.proofs.PeerLemmas.{own_without, peer_is, peer_number}
use Rattle.wgr_pool.proofs.PrefixLemmas.{same_address_is, same_address_self, same_family_is}
use Rattle.wgr_core.proofs.AloneLemmas.{at_alone}

-- an address is held without the peer: by a route where it is the peer's own, and else as before
pub held_without : (n : NetworkValue) (number : ℕ) (p : Peer) (a : AddrValue) → IsNetwork n → peer_of n.peers number ≡ Some p
    → is_held (vacated n (Some number)) n.pool a ≡ cond (same_address p.address a) (is_routed n.pool n.routes a) (is_held n n.pool a)
held_without n number p a is h =
    ap (λ b. b || is_routed n.pool n.routes a) (own_without n.peers number p a is.numbered is.apart h)
    ∙ ap (λ c. cond c false (is_own n.peers a) || is_routed n.pool n.routes a) (at_alone p a (peer_is (IsMember n) n.peers number p is.members h).0.alone)
    ∙ split (same_address p.address a)
  where
    split : (b : Bool) → cond b false (is_own n.peers a) || is_routed n.pool n.routes a ≡ cond b (is_routed n.pool n.routes a) (is_own n.peers a || is_routed n.pool n.routes a)
    split true = refl
    split false = refl

-- the outcome of a move, from the peer and the place that it takes
pub move_by : (n : NetworkValue) (number : ℕ) (p : Peer) (wanted : Option AddrValue) (at : Result AddrValue Refusal) → peer_of n.peers number ≡ Some p → place (vacated n (Some p.number)) n.pool wanted ≡ at
    → move n number wanted ≡ at_place at (λ a. replaced n (record p { address = a }))
move_by n number p wanted at found placed =
    ap (λ o. if_stands o (λ q. at_place (place (vacated n (Some number)) n.pool wanted) (λ a. replaced n (record q { address = a })))) found
    ∙ ap (λ m. at_place (place (vacated n (Some m)) n.pool wanted) (λ a. replaced n (record p { address = a }))) (sym (peer_number n.peers number p found))
    ∙ ap (λ r. at_place r (λ a. replaced n (record p { address = a }))) placed

-- ---- the search with one more address that passes

searched : Family → (AddrValue → Bool) → ℕ → ℕ → Bool → Option AddrValue
searched f passes start count b = elim b as (λ _. Option AddrValue) [ true ↦ Some (record { family = f; number = start }) | false ↦ first_from f passes (start + 1) count ]

pub first_agrees : (f : Family) (p q : AddrValue → Bool) (start count : ℕ) → ((a : AddrValue) → p a ≡ q a) → first_from f p start count ≡ first_from f q start count
first_agrees f p q start zero same = refl
first_agrees f p q start (suc count) same =
    ap (λ b. elim b as (λ _. Option AddrValue) [ true ↦ Some (record { family = f; number = start }) | false ↦ first_from f p (start + 1) count ]) (same (record { family = f; number = start }))
    ∙ ap (λ o. elim (q (record { family = f; number = start })) as (λ _. Option AddrValue) [ true ↦ Some (record { family = f; number = start }) | false ↦ o ]) (first_agrees f p q (start + 1) count same)

-- what a search finds lies at its start or above
first_above : (f : Family) (p : AddrValue → Bool) (start count : ℕ) (a : AddrValue) → first_from f p start count ≡ Some a → start ≤ a.number
first_above f p start zero a h = cc
first_above f p start (suc count) a h = by (p (record { family = f; number = start })) (λ rest. first_above f p (start + 1) count a rest) h
  where
    by : (b : Bool) → (first_from f p (start + 1) count ≡ Some a → start + 1 ≤ a.number) → (elim b as (λ _. Option AddrValue) [ true ↦ Some (record { family = f; number = start }) | false ↦ first_from f p (start + 1) count ]) ≡ Some a → start ≤ a.number
    by true later h = let e : record { family = f; number = start } ≡ a = cc in let same = ap (λ (x : AddrValue). x.number) e in omega (arith, same)
    by false later h = let l = later h in omega (arith, l)

lower_than : (o : Option AddrValue) (b : AddrValue) → ((a : AddrValue) → o ≡ Some a → b.number < a.number) → lower o b ≡ b
lower_than None b above = refl
lower_than (Some a) b above = ap (λ t. cond t a b) (past a.number b.number (above a refl))
  where
    past : (m n : ℕ) → n < m → nat_lt m n ≡ false
    past m n l = grind (arith, nat_tests)

pub first_with : (f : Family) (p q : AddrValue → Bool) (b : AddrValue) (start count : ℕ) → f ≡ b.family → start ≤ b.number → b.number < start + count
    → q b ≡ true → p b ≡ false → ((a : AddrValue) → same_address b a ≡ false → q a ≡ p a) → first_from f q start count ≡ Some (lower (first_from f p start count) b)
first_with f p q b start zero family from to hit miss same = absurd (omega (arith, from, to))
first_with f p q b start (suc count) family from to hit miss same = elim (cases_lt start b.number) [
  | inl l ↦ before l (p (record { family = f; number = start })) refl (first_with f p q b (start + 1) count family (omega (arith, l)) (omega (arith, to)) hit miss same)
  | inr g ↦ here (omega (arith, from, g))
]
  where
    step : (AddrValue → Bool) → Bool → Option AddrValue
    step passes t = elim t as (λ _. Option AddrValue) [ true ↦ Some (record { family = f; number = start }) | false ↦ first_from f passes (start + 1) count ]

    less : (m n : ℕ) → m < n → nat_lt m n ≡ true
    less m n l = grind (arith, nat_tests)

    elsewhere : (b : AddrValue) (m : ℕ) (g : Family) → m < b.number → same_address b (record { family = g; number = m }) ≡ false
    elsewhere b m g l = elim (decide (same_address b (record { family = g; number = m }))) [
      | inr f ↦ f
      | inl t ↦ let same = ap (λ (x : AddrValue). x.number) (same_address_is b (record { family = g; number = m }) t) in absurd (omega (arith, l, same))
    ]

    here : b.number ≡ start → first_from f q start (suc count) ≡ Some (lower (first_from f p start (suc count)) b)
    here e =
        let is : b ≡ record { family = f; number = start } = ap (λ g. record { family = g; number = b.number }) (sym family) ∙ ap (λ m. record { family = f; number = m }) e in
        let found = ap (step q) (subst (λ a. q a ≡ true) is hit) in
        let skipped = ap (step p) (subst (λ a. p a ≡ false) is miss) in
        found ∙ ap (λ a. Some a) (sym is) ∙ sym (ap (λ o. Some (lower o b)) skipped ∙ ap (λ a. Some a) (lower_than (first_from f p (start + 1) count) b (λ a h. let later = first_above f p (start + 1) count a h in omega (arith, later, e))))

    before : start < b.number → (t : Bool) → p (record { family = f; number = start }) ≡ t → first_from f q (start + 1) count ≡ Some (lower (first_from f p (start + 1) count) b) → first_from f q start (suc count) ≡ Some (lower (first_from f p start (suc count)) b)
    before l true t later =
        let alike = ap (step q) (same (record { family = f; number = start }) (elsewhere b start f l) ∙ t) in
        alike ∙ sym (ap (λ o. Some (lower o b)) (ap (step p) t) ∙ ap (λ s. Some (cond s (record { family = f; number = start }) b)) (less start b.number l))
    before l false t later =
        let alike = ap (step q) (same (record { family = f; number = start }) (elsewhere b start f l) ∙ t) in
        alike ∙ later ∙ sym (ap (λ o. Some (lower o b)) (ap (step p) t))

-- the same where it may have passed before
pub first_with_any : (f : Family) (p q : AddrValue → Bool) (b : AddrValue) (start count : ℕ) → f ≡ b.family → start ≤ b.number → b.number < start + count
    → q b ≡ true → ((a : AddrValue) → same_address b a ≡ false → q a ≡ p a) → first_from f q start count ≡ Some (lower (first_from f p start count) b)
first_with_any f p q b start count family from to hit same = elim (decide (p b)) [
  | inr miss ↦ first_with f p q b start count family from to hit miss same
  | inl passed ↦
      -- without `b` the search is another, of which both are the search with `b`
      let r = λ (a : AddrValue). p a && not (same_address b a) in
      let r_misses : r b ≡ false = ap (λ t. p b && not t) (same_address_self b) ∙ last (p b) in
      let r_same = λ (a : AddrValue) (s : same_address b a ≡ false). ap (λ t. p a && not t) s ∙ all (p a) in
      let with_p = first_with f r p b start count family from to passed r_misses (λ a s. sym (r_same a s)) in
      let with_q = first_with f r q b start count family from to hit r_misses (λ a s. same a s ∙ sym (r_same a s)) in
      with_q ∙ ap (λ a. Some a) (sym (again (first_from f r start count) b)) ∙ sym (ap (λ o. Some (lower o b)) with_p)
]
  where
    last : (t : Bool) → (t && false) ≡ false
    last true = refl
    last false = refl

    all : (t : Bool) → (t && true) ≡ t
    all true = refl
    all false = refl

    -- the lower of two is the lower of it and either
    again : (o : Option AddrValue) (b : AddrValue) → lower (Some (lower o b)) b ≡ lower o b
    again None b = ap (λ t. cond t b b) (self b.number)
      where
        self : (m : ℕ) → nat_lt m m ≡ false
        self m = grind (arith, nat_tests)
    again (Some a) b = by (nat_lt a.number b.number) refl
      where
        self : (m : ℕ) → nat_lt m m ≡ false
        self m = grind (arith, nat_tests)

        by : (t : Bool) → nat_lt a.number b.number ≡ t → cond (nat_lt (cond t a b).number b.number) (cond t a b) b ≡ cond t a b
        by true e = ap (λ t. cond t a b) e
        by false e = ap (λ t. cond t b b) (self b.number)

-- ---- the lowest address for a peer that moves

own_of : (peers : List Peer) (number : ℕ) (p : Peer) → peer_of peers number ≡ Some p → is_own peers p.address ≡ true
own_of [] number p h = cc
own_of (q ∷ peers) number p h = by (nat_eq q.number number) (λ rest. own_of peers number p rest) h
  where
    by : (b : Bool) → (peer_of peers number ≡ Some p → is_own peers p.address ≡ true) → cond b (Some q) (peer_of peers number) ≡ Some p → is_at q p.address || is_own peers p.address ≡ true
    by true later h = let e : q ≡ p = cc in or_left (is_at q p.address) (is_own peers p.address) (subst (λ (r : Peer). is_at r p.address ≡ true) (sym e) (or_left (same_address p.address p.address) (is_second p p.address) (same_address_self p.address)))
    by false later h = or_right (is_at q p.address) (is_own peers p.address) (later h)

-- a peer's address is one of the pool's
pub own_in_pool : (n : NetworkValue) (p : Peer) → IsNetwork n → peer_of n.peers p.number ≡ Some p → has n.pool p.address ≡ true
own_in_pool n p is h = (and_true (has n.pool p.address) _ (and_true _ _ (peer_is (IsMember n) n.peers p.number p is.members h).0.assignable).0).0

-- where a route has the peer's address too, it stays held
pub lowest_where_routed : (n : NetworkValue) (number : ℕ) (p : Peer) → IsNetwork n → peer_of n.peers number ≡ Some p → is_routed n.pool n.routes p.address ≡ true
    → lowest_free (vacated n (Some number)) n.pool ≡ lowest_free n n.pool
lowest_where_routed n number p is h routed =
    first_agrees n.pool.address.family _ _ n.pool.address.number (block n.pool.address.family n.pool.length) (λ a. ap (λ b. is_assignable n.pool a && not b) (held_without n number p a is h ∙ alike a (same_address p.address a) refl))
  where
    alike : (a : AddrValue) (b : Bool) → same_address p.address a ≡ b → cond (same_address p.address a) (is_routed n.pool n.routes a) (is_held n n.pool a) ≡ is_held n n.pool a
    alike a true s =
        let here : is_routed n.pool n.routes a ≡ true = subst (λ x. is_routed n.pool n.routes x ≡ true) (same_address_is p.address a s) routed in
        ap (λ b. cond b (is_routed n.pool n.routes a) (is_held n n.pool a)) s ∙ here ∙ sym (or_right (is_own n.peers a) (is_routed n.pool n.routes a) here)
    alike a false s = ap (λ b. cond b (is_routed n.pool n.routes a) (is_held n n.pool a)) s

-- else it is free for the peer, which takes it where none below it is
pub lowest_where_unrouted : (n : NetworkValue) (number : ℕ) (p : Peer) → IsNetwork n → peer_of n.peers number ≡ Some p → is_routed n.pool n.routes p.address ≡ false
    → lowest_free (vacated n (Some number)) n.pool ≡ Some (lower (lowest_free n n.pool) p.address)
lowest_where_unrouted n number p is h unrouted =
    first_with n.pool.address.family (λ a. is_assignable n.pool a && not (is_held n n.pool a)) (λ a. is_assignable n.pool a && not (is_held (vacated n (Some number)) n.pool a)) p.address n.pool.address.number (block n.pool.address.family n.pool.length)
    (same_family_is n.pool.address.family p.address.family (and_true _ _ both.0).0)
    (within_from p.address.number n.pool.address.number (and_true (has n.pool p.address) _ parts.0).1)
    (within_to p.address.number n.pool.address.number (block n.pool.address.family n.pool.length) (reserved n.pool.address.family) parts.1)
    (ap (λ b. b && not (is_held (vacated n (Some number)) n.pool p.address)) given ∙ ap not freed)
    (ap (λ b. b && not (is_held n n.pool p.address)) given ∙ ap not held)
    (λ a apart. ap (λ b. is_assignable n.pool a && not b) (held_without n number p a is h ∙ ap (λ b. cond b (is_routed n.pool n.routes a) (is_held n n.pool a)) apart))
  where
    given : is_assignable n.pool p.address ≡ true
    given = (peer_is (IsMember n) n.peers number p is.members h).0.assignable

    parts : (has n.pool p.address && not (nat_lt p.address.number (n.pool.address.number + 2)) ≡ true) × (nat_lt p.address.number (n.pool.address.number + block n.pool.address.family n.pool.length - reserved n.pool.address.family) ≡ true)
    parts = and_true _ _ given

    both : (has n.pool p.address ≡ true) × (not (nat_lt p.address.number (n.pool.address.number + 2)) ≡ true)
    both = and_true _ _ parts.0

    freed : is_held (vacated n (Some number)) n.pool p.address ≡ false
    freed = held_without n number p p.address is h ∙ ap (λ b. cond b (is_routed n.pool n.routes p.address) (is_held n n.pool p.address)) (same_address_self p.address) ∙ unrouted

    held : is_held n n.pool p.address ≡ true
    held = or_left (is_own n.peers p.address) (is_routed n.pool n.routes p.address) (own_of n.peers number p h)

    within_from : (a s : ℕ) → not (nat_lt a (s + 2)) ≡ true → s ≤ a
    within_from a s h = grind (arith, nat_tests)

    within_to : (a s size last : ℕ) → nat_lt a (s + size - last) ≡ true → a < s + size
    within_to a s size last h = grind (arith, nat_tests)
