-- What is found in a list after one change of it.
use Rattle.std.proofs.Common.{◌≡◌, ℕ, inl, inr, Bool, true, false, not, cond, nat_eq, nat_lt, List, [], ◌∷◌, Some, None, refl, sym, ap, ◌∙◌, subst, arith}
use Rattle.std.specs.List.{filter}
use Rattle.std.proofs.lemmas.Bool.Decides.{nat_tests}
use Rattle.wgr_text.specs.Prefix.{PrefixValue}
use Rattle.wgr_peers.specs.declared.peer.Peer.{Peer}
use Rattle.wgr_pool.specs.PrefixTests.{is_before, same_prefix}
use Rattle.wgr_peers.specs.Ordered.{put_in_order}
use Rattle.wgr_peers.specs.Peers.{peer_of, put_peer}
use Rattle.wgr_peers.specs.Routes.{Routes, route_of, assign_route, without_route}
use Rattle.wgr_pool.proofs.Bools.{decide}
use Rattle.wgr_pool.proofs.PrefixLemmas.{nat_eq_is, nat_eq_self, same_prefix_is, same_prefix_self}
use Rattle.wgr_peers.proofs.PlaceLemmas.{routes_level}
use Rattle.wgr_core.proofs.LookLemmas.{find, route_find, peer_find}

-- ---- a list looked up by keys

module _ {X K V : Type 0} (key : X → K) (value : X → V) (same : K → K → Bool) where
  -- an item put in its place is found
  find_put : (is_below is_same : X → Bool) (xs : List X) (x : X) (k : K) → ((y : X) → is_same y ≡ same (key y) k) → ((y : X) → is_same y ≡ true → is_below y ≡ false)
      → same (key x) k ≡ true → find key value same (put_in_order is_below is_same xs x) k ≡ Some (value x)
  find_put is_below is_same [] x k tells level here = ap (λ b. cond b (Some (value x)) None) here
  find_put is_below is_same (y ∷ ys) x k tells level here =
      let found = λ (zs : List X). ap (λ b. cond b (Some (value x)) (find key value same zs k)) here in
      elim (decide (is_below y)) [
        | inl below ↦
            let apart : same (key y) k ≡ false = elim (decide (is_same y)) [
              | inl s ↦ let bad : true ≡ false = sym below ∙ level y s in cc
              | inr f ↦ sym (tells y) ∙ f
            ] in
            ap (λ b. find key value same (cond b (y ∷ put_in_order is_below is_same ys x) (cond (is_same y) (x ∷ ys) (x ∷ y ∷ ys))) k) below
            ∙ ap (λ b. cond b (Some (value y)) (find key value same (put_in_order is_below is_same ys x) k)) apart
            ∙ find_put is_below is_same ys x k tells level here
        | inr from ↦
            ap (λ b. find key value same (cond b (y ∷ put_in_order is_below is_same ys x) (cond (is_same y) (x ∷ ys) (x ∷ y ∷ ys))) k) from
            ∙ elim (is_same y) as (λ b. find key value same (cond b (x ∷ ys) (x ∷ y ∷ ys)) k ≡ Some (value x)) [ true ↦ found ys | false ↦ found (y ∷ ys) ]
      ]

  -- and nothing else changes
  find_other : (is_below is_same : X → Bool) (xs : List X) (x : X) (k : K) → ((y : X) → is_same y ≡ true → same (key y) k ≡ false)
      → same (key x) k ≡ false → find key value same (put_in_order is_below is_same xs x) k ≡ find key value same xs k
  find_other is_below is_same [] x k others apart = ap (λ b. cond b (Some (value x)) None) apart
  find_other is_below is_same (y ∷ ys) x k others apart =
      let skipped = λ (zs : List X). ap (λ b. cond b (Some (value x)) (find key value same zs k)) apart in
      elim (is_below y) as (λ b. find key value same (cond b (y ∷ put_in_order is_below is_same ys x) (cond (is_same y) (x ∷ ys) (x ∷ y ∷ ys))) k ≡ find key value same (y ∷ ys) k) [
        | true ↦ ap (λ o. cond (same (key y) k) (Some (value y)) o) (find_other is_below is_same ys x k others apart)
        | false ↦ elim (decide (is_same y)) [
          | inl s ↦
              ap (λ b. find key value same (cond b (x ∷ ys) (x ∷ y ∷ ys)) k) s
              ∙ skipped ys
              ∙ sym (ap (λ b. cond b (Some (value y)) (find key value same ys k)) (others y s))
          | inr f ↦ ap (λ b. find key value same (cond b (x ∷ ys) (x ∷ y ∷ ys)) k) f ∙ skipped (y ∷ ys)
        ]
      ]

  -- what a filter drops isn't found
  find_dropped : (keeps : X → Bool) (xs : List X) (k : K) → ((x : X) → same (key x) k ≡ true → keeps x ≡ false) → find key value same (filter keeps xs) k ≡ None
  find_dropped keeps [] k drops = refl
  find_dropped keeps (x ∷ xs) k drops =
      let rest = find_dropped keeps xs k drops in
      elim (decide (same (key x) k)) [
        | inl here ↦ ap (λ b. find key value same (cond b (x ∷ filter keeps xs) (filter keeps xs)) k) (drops x here) ∙ rest
        | inr apart ↦ elim (keeps x) as (λ b. find key value same (cond b (x ∷ filter keeps xs) (filter keeps xs)) k ≡ None) [
          | true ↦ ap (λ b. cond b (Some (value x)) (find key value same (filter keeps xs) k)) apart ∙ rest
          | false ↦ rest
        ]
      ]

  -- what a filter keeps is found as before
  find_kept : (keeps : X → Bool) (xs : List X) (k : K) → ((x : X) → same (key x) k ≡ true → keeps x ≡ true) → find key value same (filter keeps xs) k ≡ find key value same xs k
  find_kept keeps [] k stays = refl
  find_kept keeps (x ∷ xs) k stays =
      let rest = ap (λ o. cond (same (key x) k) (Some (value x)) o) (find_kept keeps xs k stays) in
      elim (decide (same (key x) k)) [
        | inl here ↦ ap (λ b. find key value same (cond b (x ∷ filter keeps xs) (filter keeps xs)) k) (stays x here) ∙ rest
        | inr apart ↦ elim (keeps x) as (λ b. find key value same (cond b (x ∷ filter keeps xs) (filter keeps xs)) k ≡ find key value same (x ∷ xs) k) [
          | true ↦ rest
          | false ↦ find_kept keeps xs k stays ∙ sym (ap (λ b. cond b (Some (value x)) (find key value same xs k)) apart)
        ]
      ]

-- ---- routes by prefix

other_prefix : (p q r : PrefixValue) → same_prefix p q ≡ false → same_prefix r p ≡ true → same_prefix r q ≡ false
other_prefix p q r apart same = subst (λ (s : PrefixValue). same_prefix s q ≡ false) (sym (same_prefix_is r p same)) apart

pub assigned_leads : (routes : Routes) (p : PrefixValue) (number : ℕ) → route_of (assign_route routes p number) p ≡ Some number
assigned_leads routes p number =
    route_find (assign_route routes p number) p
    ∙ find_put (λ (r : PrefixValue × ℕ). r.0) (λ r. r.1) same_prefix (λ r. is_before r.0 p) (λ r. same_prefix r.0 p) routes (p, number) p (λ r. refl) (routes_level p) (same_prefix_self p)

pub assigned_others : (routes : Routes) (p q : PrefixValue) (number : ℕ) → same_prefix p q ≡ false → route_of (assign_route routes p number) q ≡ route_of routes q
assigned_others routes p q number apart =
    route_find (assign_route routes p number) q
    ∙ find_other (λ (r : PrefixValue × ℕ). r.0) (λ r. r.1) same_prefix (λ r. is_before r.0 p) (λ r. same_prefix r.0 p) routes (p, number) q (λ r same. other_prefix p q r.0 apart same) apart
    ∙ sym (route_find routes q)

pub removed_gone : (routes : Routes) (p : PrefixValue) → route_of (without_route routes p) p ≡ None
removed_gone routes p =
    route_find (without_route routes p) p
    ∙ find_dropped (λ (r : PrefixValue × ℕ). r.0) (λ r. r.1) same_prefix (λ r. not (same_prefix r.0 p)) routes p (λ r same. ap not same)

pub removed_others : (routes : Routes) (p q : PrefixValue) → same_prefix p q ≡ false → route_of (without_route routes p) q ≡ route_of routes q
removed_others routes p q apart =
    route_find (without_route routes p) q
    ∙ find_kept (λ (r : PrefixValue × ℕ). r.0) (λ r. r.1) same_prefix (λ r. not (same_prefix r.0 p)) routes q (λ r same. kept r same)
    ∙ sym (route_find routes q)
  where
    kept : (r : PrefixValue × ℕ) → same_prefix r.0 q ≡ true → not (same_prefix r.0 p) ≡ true
    kept r same = elim (decide (same_prefix r.0 p)) [
      | inl also ↦ let bad : true ≡ false = sym same ∙ other_prefix p q r.0 apart also in cc
      | inr other ↦ ap not other
    ]

-- ---- peers by number

level : (m n : ℕ) → nat_eq m n ≡ true → nat_lt m n ≡ false
level m n h = grind (arith, nat_tests)

other_number : (i j m : ℕ) → nat_eq i j ≡ false → nat_eq m i ≡ true → nat_eq m j ≡ false
other_number i j m apart same = subst (λ (k : ℕ). nat_eq k j ≡ false) (sym (nat_eq_is m i same)) apart

pub put_stands_there : (peers : List Peer) (p : Peer) → peer_of (put_peer peers p) p.number ≡ Some p
put_stands_there peers p =
    peer_find (put_peer peers p) p.number
    ∙ find_put (λ (p : Peer). p.number) (λ p. p) nat_eq (λ q. nat_lt q.number p.number) (λ q. nat_eq q.number p.number) peers p p.number (λ q. refl) (λ q same. level q.number p.number same) (nat_eq_self p.number)

pub put_others : (peers : List Peer) (p : Peer) (i : ℕ) → nat_eq p.number i ≡ false → peer_of (put_peer peers p) i ≡ peer_of peers i
put_others peers p i apart =
    peer_find (put_peer peers p) i
    ∙ find_other (λ (p : Peer). p.number) (λ p. p) nat_eq (λ q. nat_lt q.number p.number) (λ q. nat_eq q.number p.number) peers p i (λ q same. other_number p.number i q.number apart same) apart
    ∙ sym (peer_find peers i)
