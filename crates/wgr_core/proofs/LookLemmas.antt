-- What is found in the lists of a network where some are left out.
use Rattle.std.proofs.Common.{◌≡◌, ℕ, ◌<◌, ◌↔◌, inl, inr, Bool, true, false, cond, nat_eq, List, [], ◌∷◌, get_or, Option, Some, None, is_some, refl, sym, ap, ◌∙◌, subst, arith}
use Rattle.std.specs.List.{All, AllPairs, filter}
use Rattle.std.proofs.lemmas.Bool.Decides.{nat_tests}
use Rattle.std.proofs.lemmas.List.Elements.{All-head, All-tail}
use Rattle.wgr_text.specs.Prefix.{PrefixValue}
use Rattle.wgr_peers.specs.declared.peer.Peer.{Peer}
use Rattle.wgr_pool.specs.PrefixTests.{is_before, same_prefix}
use Rattle.wgr_peers.specs.Peers.{peer_of, AreNumbered}
use Rattle.wgr_peers.specs.Routes.{Routes, route_of, AreOrdered}
use Rattle.wgr_core.specs.Network.{NetworkValue, IsNetwork, live_at}
use Rattle.wgr_pool.proofs.Lists.{AllPairs-head, AllPairs-tail}
use Rattle.wgr_pool.proofs.Bools.{decide}
use Rattle.wgr_pool.proofs.PrefixLemmas.{same_prefix_is}
use Rattle.wgr_peers.proofs.PlaceLemmas.{not_before_self}

-- ---- a list looked up by keys

module _ {X K V : Type 0} (key : X → K) (value : X → V) (same : K → K → Bool) where
  abbrev pub find : List X → K → Option V
  find [] k = None
  find (x ∷ xs) k = cond (same (key x) k) (Some (value x)) (find xs k)

  find_none : (xs : List X) (k : K) → All (λ x. same (key x) k ≡ false) xs → find xs k ≡ None
  find_none [] k apart = refl
  find_none (x ∷ xs) k apart =
      ap (λ b. cond b (Some (value x)) (find xs k)) (All-head (λ x. same (key x) k ≡ false) x xs apart) ∙ find_none xs k (All-tail (λ x. same (key x) k ≡ false) x xs apart)

  -- what isn't found isn't found where some are left out
  find_absent : (keeps : X → Bool) (xs : List X) (k : K) → find xs k ≡ None → find (filter keeps xs) k ≡ None
  find_absent keeps [] k none = refl
  find_absent keeps (x ∷ xs) k none = elim (decide (same (key x) k)) [
    | inl here ↦ let bad : Some (value x) ≡ None = sym (ap (λ b. cond b (Some (value x)) (find xs k)) here) ∙ none in cc
    | inr apart ↦
        let rest = find_absent keeps xs k (sym (ap (λ b. cond b (Some (value x)) (find xs k)) apart) ∙ none) in
        elim (keeps x) as (λ b. find (cond b (x ∷ filter keeps xs) (filter keeps xs)) k ≡ None) [
          | true ↦ ap (λ b. cond b (Some (value x)) (find (filter keeps xs) k)) apart ∙ rest
          | false ↦ rest
        ]
  ]

  one_value : (v w : V) → Some v ≡ Some w → v ≡ w
  one_value v w h = cc

  -- where no key stands twice, a filter of values leaves those that pass
  find_filtered : (passes : V → Bool) (xs : List X) (k : K) (v : V) → AllPairs (λ x y. same (key x) k ≡ true → same (key y) k ≡ false) xs
      → (find (filter (λ x. passes (value x)) xs) k ≡ Some v) ↔ ((find xs k ≡ Some v) × (passes v ≡ true))
  find_filtered passes [] k v once = ((λ h. cc), (λ h. h.0))
  find_filtered passes (x ∷ xs) k v once =
      let others = filter (λ x. passes (value x)) xs in
      elim (decide (same (key x) k)) [
        | inl here ↦
            let found : find (x ∷ xs) k ≡ Some (value x) = ap (λ b. cond b (Some (value x)) (find xs k)) here in
            elim (decide (passes (value x))) [
              | inl stays ↦
                  let also : find (filter (λ x. passes (value x)) (x ∷ xs)) k ≡ Some (value x) = ap (λ b. find (cond b (x ∷ others) others) k) stays ∙ ap (λ b. cond b (Some (value x)) (find others k)) here in (
                    (λ h. let is : value x ≡ v = one_value (value x) v (sym also ∙ h) in (found ∙ ap (λ w. Some w) is, subst (λ w. passes w ≡ true) is stays)),
                    (λ h. also ∙ sym found ∙ h.0),
                  )
              | inr goes ↦
                  let behind = AllPairs-head (λ x y. same (key x) k ≡ true → same (key y) k ≡ false) x xs once in
                  let none = find_none xs k (λ i d h. behind i d h here) in
                  let gone : find (filter (λ x. passes (value x)) (x ∷ xs)) k ≡ None = ap (λ b. find (cond b (x ∷ others) others) k) goes ∙ find_absent (λ x. passes (value x)) xs k none in (
                    (λ h. let bad : None ≡ Some v = sym gone ∙ h in cc),
                    (λ h. let is : value x ≡ v = one_value (value x) v (sym found ∙ h.0) in let bad : true ≡ false = sym h.1 ∙ subst (λ w. passes w ≡ false) is goes in cc),
                  )
            ]
        | inr apart ↦
            let rest = find_filtered passes xs k v (AllPairs-tail (λ x y. same (key x) k ≡ true → same (key y) k ≡ false) x xs once) in
            let next : find (x ∷ xs) k ≡ find xs k = ap (λ b. cond b (Some (value x)) (find xs k)) apart in
            let left : find (filter (λ x. passes (value x)) (x ∷ xs)) k ≡ find others k = elim (passes (value x)) as (λ b. find (cond b (x ∷ others) others) k ≡ find others k) [
              | true ↦ ap (λ b. cond b (Some (value x)) (find others k)) apart
              | false ↦ refl
            ] in (
              (λ h. let both = rest.0 (sym left ∙ h) in (next ∙ both.0, both.1)),
              (λ h. left ∙ rest.1 (sym next ∙ h.0, h.1)),
            )
      ]

-- ---- routes by prefix

pub route_find : (routes : Routes) (p : PrefixValue) → route_of routes p ≡ find (λ (r : PrefixValue × ℕ). r.0) (λ r. r.1) same_prefix routes p
route_find [] p = refl
route_find (r ∷ routes) p = ap (λ (o : Option ℕ). cond (same_prefix r.0 p) (Some r.1) o) (route_find routes p)

-- ---- peers by number

pub peer_find : (peers : List Peer) (i : ℕ) → peer_of peers i ≡ find (λ (p : Peer). p.number) (λ p. p) nat_eq peers i
peer_find [] i = refl
peer_find (p ∷ peers) i = ap (λ (o : Option Peer). cond (nat_eq p.number i) (Some p) o) (peer_find peers i)

-- who isn't there isn't there where some are left out
pub absent_kept : (keeps : Peer → Bool) (peers : List Peer) (i : ℕ) → peer_of peers i ≡ None → peer_of (filter keeps peers) i ≡ None
absent_kept keeps peers i none = peer_find (filter keeps peers) i ∙ find_absent (λ (p : Peer). p.number) (λ p. p) nat_eq keeps peers i (sym (peer_find peers i) ∙ none)

-- ---- live peers and the routes to them

-- who is found among those that are kept stands, and is one that is kept
pub found_kept : (keeps : Peer → Bool) (peers : List Peer) (i : ℕ) (p : Peer) → AreNumbered peers → (peer_of (filter keeps peers) i ≡ Some p) ↔ ((peer_of peers i ≡ Some p) × (keeps p ≡ true))
found_kept keeps peers i p pairs =
    let told = find_filtered (λ (p : Peer). p.number) (λ p. p) nat_eq keeps peers i p (λ j k d l h here. above (get_or peers j d).number (get_or peers k d).number i (pairs j k d l h) here) in (
      (λ h. let both = told.0 (sym (peer_find (filter keeps peers) i) ∙ h) in (peer_find peers i ∙ both.0, both.1)),
      (λ h. peer_find (filter keeps peers) i ∙ told.1 (sym (peer_find peers i) ∙ h.0, h.1)),
    )
  where
    above : (m n k : ℕ) → m < n → nat_eq m k ≡ true → nat_eq n k ≡ false
    above m n k l h = grind (arith, nat_tests)

pub route_kept : (passes : ℕ → Bool) (routes : Routes) (p : PrefixValue) (number : ℕ) → AreOrdered routes
    → (route_of (filter (λ r. passes r.1) routes) p ≡ Some number) ↔ ((route_of routes p ≡ Some number) × (passes number ≡ true))
route_kept passes routes p number ordered =
    let left = filter (λ (r : PrefixValue × ℕ). passes r.1) routes in
    let told = find_filtered (λ (r : PrefixValue × ℕ). r.0) (λ r. r.1) same_prefix passes routes p number (λ j k d l h here. later (get_or routes j d).0 (get_or routes k d).0 (ordered j k d l h) here) in (
      (λ h. let both = told.0 (sym (route_find left p) ∙ h) in (route_find routes p ∙ both.0, both.1)),
      (λ h. route_find left p ∙ told.1 (sym (route_find routes p) ∙ h.0, h.1)),
    )
  where
    later : (q r : PrefixValue) → is_before q r ≡ true → same_prefix q p ≡ true → same_prefix r p ≡ false
    later q r before here = elim (decide (same_prefix r p)) [
      | inr apart ↦ apart
      | inl also ↦
          let one : q ≡ r = same_prefix_is q p here ∙ sym (same_prefix_is r p also) in
          let bad : true ≡ false = sym (subst (λ (s : PrefixValue). is_before s r ≡ true) one before) ∙ not_before_self r in cc
    ]

pub live_routes : (n : NetworkValue) (now number : ℕ) (p : PrefixValue) → IsNetwork n
    → (route_of (live_at n now).routes p ≡ Some number) ↔ ((route_of n.routes p ≡ Some number) × (is_some (peer_of (live_at n now).peers number) ≡ true))
live_routes n now number p is = route_kept (λ (i : ℕ). is_some (peer_of (live_at n now).peers i)) n.routes p number is.ordered
