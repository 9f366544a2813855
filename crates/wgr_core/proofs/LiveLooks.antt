-- What is found of the live network, by what is found of the whole.
use Rattle.std.proofs.Common.{get_or, ◌≡◌, ℕ, ◌+◌, ◌<◌, ◌≤◌, inl, inr, Bool, true, false, not, ◌&&◌, ◌||◌, cond, nat_eq, nat_lt, nat_le, List, [], ◌∷◌, length, map, Option, Some, None, is_some, refl, sym, ap, ◌∙◌, arith}
use Rattle.std.specs.Prelude.{option_map}
use Rattle.std.specs.List.{All, AllPairs, filter, list_any}
use Rattle.std.proofs.lemmas.Bool.Decides.{nat_tests}
use Rattle.std.proofs.lemmas.List.{length-map}
use Rattle.std.proofs.lemmas.List.Elements.{All-head, All-tail, All-weaker, All-filter}
use Rattle.std.proofs.lemmas.List.Filters.{length-filter_both}
use Rattle.std.proofs.lemmas.List.Folds.{list_any_none}
use Rattle.wgr_text.specs.declared.key.Key.{Key}
use Rattle.wgr_text.specs.Prefix.{AddrValue, PrefixValue}
use Rattle.wgr_peers.specs.declared.peer.Peer.{Peer}
use Rattle.wgr_pool.specs.PrefixTests.{same_address}
use Rattle.wgr_peers.specs.Peers.{is_live, is_own, expired_addresses, key_holder, peer_of, same_key, IsApart, IsNumberedBelow, AreApart, AreNumbered, is_at}
use Rattle.wgr_peers.specs.Routes.{Routes, route_of}
use Rattle.wgr_core.specs.Network.{NetworkValue, IsNetwork, live_at}
use Rattle.wgr_core.specs.Owner.{longest_match, own_prefixes}
use Rattle.wgr_pool.proofs.Lists.{AllPairs-head, AllPairs-tail, filter_none, filter_twice, list_any-filter_none}
use Rattle.wgr_pool.proofs.Bools.{decide}
use Rattle.wgr_pool.proofs.PrefixLemmas.{nat_eq_is}
use Rattle.wgr_peers.proofs.PeerLemmas.{apart_too, apart_at, one_at}
use Rattle.wgr_peers.proofs.TableLemmas.{holder_absent, peer_absent, same_key_is}
use Rattle.wgr_core.specs.Network.{AreAlone}
use Rattle.wgr_core.proofs.AloneLemmas.{at_alone, own_alone}
use Rattle.wgr_core.proofs.LookLemmas.{absent_kept, found_kept, live_routes}
use Rattle.wgr_core.proofs.OwnerLemmas.{own_here, own_skip}

-- ---- the peer of a number

pub kept_found : (keeps : Peer → Bool) (peers : List Peer) (i : ℕ) (p : Peer) → AreNumbered peers → peer_of peers i ≡ Some p → keeps p ≡ true → peer_of (filter keeps peers) i ≡ Some p
kept_found keeps peers i p pairs found passes = (found_kept keeps peers i p pairs).1 (found, passes)

pub left_out : (keeps : Peer → Bool) (peers : List Peer) (i : ℕ) (p : Peer) → AreNumbered peers → peer_of peers i ≡ Some p → keeps p ≡ false → peer_of (filter keeps peers) i ≡ None
left_out keeps peers i p pairs found fails = by (peer_of (filter keeps peers) i) refl
  where
    by : (o : Option Peer) → peer_of (filter keeps peers) i ≡ o → peer_of (filter keeps peers) i ≡ None
    by None e = e
    by (Some q) e =
        let both = (found_kept keeps peers i q pairs).0 e in
        let some : Some q ≡ Some p = sym both.0 ∙ found in
        let is : q ≡ p = cc in
        let bad : true ≡ false = sym both.1 ∙ ap keeps is ∙ fails in cc

-- ---- the holder of a key

pub holder_out : (keeps : Peer → Bool) (peers : List Peer) (key : Key) → key_holder peers key ≡ None → key_holder (filter keeps peers) key ≡ None
holder_out keeps [] key none = refl
holder_out keeps (p ∷ peers) key none = by (same_key p.key key) refl none (λ rest. holder_out keeps peers key rest)
  where
    left : List Peer
    left = filter keeps peers

    by : (b : Bool) → same_key p.key key ≡ b → cond b (Some p.number) (key_holder peers key) ≡ None → (key_holder peers key ≡ None → key_holder left key ≡ None) → key_holder (cond (keeps p) (p ∷ left) left) key ≡ None
    by true s h later = cc
    by false s h later = elim (keeps p) as (λ b. key_holder (cond b (p ∷ left) left) key ≡ None) [
      | true ↦ ap (λ b. cond b (Some p.number) (key_holder left key)) s ∙ later h
      | false ↦ later h
    ]

holder_above : (m : ℕ) (peers : List Peer) (key : Key) (i : ℕ) → All (λ q. m < q.number) peers → key_holder peers key ≡ Some i → m < i
holder_above m [] key i all h = cc
holder_above m (p ∷ peers) key i all h = by (same_key p.key key) (λ rest. holder_above m peers key i (All-tail (λ q. m < q.number) p peers all) rest) h
  where
    by : (b : Bool) → (key_holder peers key ≡ Some i → m < i) → cond b (Some p.number) (key_holder peers key) ≡ Some i → m < i
    by true later h = let e : p.number ≡ i = cc in let l = All-head (λ q. m < q.number) p peers all in omega (arith, l, e)
    by false later h = later h

key_apart : (q r : Peer) (key : Key) → IsApart q r → same_key q.key key ≡ true → same_key r.key key ≡ false
key_apart q r key apart mine = elim (decide (same_key r.key key)) [
  | inl too ↦ let bad : true ≡ false = sym mine ∙ ap (same_key q.key) (sym (same_key_is r.key key too)) ∙ apart.0 in cc
  | inr other ↦ other
]

-- a key's holder is found among those that are kept, if it is one of them
pub holder_kept : (keeps : Peer → Bool) (peers : List Peer) (key : Key) (i : ℕ) → AreNumbered peers → AreApart peers → key_holder peers key ≡ Some i
    → key_holder (filter keeps peers) key ≡ option_map (λ p. p.number) (peer_of (filter keeps peers) i)
holder_kept keeps [] key i numbered apart h = cc
holder_kept keeps (p ∷ peers) key i numbered apart h =
    by (same_key p.key key) refl h (λ rest. holder_kept keeps peers key i (AllPairs-tail IsNumberedBelow p peers numbered) (AllPairs-tail IsApart p peers apart) rest)
  where
    left : List Peer
    left = filter keeps peers

    below : All (λ q. p.number < q.number) peers
    below = AllPairs-head IsNumberedBelow p peers numbered

    Goal : Bool → Type 0
    Goal b = key_holder (cond b (p ∷ left) left) key ≡ option_map (λ (p : Peer). p.number) (peer_of (cond b (p ∷ left) left) i)

    equal : (m n : ℕ) → m ≡ n → nat_eq m n ≡ true
    equal m n e = grind (arith, nat_tests)

    less : (m n : ℕ) → m < n → nat_eq m n ≡ false
    less m n l = grind (arith, nat_tests)

    more : (m n k : ℕ) → m < n → m ≡ k → nat_eq n k ≡ false
    more m n k l e = grind (arith, nat_tests)

    by : (b : Bool) → same_key p.key key ≡ b → cond b (Some p.number) (key_holder peers key) ≡ Some i
        → (key_holder peers key ≡ Some i → key_holder left key ≡ option_map (λ (p : Peer). p.number) (peer_of left i)) → Goal (keeps p)
    by true s h later =
        let is : p.number ≡ i = cc in
        let none = holder_out keeps peers key (holder_absent peers key (All-weaker (IsApart p) (λ q. same_key q.key key ≡ false) (λ q a. key_apart p q key a s) peers (AllPairs-head IsApart p peers apart))) in
        let gone = absent_kept keeps peers i (peer_absent peers i (All-weaker (λ q. p.number < q.number) (λ q. nat_eq q.number i ≡ false) (λ q l. more p.number q.number i l is) peers below)) in
        elim (keeps p) as (λ b. Goal b) [
          | true ↦ ap (λ b. cond b (Some p.number) (key_holder left key)) s ∙ sym (ap (λ b. option_map (λ (p : Peer). p.number) (cond b (Some p) (peer_of left i))) (equal p.number i is))
          | false ↦ none ∙ sym (ap (option_map (λ (p : Peer). p.number)) gone)
        ]
    by false s h later =
        elim (keeps p) as (λ b. Goal b) [
          | true ↦
              ap (λ b. cond b (Some p.number) (key_holder left key)) s ∙ later h
              ∙ sym (ap (λ b. option_map (λ (p : Peer). p.number) (cond b (Some p) (peer_of left i))) (less p.number i (holder_above p.number peers key i below h)))
          | false ↦ later h
        ]

-- ---- who owns an address

-- where at most one item passes a test, one that is kept does if any does, and none that isn't kept
one_of : {X : Type 0} (q k : X → Bool) (xs : List X) → AllPairs (λ x y. q x ≡ true → q y ≡ false) xs → list_any q (filter k xs) ≡ (list_any q xs && not (list_any q (filter (λ x. not (k x)) xs)))
one_of q k [] pairs = refl
one_of {X} q k (x ∷ xs) pairs = by (q x) refl (one_of q k xs (AllPairs-tail (λ x y. q x ≡ true → q y ≡ false) x xs pairs))
  where
    stay : List X
    stay = filter k xs

    go : List X
    go = filter (λ x. not (k x)) xs

    Goal : Bool → Type 0
    Goal b = list_any q (cond b (x ∷ stay) stay) ≡ ((q x || list_any q xs) && not (list_any q (cond (not b) (x ∷ go) go)))

    by : (b : Bool) → q x ≡ b → list_any q stay ≡ (list_any q xs && not (list_any q go)) → Goal (k x)
    by true s rest =
        let none : list_any q xs ≡ false = list_any_none q xs (λ i d l. AllPairs-head (λ x y. q x ≡ true → q y ≡ false) x xs pairs i d l s) in
        let none_go = list_any-filter_none q (λ x. not (k x)) xs none in
        let none_stay = list_any-filter_none q k xs none in
        elim (k x) as (λ b. Goal b) [
          | true ↦ ap (λ b. b || list_any q stay) s ∙ sym (ap (λ b. (b || list_any q xs) && not (list_any q go)) s ∙ ap not none_go)
          | false ↦ none_stay ∙ sym (ap (λ b. (b || list_any q xs) && not (b || list_any q go)) s)
        ]
    by false s rest =
        elim (k x) as (λ b. Goal b) [
          | true ↦ ap (λ b. b || list_any q stay) s ∙ rest ∙ sym (ap (λ b. (b || list_any q xs) && not (list_any q go)) s)
          | false ↦ rest ∙ sym (ap (λ b. (b || list_any q xs) && not (b || list_any q go)) s)
        ]

any_map : {X Y : Type 0} (f : X → Y) (q : Y → Bool) (xs : List X) → list_any q (map f xs) ≡ list_any (λ x. q (f x)) xs
any_map f q [] = refl
any_map f q (x ∷ xs) = ap (λ b. q (f x) || b) (any_map f q xs)

pub own_live : (now : ℕ) (peers : List Peer) (a : AddrValue) → AreApart peers → AreAlone peers
    → is_own (filter (is_live now) peers) a ≡ (is_own peers a && not (list_any (λ b. same_address b a) (expired_addresses now peers)))
own_live now peers a apart alone =
    let over = filter (λ (p : Peer). not (is_live now p)) peers in
    one_of (λ (p : Peer). is_at p a) (is_live now) peers (one_at peers a apart)
    ∙ ap (λ b. is_own peers a && not b) (own_alone over a (All-filter (λ (p : Peer). not (is_live now p)) (λ p. p.second ≡ None) peers alone) ∙ sym (any_map (λ (p : Peer). p.address) (λ b. same_address b a) over))

-- who owns an address among those that are kept owns it among all
pub match_kept : (keeps : Peer → Bool) (peers : List Peer) (a : AddrValue) → AreApart peers → AreAlone peers → is_own (filter keeps peers) a ≡ true
    → longest_match (own_prefixes (filter keeps peers)) a ≡ longest_match (own_prefixes peers) a
match_kept keeps [] a apart alone h = refl
match_kept keeps (p ∷ peers) a apart alone h = by (is_at p a) refl (λ rest. match_kept keeps peers a (AllPairs-tail IsApart p peers apart) (All-tail (λ p. p.second ≡ None) p peers alone) rest)
  where
    left : List Peer
    left = filter keeps peers

    Goal : Bool → Type 0
    Goal b = is_own (cond b (p ∷ left) left) a ≡ true → longest_match (own_prefixes (cond b (p ∷ left) left)) a ≡ longest_match (own_prefixes (p ∷ peers)) a

    at_first : (b : Bool) → is_at p a ≡ b → same_address p.address a ≡ b
    at_first b s = sym (at_alone p a (All-head (λ p. p.second ≡ None) p peers alone)) ∙ s

    by : (b : Bool) → is_at p a ≡ b → (is_own left a ≡ true → longest_match (own_prefixes left) a ≡ longest_match (own_prefixes peers) a)
        → longest_match (own_prefixes (cond (keeps p) (p ∷ left) left)) a ≡ longest_match (own_prefixes (p ∷ peers)) a
    by true s later =
        let none : is_own peers a ≡ false = list_any_none (λ (r : Peer). is_at r a) peers (λ i d l. apart_at p (get_or peers i d) a (AllPairs-head IsApart p peers apart i d l) s) in
        let none_left = list_any-filter_none (λ (r : Peer). is_at r a) keeps peers none in
        (elim (keeps p) as (λ b. Goal b) [
          | true ↦ (λ own. own_here p left a (at_first true s) ∙ sym (own_here p peers a (at_first true s)))
          | false ↦ (λ own. let bad : false ≡ true = sym none_left ∙ own in cc)
        ]) h
    by false s later =
        (elim (keeps p) as (λ b. Goal b) [
          | true ↦ (λ own. own_skip p left a (at_first false s) ∙ later (sym (ap (λ b. b || is_own left a) s) ∙ own) ∙ sym (own_skip p peers a (at_first false s)))
          | false ↦ (λ own. later own ∙ sym (own_skip p peers a (at_first false s)))
        ]) h

-- ---- how many are live

pub live_count : (now : ℕ) (peers : List Peer) (given_up : List AddrValue) → given_up ≡ expired_addresses now peers → length (filter (is_live now) peers) + length given_up ≡ length peers
live_count now peers given_up is =
    let size = ap length is ∙ length-map (filter (λ (p : Peer). not (is_live now p)) peers) (λ (p : Peer). p.address) in
    let both = length-filter_both (is_live now) (λ (p : Peer). not (is_live now p)) (λ p. refl) peers in omega (arith, size, both)

-- ---- routes

-- a prefix leads nowhere where it led to a peer that is over, or nowhere
pub route_out : (n : NetworkValue) (now : ℕ) (p : PrefixValue) → IsNetwork n → ((i : ℕ) → route_of n.routes p ≡ Some i → is_some (peer_of (live_at n now).peers i) ≡ true → ⊥) → route_of (live_at n now).routes p ≡ None
route_out n now p is none = by (route_of (live_at n now).routes p) refl
  where
    by : (o : Option ℕ) → route_of (live_at n now).routes p ≡ o → route_of (live_at n now).routes p ≡ None
    by None e = e
    by (Some i) e = let both = (live_routes n now i p is).0 e in absurd (none i both.0 both.1)

pub route_over : (n : NetworkValue) (now : ℕ) (p : PrefixValue) (i : ℕ) → IsNetwork n → route_of n.routes p ≡ Some i → peer_of (live_at n now).peers i ≡ None → route_of (live_at n now).routes p ≡ None
route_over n now p i is led gone = route_out n now p is (λ j other stands.
    let some : Some j ≡ Some i = sym other ∙ led in
    let same : j ≡ i = cc in
    let bad : true ≡ false = sym stands ∙ ap (λ (k : ℕ). is_some (peer_of (live_at n now).peers k)) same ∙ ap is_some gone in cc)

pub not_full : (all live : ℕ) → live ≤ all → all < 4096 → nat_le 4096 all ≡ not (nat_lt live 4096)
not_full all live l few = grind (arith, nat_tests)

-- the routes to one number, among those to numbers that pass
pub routes_led : (passes : ℕ → Bool) (routes : Routes) (i : ℕ) → passes i ≡ true → filter (λ r. nat_eq r.1 i) (filter (λ r. passes r.1) routes) ≡ filter (λ r. nat_eq r.1 i) routes
routes_led passes routes i h = sym (filter_twice (λ (r : PrefixValue × ℕ). passes r.1) (λ r. nat_eq r.1 i) (λ r. nat_eq r.1 i) (λ r. both r.1 (nat_eq r.1 i) refl) routes)
  where
    both : (m : ℕ) (b : Bool) → nat_eq m i ≡ b → b ≡ (passes m && b)
    both m true e = sym (ap (λ c. c && true) (ap passes (nat_eq_is m i e) ∙ h))
    both m false e = sym (last (passes m))
      where
        last : (c : Bool) → (c && false) ≡ false
        last true = refl
        last false = refl

pub routes_not_led : (passes : ℕ → Bool) (routes : Routes) (i : ℕ) → passes i ≡ false → filter (λ r. nat_eq r.1 i) (filter (λ r. passes r.1) routes) ≡ []
routes_not_led passes routes i h =
    sym (filter_twice (λ (r : PrefixValue × ℕ). passes r.1) (λ r. nat_eq r.1 i) (λ r. false) (λ r. neither r.1 (nat_eq r.1 i) refl) routes)
    ∙ filter_none (λ (r : PrefixValue × ℕ). false) routes (λ k d l. refl)
  where
    neither : (m : ℕ) (b : Bool) → nat_eq m i ≡ b → false ≡ (passes m && b)
    neither m true e = sym (ap (λ c. c && true) (ap passes (nat_eq_is m i e) ∙ h))
    neither m false e = sym (last (passes m))
      where
        last : (c : Bool) → (c && false) ≡ false
        last true = refl
        last false = refl
