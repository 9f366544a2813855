-- The live network keeps the rules, and is what removing the expired peers leaves.
use Rattle.std.proofs.Common.{◌≡◌, ℕ, ◌+◌, ◌<◌, ◌≤◌, inl, inr, Bool, true, false, not, ◌||◌, cond, nat_eq, List, [], ◌∷◌, get_or, map, Some, None, is_some, refl, sym, ap, ◌∙◌, arith}
use Rattle.std.specs.List.{All, filter}
use Rattle.std.proofs.lemmas.Bool.Decides.{nat_tests}
use Rattle.std.proofs.lemmas.List.Elements.{All-cons, All-head, All-weaker}
use Rattle.wgr_text.specs.Prefix.{PrefixValue}
use Rattle.wgr_peers.specs.declared.peer.Peer.{Peer}
use Rattle.wgr_peers.specs.Peers.{is_live, expired, peer_of, AreNumbered}
use Rattle.wgr_peers.specs.Routes.{Routes}
use Rattle.wgr_core.specs.Network.{NetworkValue, IsNetwork, is_among, live_at, without_peers}
use Rattle.wgr_pool.proofs.Lists.{AllPairs-head, AllPairs-tail, filter_agree_on}
use Rattle.wgr_pool.proofs.Bools.{decide}
use Rattle.wgr_core.proofs.KeptLemmas.{kept_is_network}

-- ---- the live network keeps the rules

pub live_is_network : (n : NetworkValue) (now : ℕ) → IsNetwork n → IsNetwork (live_at n now)
live_is_network n now is = kept_is_network n (is_live now) (λ r. is_some (peer_of (filter (is_live now) n.peers) r.1)) is (λ r stands leads. leads)

-- ---- removing the expired peers by number leaves the live network

-- the numbers rise, from `floor` on
abbrev NumberedFrom : ℕ → List Peer → Type 0
NumberedFrom floor [] = Unit {0}
NumberedFrom floor (p ∷ peers) = (floor ≤ p.number) × NumberedFrom (p.number + 1) peers

numbered_from : (floor : ℕ) (peers : List Peer) → AreNumbered peers → All (λ p. floor ≤ p.number) peers → NumberedFrom floor peers
numbered_from floor [] pairs low = tt
numbered_from floor (p ∷ peers) pairs low =
    let next = AllPairs-head (λ p q. p.number < q.number) p peers pairs in
    (All-head (λ p. floor ≤ p.number) p peers low, numbered_from (p.number + 1) peers (AllPairs-tail (λ p q. p.number < q.number) p peers pairs) (λ k d h. omega (arith, next k d h)))

low_not_expired : (now floor i : ℕ) (peers : List Peer) → NumberedFrom floor peers → i < floor → is_among (expired now peers) i ≡ false
low_not_expired now floor i [] r h = refl
low_not_expired now floor i (p ∷ peers) r h =
    let more = low_not_expired now (p.number + 1) i peers r.1 (omega (arith, r.0, h)) in
    let apart : nat_eq i p.number ≡ false = grind (arith, nat_tests) in
    elim (is_live now p) as (λ b. is_among (map (λ (p : Peer). p.number) (cond (not b) (p ∷ filter (λ p. not (is_live now p)) peers) (filter (λ p. not (is_live now p)) peers))) i ≡ false) [
      | true ↦ more
      | false ↦ ap (λ b. b || is_among (expired now peers) i) apart ∙ more
    ]

low_not_there : (floor i : ℕ) (peers : List Peer) → NumberedFrom floor peers → i < floor → peer_of peers i ≡ None
low_not_there floor i [] r h = refl
low_not_there floor i (p ∷ peers) r h =
    let apart : nat_eq p.number i ≡ false = grind (arith, nat_tests) in
    ap (λ b. cond b (Some p) (peer_of peers i)) apart ∙ low_not_there (p.number + 1) i peers r.1 (omega (arith, r.0, h))

filter_numbered : (keeps : Peer → Bool) (floor : ℕ) (peers : List Peer) → NumberedFrom floor peers → NumberedFrom floor (filter keeps peers)
filter_numbered keeps floor [] r = tt
filter_numbered keeps floor (p ∷ peers) r =
    elim (keeps p) as (λ b. NumberedFrom floor (cond b (p ∷ filter keeps peers) (filter keeps peers))) [
      | true ↦ (r.0, filter_numbered keeps (p.number + 1) peers r.1)
      | false ↦ lower (p.number + 1) floor (filter keeps peers) (omega (arith, r.0)) (filter_numbered keeps (p.number + 1) peers r.1)
    ]
  where
    lower : (high low : ℕ) (peers : List Peer) → low ≤ high → NumberedFrom high peers → NumberedFrom low peers
    lower high low [] l r = tt
    lower high low (p ∷ peers) l r = (omega (arith, l, r.0), r.1)

-- a peer of the network is live or expired
live_or_expired : (now floor i : ℕ) (peers : List Peer) → NumberedFrom floor peers → is_some (peer_of peers i) ≡ true
    → not (is_among (expired now peers) i) ≡ is_some (peer_of (filter (is_live now) peers) i)
live_or_expired now floor i [] r h = cc
live_or_expired now floor i (p ∷ peers) r h =
    let live = filter (is_live now) peers in
    let over = filter (λ p. not (is_live now p)) peers in
    elim (decide (nat_eq p.number i)) [
      | inl here ↦
          let i_is : p.number ≡ i = grind (arith, nat_tests) in
          let here' : nat_eq i p.number ≡ true = grind (arith, nat_tests) in
          let not_over : is_among (expired now peers) i ≡ false = low_not_expired now (p.number + 1) i peers r.1 (omega (arith, i_is)) in
          let not_live : peer_of live i ≡ None = low_not_there (p.number + 1) i live (filter_numbered (is_live now) (p.number + 1) peers r.1) (omega (arith, i_is)) in
          elim (is_live now p) as (λ b. not (is_among (map (λ (p : Peer). p.number) (cond (not b) (p ∷ over) over)) i) ≡ is_some (peer_of (cond b (p ∷ live) live) i)) [
            | true ↦ ap not not_over ∙ sym (ap (λ b. is_some (cond b (Some p) (peer_of live i))) here)
            | false ↦ ap (λ b. not (b || is_among (expired now peers) i)) here' ∙ sym (ap is_some not_live)
          ]
      | inr apart ↦
          let there : is_some (peer_of peers i) ≡ true = sym (ap (λ b. is_some (cond b (Some p) (peer_of peers i))) apart) ∙ h in
          let more = live_or_expired now (p.number + 1) i peers r.1 there in
          let apart' : nat_eq i p.number ≡ false = grind (arith, nat_tests) in
          elim (is_live now p) as (λ b. not (is_among (map (λ (p : Peer). p.number) (cond (not b) (p ∷ over) over)) i) ≡ is_some (peer_of (cond b (p ∷ live) live) i)) [
            | true ↦ more ∙ sym (ap (λ b. is_some (cond b (Some p) (peer_of live i))) apart)
            | false ↦ ap (λ b. not (b || is_among (expired now peers) i)) apart' ∙ more
          ]
    ]

-- each peer stands at its number
pub peer_stands : (peers : List Peer) → All (λ p. is_some (peer_of peers p.number) ≡ true) peers
peer_stands [] = λ k d h. absurd (omega (arith, h))
peer_stands (p ∷ peers) =
    let self : nat_eq p.number p.number ≡ true = grind (arith, nat_tests) in
    let rest = peer_stands peers in
    All-cons (λ q. is_some (peer_of (p ∷ peers) q.number) ≡ true) p peers
    (ap (λ b. is_some (cond b (Some p) (peer_of peers p.number))) self)
    (All-weaker (λ q. is_some (peer_of peers q.number) ≡ true) (λ q. is_some (peer_of (p ∷ peers) q.number) ≡ true) (λ q h. still p peers q.number h) peers rest)
  where
    still : (p : Peer) (peers : List Peer) (i : ℕ) → is_some (peer_of peers i) ≡ true → is_some (peer_of (p ∷ peers) i) ≡ true
    still p peers i h = elim (nat_eq p.number i) as (λ b. is_some (cond b (Some p) (peer_of peers i)) ≡ true) [ true ↦ refl | false ↦ h ]

-- the live peers, by their numbers
pub live_by_number : (now : ℕ) (peers : List Peer) → AreNumbered peers → All (λ p. is_some (peer_of (filter (is_live now) peers) p.number) ≡ is_live now p) peers
live_by_number now [] pairs = λ k d h. absurd (omega (arith, h))
live_by_number now (p ∷ peers) pairs =
    let above = AllPairs-head (λ p q. p.number < q.number) p peers pairs in
    let rest = live_by_number now peers (AllPairs-tail (λ p q. p.number < q.number) p peers pairs) in
    let live = filter (is_live now) peers in
    let from = numbered_from (p.number + 1) peers (AllPairs-tail (λ p q. p.number < q.number) p peers pairs) (λ k d h. omega (arith, above k d h)) in
    let gone : peer_of live p.number ≡ None = low_not_there (p.number + 1) p.number live (filter_numbered (is_live now) (p.number + 1) peers from) (omega arith) in
    let self : nat_eq p.number p.number ≡ true = grind (arith, nat_tests) in
    All-cons (λ q. is_some (peer_of (filter (is_live now) (p ∷ peers)) q.number) ≡ is_live now q) p peers
    (elim (is_live now p) as (λ b. is_some (peer_of (cond b (p ∷ live) live) p.number) ≡ b) [
      | true ↦ ap (λ b. is_some (cond b (Some p) (peer_of live p.number))) self
      | false ↦ ap is_some gone
    ])
    (λ k d h.
    let apart : nat_eq p.number (get_or peers k d).number ≡ false = other p.number (get_or peers k d).number (above k d h) in
    elim (is_live now p) as (λ b. is_some (peer_of (cond b (p ∷ live) live) (get_or peers k d).number) ≡ is_live now (get_or peers k d)) [
      | true ↦ ap (λ b. is_some (cond b (Some p) (peer_of live (get_or peers k d).number))) apart ∙ rest k d h
      | false ↦ rest k d h
    ])
  where
    other : (m n : ℕ) → m < n → nat_eq m n ≡ false
    other m n h = grind (arith, nat_tests)

pub without_expired : (n : NetworkValue) (now : ℕ) → IsNetwork n → without_peers n (expired now n.peers) ≡ live_at n now
without_expired n now is =
    let from = numbered_from 0 n.peers is.numbered (λ k d h. omega arith) in
    let stands = peer_stands n.peers in
    let lives = live_by_number now n.peers is.numbered in
    let peers = filter_agree_on (λ (p : Peer). not (is_among (expired now n.peers) p.number)) (is_live now) n.peers
    (λ k d h. live_or_expired now 0 (get_or n.peers k d).number n.peers from (stands k d h) ∙ lives k d h) in
    let routes = filter_agree_on (λ (r : PrefixValue × ℕ). not (is_among (expired now n.peers) r.1)) (λ r. is_some (peer_of (filter (is_live now) n.peers) r.1)) n.routes
    (λ k d h. live_or_expired now 0 (get_or n.routes k d).1 n.peers from (is.routes k d h).leads) in
    ap (λ ps. record n { peers = ps; routes = filter (λ (r : PrefixValue × ℕ). not (is_among (expired now n.peers) r.1)) n.routes }) peers
    ∙ ap (λ rs. record n { peers = filter (is_live now) n.peers; routes = rs }) routes

-- the live network, by its parts
pub live_is : (n : NetworkValue) (now next : ℕ) (peers : List Peer) (routes : Routes)
    → next ≡ n.next → peers ≡ filter (is_live now) n.peers → routes ≡ filter (λ r. is_some (peer_of peers r.1)) n.routes
    → record n { next = next; peers = peers; routes = routes } ≡ live_at n now
live_is n now next peers routes same_next same_peers same_routes =
    ap (λ (rs : Routes). record n { next = next; peers = peers; routes = rs }) same_routes
    ∙ ap (λ (ps : List Peer). record n { next = next; peers = ps; routes = filter (λ (r : PrefixValue × ℕ). is_some (peer_of ps r.1)) n.routes }) same_peers
    ∙ ap (λ (m : ℕ). record n { next = m; peers = filter (is_live now) n.peers; routes = filter (λ (r : PrefixValue × ℕ). is_some (peer_of (filter (is_live now) n.peers) r.1)) n.routes }) same_next
