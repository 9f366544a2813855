-- Addresses below which none is free.
use Rattle.std.proofs.Common.{◌≡◌, ℕ, ◌+◌, ◌-◌, ◌<◌, ◌≤◌, inl, inr, Bool, true, false, not, ◌&&◌, ◌||◌, nat_lt, List, [], ◌∷◌, ◌++◌, get_or, Some, sym, ap, ◌∙◌, subst, arith, refl, true≢false}
use Rattle.std.specs.List.{All, filter, list_any}
use Rattle.std.proofs.lemmas.Bool.{cases_lt}
use Rattle.std.proofs.lemmas.Bool.Decides.{nat_tests}
use Rattle.std.proofs.lemmas.List.Elements.{All-cons, All-head, All-tail}
use Rattle.std.proofs.lemmas.List.Folds.{list_any-append}
use Rattle.wgr_text.specs.Prefix.{AddrValue, PrefixValue, IsAddr, IsPrefix, block}
use Rattle.wgr_text.proofs.Spans.{is_in_iff}
use Rattle.wgr_pool.specs.Allot.{is_assignable}
use Rattle.wgr_pool.specs.PrefixTests.{covers, has, same_address}
use Rattle.wgr_pool.specs.Pool.{IsPool, reserved}
use Rattle.wgr_pool.proofs.Bools.{and_true, or_cases, or_false, or_left, or_right}
use Rattle.wgr_pool.proofs.PrefixLemmas.{has_in, is_in}
use Rattle.wgr_peers.specs.declared.peer.Peer.{Peer}
use Rattle.wgr_peers.specs.Peers.{is_at, is_own}
use Rattle.wgr_peers.specs.PeerIndex.{EndsFrom}
use Rattle.wgr_peers.specs.Routes.{Routes}
use Rattle.wgr_peers.proofs.TableLemmas.{none_expired}
use Rattle.wgr_core.specs.Network.{IsNetwork, NetworkValue, is_held, live_at, lowest_free, without_peers}
use Rattle.wgr_core.proofs.JoinLemmas.{lowest_is_free}
use Rattle.wgr_core.proofs.LiveLemmas.{without_expired}
use Rattle.wgr_laws.proofs.LowestLemmas.{lowest_is_least}
use Rattle.wgr_outline.specs.Outline.{EndsBelow, IsFloor}

-- below the number 0 there is no address
pub from_zero : (n : NetworkValue) → IsFloor n 0
from_zero n = record { held = λ a given low. absurd (omega (arith, low)); routes = λ k d h c low. absurd (omega (arith, low)) }

-- ---- the lowest free address

module _ (pool : PrefixValue) (a : AddrValue) (same : a.family ≡ pool.address.family) where
  abbrev in_route : PrefixValue × ℕ → Bool
  in_route r = covers pool r.0 && has r.0 a

  -- a route in the pool that doesn't have the address is on one side of it
  one_side : (r : PrefixValue × ℕ) → IsPrefix r.0 → in_route r ≡ false → EndsBelow pool a.number r
  one_side r is out c low =
      let end = r.0.address.number + block r.0.address.family r.0.length in
      elim (cases_lt a.number end) [
        | inl inside ↦
            let family : r.0.address.family ≡ pool.address.family = (is_in pool r.0.address (and_true (not (nat_lt r.0.length pool.length)) (has pool r.0.address) c).1).0 in
            let here : has r.0 a ≡ true = has_in r.0 a ((is_in_iff r.0 is a).1 (same ∙ sym family, omega (arith, low), inside)) in
            absurd (true≢false (sym (ap (λ b. b && has r.0 a) c ∙ here) ∙ out))
        | inr after ↦ after
      ]

  each_one_side : (routes : Routes) → All (λ r. IsAddr r.0.address × IsPrefix r.0) routes → list_any in_route routes ≡ false → All (EndsBelow pool a.number) routes
  each_one_side [] masked out = λ k d h. absurd (omega (arith, h))
  each_one_side (r ∷ routes) masked out =
      let both = or_false (in_route r) (list_any in_route routes) out in
      All-cons (EndsBelow pool a.number) r routes
      (one_side r (All-head (λ r. IsAddr r.0.address × IsPrefix r.0) r routes masked).1 both.0)
      (each_one_side routes (All-tail (λ r. IsAddr r.0.address × IsPrefix r.0) r routes masked) both.1)

-- an address that the pool may give is of its family, and no lower than its first
pub given_above : (pool : PrefixValue) (a : AddrValue) → is_assignable pool a ≡ true → (a.family ≡ pool.address.family) × (pool.address.number ≤ a.number)
given_above pool a given =
    let both = and_true (has pool a && not (nat_lt a.number (pool.address.number + 2))) (nat_lt a.number (pool.address.number + block pool.address.family pool.length - reserved pool.address.family)) given in
    let two = and_true (has pool a) (not (nat_lt a.number (pool.address.number + 2))) both.0 in
    ((is_in pool a two.0).0, above a.number pool.address.number two.1)
  where
    above : (m n : ℕ) → not (nat_lt m (n + 2)) ≡ true → n ≤ m
    above m n h = grind (arith, nat_tests)

pub lowest_is_floor : (n : NetworkValue) → IsNetwork n → (a : AddrValue) → lowest_free n n.pool ≡ Some a → IsFloor n a.number
lowest_is_floor n is a lowest =
    let free = lowest_is_free n a lowest in
    record {
      held = λ b given low.
          let place = given_above n.pool b given in
          let same : record n.pool.address { number = b.number } ≡ b = λ i. record { family = sym place.0 i; number = b.number } in
          subst (λ (x : AddrValue). is_held n n.pool x ≡ true) same (lowest_is_least n a b.number lowest place.1 low (subst (λ (x : AddrValue). is_assignable n.pool x ≡ true) (sym same) given));
      routes = each_one_side n.pool a (given_above n.pool a free.0).0 n.routes (λ k d h. (is.routes k d h).masked) (or_false (is_own n.peers a) (list_any (λ r. covers n.pool r.0 && has r.0 a) n.routes) free.1).1;
    }

-- below a pool's first address there is none of it
pub from_pool : (n : NetworkValue) → IsPool n.pool → IsFloor n n.pool.address.number
from_pool n is = record {
  held = λ a given low. let place = given_above n.pool a given in absurd (omega (arith, place.1, low));
  routes = λ k d h c low.
      let r = get_or n.routes k d in
      let place = (is_in_iff n.pool is.1 r.0.address).0 (is_in n.pool r.0.address (and_true (not (nat_lt r.0.length n.pool.length)) (has n.pool r.0.address) c).1) in
      absurd (omega (arith, place.1, low));
}

-- ---- one more peer

pub joined_floor : (n : NetworkValue) (next : ℕ) (p : Peer) (floor : ℕ) → IsFloor n floor → IsFloor (record n { next = next; peers = n.peers ++ p ∷ [] }) floor
joined_floor n next p floor is = record {
  held = λ a given low.
      let routed = list_any (λ r. covers n.pool r.0 && has r.0 a) n.routes in
      let parts = list_any-append (λ (q : Peer). is_at q a) n.peers (p ∷ []) in
      let more = list_any (λ (q : Peer). is_at q a) (p ∷ []) in
      ap (λ b. b || routed) parts
      ∙ elim (or_cases (is_own n.peers a) routed (is.held a given low)) [
        | inl own ↦ or_left (is_own n.peers a || more) routed (or_left (is_own n.peers a) more own)
        | inr lies ↦ or_right (is_own n.peers a || more) routed lies
      ];
  routes = is.routes;
}

-- ---- while no lease has ended

filter_all : {X : Type 0} (xs : List X) → filter (λ (x : X). true) xs ≡ xs
filter_all [] = refl
filter_all (x ∷ xs) = ap (λ l. x ∷ l) (filter_all xs)

without_none : (n : NetworkValue) → without_peers n [] ≡ n
without_none n = λ i. record n { peers = filter_all n.peers i; routes = filter_all n.routes i }

pub all_live : (n : NetworkValue) (now end : ℕ) → IsNetwork n → All (EndsFrom end) n.peers → now < end → live_at n now ≡ n
all_live n now end is ends early =
    sym (without_expired n now is) ∙ ap (without_peers n) (none_expired end now n.peers early ends).0 ∙ without_none n
