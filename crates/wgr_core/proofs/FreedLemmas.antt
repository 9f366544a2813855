-- The lowest free address, as peers give up theirs.
use Rattle.std.proofs.Common.{◌≡◌, ℕ, suc, ◌+◌, ◌-◌, ◌<◌, ◌≤◌, inl, inr, Bool, true, false, not, ◌&&◌, ◌||◌, cond, nat_lt, List, [], ◌∷◌, ◌++◌, get_or, map, take, length, Some, refl, sym, ap, ◌∙◌, subst, arith}
use Rattle.std.specs.List.{All, filter, list_any}
use Rattle.std.proofs.Math.Seq.{take-suc}
use Rattle.std.proofs.lemmas.Bool.Decides.{nat_tests}
use Rattle.std.proofs.lemmas.List.Elements.{All-cons, All-filter, All-head, All-tail}
use Rattle.std.proofs.lemmas.List.Folds.{list_any-append}
use Rattle.wgr_text.specs.Prefix.{AddrValue, PrefixValue, block}
use Rattle.wgr_peers.specs.declared.peer.Peer.{Peer}
use Rattle.wgr_pool.specs.PrefixTests.{same_address, has}
use Rattle.wgr_pool.specs.Pool.{reserved}
use Rattle.wgr_pool.specs.Allot.{is_assignable, lower, lowest_where}
use Rattle.wgr_pool.specs.HeldSpans.{is_routed, standing}
use Rattle.wgr_peers.specs.Peers.{is_live, is_own, expired, expired_addresses, peer_of, is_first}
use Rattle.wgr_peers.specs.Routes.{Routes}
use Rattle.wgr_core.specs.Network.{NetworkValue, IsNetwork, is_among, live_at, lowest_free, AreAlone}
use Rattle.wgr_core.specs.Outcome.{vacated}
use Rattle.wgr_pool.proofs.Bools.{decide, and_true, or_right}
use Rattle.wgr_pool.proofs.PrefixLemmas.{same_address_is, same_address_self, same_family_is}
use Rattle.wgr_core.proofs.AloneLemmas.{members_alone, own_alone}
use Rattle.wgr_core.proofs.MoveLemmas.{first_agrees, first_with_any, lowest_where_routed, lowest_where_unrouted}
use Rattle.wgr_core.proofs.ApplyLemmas.{kept_routes}
use Rattle.wgr_core.proofs.LiveLemmas.{without_expired}
use Rattle.wgr_core.proofs.LiveLooks.{own_live}

-- whether a peer has the address that hasn't given it up, or a route
abbrev pub held_but : List AddrValue → PrefixValue → List Peer → Routes → AddrValue → Bool
held_but gone pool peers routes a = (is_own peers a && not (list_any (λ b. same_address b a) gone)) || is_routed pool routes a

one_more : (gone : List AddrValue) (x a : AddrValue) → list_any (λ b. same_address b a) (gone ++ x ∷ []) ≡ (list_any (λ b. same_address b a) gone || same_address x a)
one_more gone x a = list_any-append (λ b. same_address b a) gone (x ∷ []) ∙ ap (λ b. list_any (λ b. same_address b a) gone || b) (last (same_address x a))
  where
    last : (b : Bool) → (b || false) ≡ b
    last true = refl
    last false = refl

-- where nobody has given an address up
pub none_given : (pool : PrefixValue) (peers : List Peer) (routes : Routes) → lowest_where pool (λ a. is_own peers a || is_routed pool routes a) ≡ lowest_where pool (held_but [] pool peers routes)
none_given pool peers routes =
    first_agrees pool.address.family _ _ pool.address.number (block pool.address.family pool.length) (λ a. ap (λ b. is_assignable pool a && not (b || is_routed pool routes a)) (sym (all (is_own peers a))))
  where
    all : (b : Bool) → (b && true) ≡ b
    all true = refl
    all false = refl

-- one more that gives its address up
pub one_given : (gone : List AddrValue) (x : AddrValue) (pool : PrefixValue) (peers : List Peer) (routes : Routes) → is_assignable pool x ≡ true
    → lowest_where pool (held_but (gone ++ x ∷ []) pool peers routes) ≡ cond (is_routed pool routes x) (lowest_where pool (held_but gone pool peers routes)) (Some (lower (lowest_where pool (held_but gone pool peers routes)) x))
one_given gone x pool peers routes given = by (is_routed pool routes x) refl
  where
    less : AddrValue → Bool
    less a = held_but (gone ++ x ∷ []) pool peers routes a

    before : AddrValue → Bool
    before a = held_but gone pool peers routes a

    elsewhere : (a : AddrValue) → same_address x a ≡ false → less a ≡ before a
    elsewhere a s = ap (λ b. (is_own peers a && not b) || is_routed pool routes a) (one_more gone x a ∙ ap (λ b. list_any (λ b. same_address b a) gone || b) s ∙ last (list_any (λ b. same_address b a) gone))
      where
        last : (b : Bool) → (b || false) ≡ b
        last true = refl
        last false = refl

    freed : is_routed pool routes x ≡ false → less x ≡ false
    freed r =
        ap (λ b. (is_own peers x && not b) || is_routed pool routes x) (one_more gone x x ∙ ap (λ b. list_any (λ b. same_address b x) gone || b) (same_address_self x) ∙ or_right (list_any (λ b. same_address b x) gone) true refl)
        ∙ ap (λ b. (is_own peers x && false) || b) r ∙ none (is_own peers x)
      where
        none : (b : Bool) → ((b && false) || false) ≡ false
        none true = refl
        none false = refl

    parts : (has pool x && not (nat_lt x.number (pool.address.number + 2)) ≡ true) × (nat_lt x.number (pool.address.number + block pool.address.family pool.length - reserved pool.address.family) ≡ true)
    parts = and_true _ _ given

    within_from : (a s : ℕ) → not (nat_lt a (s + 2)) ≡ true → s ≤ a
    within_from a s h = grind (arith, nat_tests)

    within_to : (a s size last : ℕ) → nat_lt a (s + size - last) ≡ true → a < s + size
    within_to a s size last h = grind (arith, nat_tests)

    by : (b : Bool) → is_routed pool routes x ≡ b → lowest_where pool less ≡ cond b (lowest_where pool before) (Some (lower (lowest_where pool before) x))
    by true r = first_agrees pool.address.family _ _ pool.address.number (block pool.address.family pool.length) (λ a. ap (λ b. is_assignable pool a && not b) (elim (decide (same_address x a)) [
      | inr s ↦ elsewhere a s
      | inl s ↦
          let here : is_routed pool routes a ≡ true = subst (λ y. is_routed pool routes y ≡ true) (same_address_is x a s) r in
          or_right (is_own peers a && not (list_any (λ b. same_address b a) (gone ++ x ∷ []))) (is_routed pool routes a) here
          ∙ sym (or_right (is_own peers a && not (list_any (λ b. same_address b a) gone)) (is_routed pool routes a) here)
    ]))
    by false r =
        first_with_any pool.address.family (λ a. is_assignable pool a && not (before a)) (λ a. is_assignable pool a && not (less a)) x pool.address.number (block pool.address.family pool.length)
        (same_family_is pool.address.family x.family (and_true _ _ (and_true _ _ parts.0).0).0)
        (within_from x.number pool.address.number (and_true (has pool x) _ parts.0).1)
        (within_to x.number pool.address.number (block pool.address.family pool.length) (reserved pool.address.family) parts.1)
        (ap (λ b. b && not (less x)) given ∙ ap not (freed r))
        (λ a s. ap (λ b. is_assignable pool a && not b) (elsewhere a s))

-- where all that are over have given theirs up, the live network is left
pub all_given : (n : NetworkValue) (now : ℕ) (given_up : List AddrValue) → IsNetwork n → given_up ≡ expired_addresses now n.peers
    → lowest_where n.pool (held_but given_up n.pool n.peers (live_at n now).routes) ≡ lowest_free (live_at n now) n.pool
all_given n now given_up is same =
    first_agrees n.pool.address.family _ _ n.pool.address.number (block n.pool.address.family n.pool.length)
    (λ a. ap (λ b. is_assignable n.pool a && not (b || is_routed n.pool (live_at n now).routes a)) (ap (λ ys. is_own n.peers a && not (list_any (λ b. same_address b a) ys)) same ∙ sym (own_live now n.peers a is.apart (members_alone n is))))

-- each that is given up is one that the pool may give
pub given_assignable : (n : NetworkValue) (now : ℕ) (given_up : List AddrValue) → IsNetwork n → given_up ≡ expired_addresses now n.peers → All (λ a. is_assignable n.pool a ≡ true) given_up
given_assignable n now given_up is same =
    subst (All (λ a. is_assignable n.pool a ≡ true)) (sym same)
    (all_map (λ (p : Peer). p.address) (λ a. is_assignable n.pool a ≡ true) (filter (λ p. not (is_live now p)) n.peers)
    (All-filter (λ p. not (is_live now p)) (λ p. is_assignable n.pool p.address ≡ true) n.peers (λ k d l. (is.members k d l).assignable)))
  where
    all_map : (f : Peer → AddrValue) (P : AddrValue → Type 0) (ps : List Peer) → All (λ p. P (f p)) ps → All P (map f ps)
    all_map f P [] all = λ k d l. absurd (omega (arith, l))
    all_map f P (p ∷ ps) all = All-cons P (f p) (map f ps) (All-head (λ p. P (f p)) p ps all) (all_map f P ps (All-tail (λ p. P (f p)) p ps all))

pub given_in_pool : (pool : PrefixValue) (a : AddrValue) → is_assignable pool a ≡ true → has pool a ≡ true
given_in_pool pool a given = (and_true _ _ (and_true _ _ given).0).0

pub take_next : {X : Type 0} (xs : List X) (i : ℕ) (d : X) → i < length xs → take (i + 1) xs ≡ take i xs ++ get_or xs i d ∷ []
take_next xs i d l = let e : suc i ≡ i + 1 = omega arith in subst (λ (k : ℕ). take k xs ≡ take i xs ++ get_or xs i d ∷ []) e (take-suc xs i d l)

-- where nobody that is over has given up an address yet
pub begin_with : (n : NetworkValue) (now : ℕ) (over : ℕ → Bool) → IsNetwork n → ((i : ℕ) → over i ≡ is_among (expired now n.peers) i)
    → lowest_where n.pool (λ a. is_own n.peers a || is_routed n.pool (standing over n.routes) a) ≡ lowest_where n.pool (held_but [] n.pool n.peers (live_at n now).routes)
begin_with n now over is same =
    ap (λ (rs : Routes). lowest_where n.pool (λ a. is_own n.peers a || is_routed n.pool rs a)) (kept_routes (expired now n.peers) over n.routes same ∙ ap (λ (m : NetworkValue). m.routes) (without_expired n now is))
    ∙ none_given n.pool n.peers (live_at n now).routes

-- where each route counts, what is held is what the whole network holds
pub none_over : (n : NetworkValue) (pool : PrefixValue) (over : ℕ → Bool) → ((i : ℕ) → over i ≡ false) → lowest_where pool (λ a. is_own n.peers a || is_routed pool (standing over n.routes) a) ≡ lowest_free n pool
none_over n pool over none = ap (λ (rs : Routes). lowest_where pool (λ a. is_own n.peers a || is_routed pool rs a)) (all n.routes)
  where
    all : (routes : Routes) → standing over routes ≡ routes
    all [] = refl
    all (r ∷ routes) = ap (λ b. cond (not b) (r ∷ standing over routes) (standing over routes)) (none r.1) ∙ ap (λ rs. r ∷ rs) (all routes)

-- a peer that moves gives its address up
pub mover_given : (n : NetworkValue) (p : Peer) → IsNetwork n → peer_of n.peers p.number ≡ Some p
    → cond (is_routed n.pool n.routes p.address) (lowest_free n n.pool) (Some (lower (lowest_free n n.pool) p.address)) ≡ lowest_free (vacated n (Some p.number)) n.pool
mover_given n p is stands = by (is_routed n.pool n.routes p.address) refl
  where
    by : (b : Bool) → is_routed n.pool n.routes p.address ≡ b → cond b (lowest_free n n.pool) (Some (lower (lowest_free n n.pool) p.address)) ≡ lowest_free (vacated n (Some p.number)) n.pool
    by true r = sym (lowest_where_routed n p.number p is stands r)
    by false r = sym (lowest_where_unrouted n p.number p is stands r)

-- the search for a free address passes over first addresses alone
pub free_alone : (n : NetworkValue) (pool : PrefixValue) → AreAlone n.peers → lowest_free n pool ≡ lowest_where pool (λ a. list_any (λ p. is_first p a) n.peers || is_routed pool n.routes a)
free_alone n pool alone =
    first_agrees pool.address.family _ _ pool.address.number (block pool.address.family pool.length) (λ a. ap (λ b. is_assignable pool a && not (b || is_routed pool n.routes a)) (own_alone n.peers a alone))
