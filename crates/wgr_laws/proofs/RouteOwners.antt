-- The owners of addresses after a route comes or goes.
use Rattle.std.proofs.Common.{◌≡◌, ℕ, zero, suc, ◌<◌, ◌≤◌, ◌⊎◌, inl, inr, true, false, not, cond, List, [], ◌∷◌, ◌++◌, length, get_or, Some, None, refl, sym, ap, ◌∙◌, subst, arith}
use Rattle.std.specs.Prelude.{IfOk, option_map}
use Rattle.std.specs.List.{All, Contains}
use Rattle.std.proofs.lemmas.List.Elements.{All-append, All-cons, All-head, All-tail, All-weaker, Contains-append_cases, Contains-append_left, Contains-append_right}
use Rattle.wgr_text.specs.Prefix.{AddrValue, PrefixValue, IsPrefix, width}
use Rattle.wgr_peers.specs.declared.peer.Peer.{Peer}
use Rattle.wgr_core.specs.declared.command.Command.TheVariants as command
use Rattle.wgr_core.specs.declared.reply.Reply.{Reply}
use Rattle.wgr_pool.specs.PrefixTests.{full, has, is_before, same_prefix}
use Rattle.wgr_peers.specs.Peers.{peer_of}
use Rattle.wgr_peers.specs.Routes.{Routes, assign_route, route_of, without_route}
use Rattle.wgr_core.specs.Network.{NetworkValue, IsNetwork, live_at}
use Rattle.wgr_core.specs.Owner.{allowed, longer, longest_match, owner_of, own_prefixes}
use Rattle.wgr_core.specs.Outcome.{route, unroute, outcome_of, IsAsked}
use Rattle.wgr_core.specs.Refusals.{route_refusal}
use Rattle.wgr_laws.specs.Laws.{IsLongestMatch}
use Rattle.wgr_pool.proofs.Bools.{decide}
use Rattle.wgr_pool.proofs.Bridge.{has_iff}
use Rattle.wgr_pool.proofs.PrefixLemmas.{full_has, same_prefix_is}
use Rattle.wgr_core.proofs.LiveLemmas.{live_is_network}
use Rattle.wgr_peers.proofs.OrderedLemmas.{put_all}
use Rattle.wgr_laws.proofs.MatchLemmas.{Contains-here, Contains-later}
use Rattle.wgr_core.proofs.OwnerLemmas.{longest_skip}
use Rattle.wgr_laws.proofs.UniqueMatch.{all_prefixes, longest_owns, own_allowed}
use Rattle.wgr_core.proofs.RoutedKeeps.{routed_is_network}
use Rattle.wgr_core.proofs.OutcomeCases.{unless_if, stands_if, routed_if, kept_if_reading}
use Rattle.wgr_core.proofs.OutcomeLemmas.{may_route}

-- ---- a peer owns its own address

pub own_is_owned : (n : NetworkValue) (p : Peer) → IsNetwork n → Contains n.peers p → owner_of n p.address ≡ Some p.number
own_is_owned n p is there =
    longest_owns n p.address (full p.address, p.number) is
    (record {
      is_allowed = own_allowed n p there;
      has_it = full_has p.address;
      longest = All-weaker (λ (s : PrefixValue × ℕ). IsPrefix s.0) (λ s. has s.0 p.address ≡ true → s.0.length ≤ width p.address.family)
          (λ s masked has_it. let f = ap width ((has_iff s.0 p.address).0 has_it).0 in let l = masked.0 in omega (arith, f, l)) (allowed n) (all_prefixes n is);
    })

-- ---- addresses outside the prefix

behind_own : (own xs ys : Routes) (a : AddrValue) → longest_match xs a ≡ longest_match ys a → longest_match (own ++ xs) a ≡ longest_match (own ++ ys) a
behind_own [] xs ys a same = same
behind_own (r ∷ own) xs ys a same = ap (longer (cond (has r.0 a) (Some r) None)) (behind_own own xs ys a same)

assigned_outside : (routes : Routes) (p : PrefixValue) (number : ℕ) (a : AddrValue) → has p a ≡ false → longest_match (assign_route routes p number) a ≡ longest_match routes a
assigned_outside [] p number a apart = longest_skip (p, number) [] a apart
assigned_outside (r ∷ routes) p number a apart =
    let rest = assign_route routes p number in
    elim (is_before r.0 p) as (λ b. longest_match (cond b (r ∷ rest) (cond (same_prefix r.0 p) ((p, number) ∷ routes) ((p, number) ∷ r ∷ routes))) a ≡ longest_match (r ∷ routes) a) [
      | true ↦ ap (longer (cond (has r.0 a) (Some r) None)) (assigned_outside routes p number a apart)
      | false ↦ elim (decide (same_prefix r.0 p)) [
        | inl same ↦
            let apart' : has r.0 a ≡ false = subst (λ (q : PrefixValue). has q a ≡ false) (sym (same_prefix_is r.0 p same)) apart in
            ap (λ b. longest_match (cond b ((p, number) ∷ routes) ((p, number) ∷ r ∷ routes)) a) same ∙ longest_skip (p, number) routes a apart ∙ sym (longest_skip r routes a apart')
        | inr other ↦ ap (λ b. longest_match (cond b ((p, number) ∷ routes) ((p, number) ∷ r ∷ routes)) a) other ∙ longest_skip (p, number) (r ∷ routes) a apart
      ]
    ]

removed_outside : (routes : Routes) (p : PrefixValue) (a : AddrValue) → has p a ≡ false → longest_match (without_route routes p) a ≡ longest_match routes a
removed_outside [] p a apart = refl
removed_outside (r ∷ routes) p a apart =
    let rest = without_route routes p in
    let more = removed_outside routes p a apart in
    elim (decide (same_prefix r.0 p)) [
      | inl same ↦
          let apart' : has r.0 a ≡ false = subst (λ (q : PrefixValue). has q a ≡ false) (sym (same_prefix_is r.0 p same)) apart in
          ap (λ b. longest_match (cond (not b) (r ∷ rest) rest) a) same ∙ more ∙ sym (longest_skip r routes a apart')
      | inr other ↦ ap (λ b. longest_match (cond (not b) (r ∷ rest) rest) a) other ∙ ap (longer (cond (has r.0 a) (Some r) None)) more
    ]

pub routed_elsewhere : (n : NetworkValue) (now number : ℕ) (p : PrefixValue) (a : AddrValue) → has p a ≡ false → IfOk (outcome_of n now (command.Route number p)) (λ done. owner_of done.1 a ≡ owner_of (live_at n now) a)
routed_elsewhere n now number p a apart =
    let m = live_at n now in
    let Same : Reply × NetworkValue → Type 0 = λ done. owner_of done.1 a ≡ owner_of m a in
    kept_if_reading Same n false (route m number p) (λ reads. cc) (λ changes.
    stands_if Same (peer_of m.peers number) _ (λ q found.
    unless_if Same (route_refusal m p) _ (λ allows.
    ap (option_map (λ (r : PrefixValue × ℕ). r.1)) (behind_own (own_prefixes m.peers) (assign_route m.routes p number) m.routes a (assigned_outside m.routes p number a apart)))))

pub unrouted_elsewhere : (n : NetworkValue) (now : ℕ) (p : PrefixValue) (a : AddrValue) → has p a ≡ false → IfOk (outcome_of n now (command.Unroute p)) (λ done. owner_of done.1 a ≡ owner_of (live_at n now) a)
unrouted_elsewhere n now p a apart =
    let m = live_at n now in
    let Same : Reply × NetworkValue → Type 0 = λ done. owner_of done.1 a ≡ owner_of m a in
    kept_if_reading Same n false (unroute m p) (λ reads. cc) (λ changes.
    routed_if Same m (route_of m.routes p) _ (λ number q found.
    ap (option_map (λ (r : PrefixValue × ℕ). r.1)) (behind_own (own_prefixes m.peers) (without_route m.routes p) m.routes a (removed_outside m.routes p a apart))))

-- ---- addresses of the prefix

assigned_is_there : (routes : Routes) (p : PrefixValue) (number : ℕ) → Contains (assign_route routes p number) (p, number)
assigned_is_there [] p number = Contains-here (p, number) []
assigned_is_there (r ∷ routes) p number =
    elim (is_before r.0 p) as (λ b. Contains (cond b (r ∷ assign_route routes p number) (cond (same_prefix r.0 p) ((p, number) ∷ routes) ((p, number) ∷ r ∷ routes))) (p, number)) [
      | true ↦ Contains-later r (assign_route routes p number) (p, number) (assigned_is_there routes p number)
      | false ↦ elim (same_prefix r.0 p) as (λ b. Contains (cond b ((p, number) ∷ routes) ((p, number) ∷ r ∷ routes)) (p, number)) [
        | true ↦ Contains-here (p, number) routes
        | false ↦ Contains-here (p, number) (r ∷ routes)
      ]
    ]

-- what stands first, or later
contains_cases : {X : Type 0} (y : X) (xs : List X) (x : X) → Contains (y ∷ xs) x → (y ≡ x) ⊎ Contains xs x
contains_cases y xs x there = by_place there.0 there.1 there.2
  where
    by_place : (k : ℕ) → k < length (y ∷ xs) → get_or (y ∷ xs) k x ≡ x → (y ≡ x) ⊎ Contains xs x
    by_place zero l is = inl is
    by_place (suc k) l is = inr (k, omega (arith, l), is)

others_are_there : (routes : Routes) (p : PrefixValue) (number : ℕ) (s : PrefixValue × ℕ) → same_prefix s.0 p ≡ false → Contains routes s → Contains (assign_route routes p number) s
others_are_there [] p number s apart there = let l = there.1 in absurd (omega (arith, l))
others_are_there (r ∷ routes) p number s apart there =
    elim (is_before r.0 p) as (λ b. Contains (cond b (r ∷ assign_route routes p number) (cond (same_prefix r.0 p) ((p, number) ∷ routes) ((p, number) ∷ r ∷ routes))) s) [
      | true ↦ elim (contains_cases r routes s there) [
        | inl here ↦ subst (λ (t : PrefixValue × ℕ). Contains (r ∷ assign_route routes p number) t) here (Contains-here r (assign_route routes p number))
        | inr later ↦ Contains-later r (assign_route routes p number) s (others_are_there routes p number s apart later)
      ]
      | false ↦ elim (decide (same_prefix r.0 p)) [
        | inl same ↦ subst (λ b. Contains (cond b ((p, number) ∷ routes) ((p, number) ∷ r ∷ routes)) s) (sym same) (elim (contains_cases r routes s there) [
          | inl here ↦ let bad : true ≡ false = sym same ∙ subst (λ (t : PrefixValue × ℕ). same_prefix t.0 p ≡ false) (sym here) apart in cc
          | inr later ↦ Contains-later (p, number) routes s later
        ])
        | inr other ↦ subst (λ b. Contains (cond b ((p, number) ∷ routes) ((p, number) ∷ r ∷ routes)) s) (sym other) (Contains-later (p, number) (r ∷ routes) s there)
      ]
    ]

All-left : {X : Type 0} (P : X → Type 0) (xs ys : List X) → All P (xs ++ ys) → All P xs
All-left P [] ys all = λ k d h. absurd (omega (arith, h))
All-left P (x ∷ xs) ys all = All-cons P x xs (All-head P x (xs ++ ys) all) (All-left P xs ys (All-tail P x (xs ++ ys) all))

All-right : {X : Type 0} (P : X → Type 0) (xs ys : List X) → All P (xs ++ ys) → All P ys
All-right P [] ys all = all
All-right P (x ∷ xs) ys all = All-right P xs ys (All-tail P x (xs ++ ys) all)

abbrev with_route : NetworkValue → PrefixValue → ℕ → NetworkValue
with_route n p number = record n { routes = assign_route n.routes p number }

-- what holds of the allowed prefixes and the new one
all_with_route : (P : PrefixValue × ℕ → Type 0) (n : NetworkValue) (p : PrefixValue) (number : ℕ) → All P (allowed n) → P (p, number) → All P (allowed (with_route n p number))
all_with_route P n p number all here =
    All-append P (own_prefixes n.peers) (assign_route n.routes p number) (All-left P (own_prefixes n.peers) n.routes all)
    (put_all P (λ r. is_before r.0 p) (λ r. same_prefix r.0 p) n.routes (p, number) (All-right P (own_prefixes n.peers) n.routes all) here)

pub route_leads : (n : NetworkValue) (p : PrefixValue) (number : ℕ) (a : AddrValue) → IsNetwork (with_route n p number) → has p a ≡ true
    → All (λ s. has s.0 a ≡ true → s.0.length ≤ p.length) (allowed n) → owner_of (with_route n p number) a ≡ Some number
route_leads n p number a is here longest =
    longest_owns (with_route n p number) a (p, number) is
    (record {
      is_allowed = Contains-append_right (own_prefixes n.peers) (assign_route n.routes p number) (p, number) (assigned_is_there n.routes p number);
      has_it = here;
      longest = all_with_route (λ s. has s.0 a ≡ true → s.0.length ≤ p.length) n p number longest (λ h. omega arith);
    })

pub route_yields : (n : NetworkValue) (p : PrefixValue) (number : ℕ) (a : AddrValue) (r : PrefixValue × ℕ) → IsNetwork (with_route n p number) → IsLongestMatch n a r → p.length < r.0.length → owner_of (with_route n p number) a ≡ Some r.1
route_yields n p number a r is best shorter =
    longest_owns (with_route n p number) a r is
    (record {
      is_allowed = elim (Contains-append_cases (own_prefixes n.peers) n.routes r best.is_allowed) [
        | inl own ↦ Contains-append_left (own_prefixes n.peers) (assign_route n.routes p number) r own
        | inr routed ↦ Contains-append_right (own_prefixes n.peers) (assign_route n.routes p number) r (others_are_there n.routes p number r apart routed)
      ];
      has_it = best.has_it;
      longest = all_with_route (λ s. has s.0 a ≡ true → s.0.length ≤ r.0.length) n p number best.longest (λ h. omega (arith, shorter));
    })
  where
    apart : same_prefix r.0 p ≡ false
    apart = elim (decide (same_prefix r.0 p)) [
      | inr f ↦ f
      | inl same ↦ let long = ap (λ (q : PrefixValue). q.length) (same_prefix_is r.0 p same) in absurd (omega (arith, long, shorter))
    ]

-- where the route is accepted, what holds of a network with it
routed_with : (P : NetworkValue → Type 0) (n : NetworkValue) (now number : ℕ) (p : PrefixValue) → IsNetwork n → IsAsked (command.Route number p)
    → (IsNetwork (with_route (live_at n now) p number) → P (with_route (live_at n now) p number)) → IfOk (outcome_of n now (command.Route number p)) (λ done. P done.1)
routed_with P n now number p is fits holds =
    let m = live_at n now in
    let live = live_is_network n now is in
    let After : Reply × NetworkValue → Type 0 = λ done. P done.1 in
    kept_if_reading After n false (route m number p) (λ reads. cc) (λ changes.
    stands_if After (peer_of m.peers number) _ (λ q found.
    unless_if After (route_refusal m p) _ (λ allows. holds (routed_is_network m p number live (may_route m number p q fits found allows)))))

pub routed_leads : (n : NetworkValue) (now number : ℕ) (p : PrefixValue) (a : AddrValue) → IsNetwork n → IsAsked (command.Route number p) → has p a ≡ true
    → All (λ s. has s.0 a ≡ true → s.0.length ≤ p.length) (allowed (live_at n now)) → IfOk (outcome_of n now (command.Route number p)) (λ done. owner_of done.1 a ≡ Some number)
routed_leads n now number p a is fits here longest = routed_with (λ m. owner_of m a ≡ Some number) n now number p is fits (λ keeps. route_leads (live_at n now) p number a keeps here longest)

pub routed_yields : (n : NetworkValue) (now number : ℕ) (p : PrefixValue) (a : AddrValue) (r : PrefixValue × ℕ) → IsNetwork n → IsAsked (command.Route number p) → IsLongestMatch (live_at n now) a r
    → p.length < r.0.length → IfOk (outcome_of n now (command.Route number p)) (λ done. owner_of done.1 a ≡ Some r.1)
routed_yields n now number p a r is fits best shorter = routed_with (λ m. owner_of m a ≡ Some r.1) n now number p is fits (λ keeps. route_yields (live_at n now) p number a r keeps best shorter)
