-- The lines that a network without live peers adopts are its peers.
use Rattle.std.proofs.Common.{◌≡◌, ℕ, zero, suc, ◌<◌, ◌⊎◌, ◌↔◌, inl, inr, Bool, true, false, not, ◌&&◌, ◌||◌, cond, List, [], ◌∷◌, ◌++◌, length, get_or, map, Option, Some, None, is_some, refl, sym, ap, ◌∙◌, subst, arith}
use Rattle.std.specs.Prelude.{Ok, IfOk}
use Rattle.std.specs.List.{All, AllPairs, Contains, filter, list_any}
use Rattle.std.proofs.lemmas.Cmp.{nat_list_eq_equiv}
use Rattle.std.proofs.lemmas.List.Elements.{All-append, All-contains, All-contains_itself, All-filter, All-head, All-map, All-nil, All-push, All-same, All-tail, Contains-append_cases, Contains-append_left, Contains-append_right, Contains-push}
use Rattle.wgr_text.specs.declared.key.Key.{Key}
use Rattle.wgr_text.specs.Prefix.{AddrValue, PrefixValue, width}
use Rattle.wgr_peers.specs.declared.peer.Peer.{Peer}
use Rattle.wgr_pool.specs.PrefixTests.{full, same_prefix}
use Rattle.wgr_pool.specs.Allot.{is_assignable}
use Rattle.wgr_peers.specs.Peers.{is_own, peer_of, same_key}
use Rattle.wgr_peers.specs.Routes.{Routes, assign_route, route_of, ComesBefore, AreOrdered}
use Rattle.wgr_core.specs.declared.command.Command.TheVariants as command
use Rattle.wgr_core.specs.declared.refusal.Refusal.{Refusal}
use Rattle.wgr_core.specs.declared.reply.Reply.{Reply}
use Rattle.wgr_core.specs.declared.seen_peer.SeenPeer.{SeenPeer}
use Rattle.wgr_core.specs.Network.{NetworkValue, IsNetwork, live_at}
use Rattle.wgr_core.specs.Owner.{allowed, own_prefixes}
use Rattle.wgr_core.specs.Adoption.{Adoption, is_one_address, named_address, peer_of_line, other_prefixes, adopt_line, adoption_order}
use Rattle.wgr_core.specs.Refusals.{address_refusal, place, unless_refused}
use Rattle.wgr_core.specs.Change.{assign_routes}
use Rattle.wgr_core.specs.Outcome.{AreLinesAsked}
use Rattle.wgr_laws.specs.AdoptionLaws.{adopt_at}
use Rattle.wgr_laws.specs.FirstAdoption.{AreLinesApart, IsShown, AreShown}
use Rattle.wgr_pool.proofs.Bools.{decide, and_true, or_right}
use Rattle.wgr_pool.proofs.Lists.{AllPairs-head, AllPairs-tail, list_any-some}
use Rattle.wgr_pool.proofs.PrefixLemmas.{nat_eq_is, same_prefix_is, same_prefix_self}
use Rattle.wgr_peers.proofs.TableLemmas.{peer_present}
use Rattle.wgr_core.proofs.AdoptSteps.{numbered_all, ordered_all}
use Rattle.wgr_laws.proofs.AdoptedPeers.{adopted_if, both_if, start_at}
use Rattle.wgr_laws.proofs.AdoptionOrder.{all_lines, paired_lines}
use Rattle.wgr_laws.proofs.KeyedLemmas.{keyed_has}
use Rattle.wgr_laws.proofs.LineCases.{joined_line, line_if, lines_keep}
use Rattle.wgr_core.proofs.LiveLemmas.{live_is_network, peer_stands}
use Rattle.wgr_laws.proofs.ChangeLemmas.{assigned_leads, assigned_others}
use Rattle.wgr_laws.proofs.NextSteps.{one_peer}
use Rattle.wgr_core.proofs.OutcomeLemmas.{outcome_keeps}
use Rattle.wgr_core.proofs.AllowedLemmas.{all_differ, before_differs}
use Rattle.wgr_laws.proofs.UniqueMatch.{own_allowed, same_place}

-- ---- prefixes of a list

contains_later : {X : Type 0} (x : X) (xs : List X) (y : X) → Contains xs y → Contains (x ∷ xs) y
contains_later x xs y at = (suc at.0, omega (arith, at.1), at.2)

abbrev has_prefix : List PrefixValue → PrefixValue → Bool
has_prefix prefixes p = list_any (λ q. same_prefix q p) prefixes

has_prefix_is : (prefixes : List PrefixValue) (p : PrefixValue) → has_prefix prefixes p ≡ true → Contains prefixes p
has_prefix_is [] p h = cc
has_prefix_is (q ∷ more) p h = by_test (same_prefix q p) refl h (has_prefix_is more p)
  where
    by_test : (b : Bool) → same_prefix q p ≡ b → (b || has_prefix more p) ≡ true → (has_prefix more p ≡ true → Contains more p) → Contains (q ∷ more) p
    by_test true same h rest = (zero, omega arith, same_prefix_is q p same)
    by_test false apart h rest = contains_later q more p (rest h)

prefix_has : (prefixes : List PrefixValue) (p : PrefixValue) → Contains prefixes p → has_prefix prefixes p ≡ true
prefix_has prefixes p at = list_any-some (λ q. same_prefix q p) prefixes at.0 p at.1 (subst (λ q. same_prefix q p ≡ true) (sym at.2) (same_prefix_self p))

-- what passes a test is among those that are kept, where these are all that pass it
any_kept : {X : Type 0} (test keeps : X → Bool) (xs : List X) → ((x : X) → test x ≡ true → keeps x ≡ true) → list_any test xs ≡ true → list_any test (filter keeps xs) ≡ true
any_kept test keeps [] stays h = h
any_kept test keeps (x ∷ xs) stays h = by_test (test x) refl h (any_kept test keeps xs stays)
  where
    by_test : (b : Bool) → test x ≡ b → (b || list_any test xs) ≡ true → (list_any test xs ≡ true → list_any test (filter keeps xs) ≡ true) → list_any test (cond (keeps x) (x ∷ filter keeps xs) (filter keeps xs)) ≡ true
    by_test true here h rest = subst (λ b. list_any test (cond b (x ∷ filter keeps xs) (filter keeps xs)) ≡ true) (sym (stays x here)) (ap (λ b. b || list_any test (filter keeps xs)) here)
    by_test false apart h rest = elim (keeps x) as (λ b. list_any test (cond b (x ∷ filter keeps xs) (filter keeps xs)) ≡ true) [ true ↦ or_right (test x) (list_any test (filter keeps xs)) (rest h) | false ↦ rest h ]

-- the other prefixes are those that aren't the address
other_is : (a : AddrValue) (prefixes : List PrefixValue) (p : PrefixValue) → has_prefix (other_prefixes a prefixes) p ≡ true → Contains prefixes p
other_is a prefixes p h =
    All-contains (Contains prefixes) (other_prefixes a prefixes) p (All-filter (λ q. not (same_prefix q (full a))) (Contains prefixes) prefixes (All-contains_itself prefixes)) (has_prefix_is (other_prefixes a prefixes) p h)

is_other : (a : AddrValue) (prefixes : List PrefixValue) (p : PrefixValue) → Contains prefixes p → same_prefix p (full a) ≡ false → has_prefix (other_prefixes a prefixes) p ≡ true
is_other a prefixes p at apart =
    any_kept (λ q. same_prefix q p) (λ q. not (same_prefix q (full a))) prefixes
    (λ q same. ap not (subst (λ r. same_prefix r (full a) ≡ false) (sym (same_prefix_is q p same)) apart)) (prefix_has prefixes p at)

-- the address that is named is one of the prefixes, at full length
named_in : (pool : PrefixValue) (prefixes : List PrefixValue) (a : AddrValue) → named_address pool prefixes ≡ Some a → Contains prefixes (full a)
named_in pool [] a named = cc
named_in pool (p ∷ more) a named = by_test (is_one_address p && is_assignable pool p.address) refl named (named_in pool more a)
  where
    whole : is_one_address p ≡ true → p ≡ full p.address
    whole one = ap (λ (k : ℕ). record { address = p.address; length = k }) (nat_eq_is p.length (width p.address.family) one)

    by_test : (b : Bool) → (is_one_address p && is_assignable pool p.address) ≡ b → cond b (Some p.address) (named_address pool more) ≡ Some a
        → (named_address pool more ≡ Some a → Contains more (full a)) → Contains (p ∷ more) (full a)
    by_test true is named rest =
        let same : p.address ≡ a = cc in
        (zero, omega arith, whole (and_true (is_one_address p) (is_assignable pool p.address) is).0 ∙ ap full same)
    by_test false is named rest = contains_later p more (full a) (rest named)

-- ---- routes after several are assigned

route_given : (routes : Routes) (number : ℕ) (prefixes : List PrefixValue) (q : PrefixValue) → route_of (assign_routes routes (map (λ p. (p, number)) prefixes)) q ≡ cond (has_prefix prefixes q) (Some number) (route_of routes q)
route_given routes number [] q = refl
route_given routes number (p ∷ more) q = route_given (assign_route routes p number) number more q ∙ by_test (same_prefix p q) refl
  where
    either : (b : Bool) → cond b (Some number) (Some number) ≡ Some number
    either true = refl
    either false = refl

    by_test : (b : Bool) → same_prefix p q ≡ b → cond (has_prefix more q) (Some number) (route_of (assign_route routes p number) q) ≡ cond (b || has_prefix more q) (Some number) (route_of routes q)
    by_test true same =
        ap (λ o. cond (has_prefix more q) (Some number) o) (subst (λ r. route_of (assign_route routes p number) r ≡ Some number) (same_prefix_is p q same) (assigned_leads routes p number))
        ∙ either (has_prefix more q)
    by_test false apart = ap (λ o. cond (has_prefix more q) (Some number) o) (assigned_others routes p q number apart)

given_from : (b : Bool) (number i : ℕ) (o : Option ℕ) → cond b (Some number) o ≡ Some i → ((b ≡ true) × (number ≡ i)) ⊎ ((b ≡ false) × (o ≡ Some i))
given_from true number i o h = inl (refl, one number i h)
  where
    one : (m n : ℕ) → Some m ≡ Some n → m ≡ n
    one m n h = cc
given_from false number i o h = inr (refl, h)

-- what holds of each route holds of the one that is found
route_is : (P : PrefixValue × ℕ → Type 0) (routes : Routes) (p : PrefixValue) (i : ℕ) → All P routes → route_of routes p ≡ Some i → P (p, i)
route_is P [] p i all found = cc
route_is P (r ∷ routes) p i all found = by_test (same_prefix r.0 p) refl found (route_is P routes p i (All-tail P r routes all))
  where
    by_test : (b : Bool) → same_prefix r.0 p ≡ b → cond b (Some r.1) (route_of routes p) ≡ Some i → (route_of routes p ≡ Some i → P (p, i)) → P (p, i)
    by_test true same found rest =
        let number : r.1 ≡ i = cc in
        subst P (ap (λ (q : PrefixValue). (q, r.1)) (same_prefix_is r.0 p same) ∙ ap (λ (j : ℕ). (p, j)) number) (All-head P r routes all)
    by_test false apart found rest = rest found

route_present : (routes : Routes) (k : ℕ) (d : PrefixValue × ℕ) → AreOrdered routes → k < length routes → route_of routes (get_or routes k d).0 ≡ Some (get_or routes k d).1
route_present [] k d ordered h = absurd (omega (arith, h))
route_present (r ∷ routes) zero d ordered h = ap (λ b. cond b (Some r.1) (route_of routes r.0)) (same_prefix_self r.0)
route_present (r ∷ routes) (suc k) d ordered h =
    ap (λ b. cond b (Some r.1) (route_of routes (get_or routes k d).0)) (before_differs r (get_or routes k d) (AllPairs-head ComesBefore r routes ordered k d (omega (arith, h))))
    ∙ route_present routes k d (AllPairs-tail ComesBefore r routes ordered) (omega (arith, h))

-- ---- the peers so far

-- the peer of a line, and the routes that lead to it
record HasLine (n : NetworkValue) (line : SeenPeer) (q : Peer) : Type 0 where
  stands : Contains n.peers q
  key : q.key ≡ line.key
  keepalive : q.keepalive ≡ line.keepalive
  status : q.status ≡ Some line.status
  endless : q.until ≡ 0
  address : (named_address n.pool line.allowed ≡ Some q.address) ⊎ (named_address n.pool line.allowed ≡ None)
  given : q.number < n.next
  routes : (p : PrefixValue) → (route_of n.routes p ≡ Some q.number) ↔ (has_prefix (other_prefixes q.address line.allowed) p ≡ true)

abbrev HasPeer : NetworkValue → ℕ × SeenPeer → Type 0
HasPeer n l = (q : Peer) × HasLine n l.1 q

abbrev IsOfLine : List (ℕ × SeenPeer) → NetworkValue → Peer → Type 0
IsOfLine done n q = (l : ℕ × SeenPeer) × Contains done l × HasLine n l.1 q

-- each line that is done has its peer, and each peer its line
record AreSeen (done : List (ℕ × SeenPeer)) (n : NetworkValue) : Type 0 where
  each : All (HasPeer n) done
  peers : All (IsOfLine done n) n.peers
  below : (p : PrefixValue) (i : ℕ) → route_of n.routes p ≡ Some i → i < n.next

abbrev AreApart : ℕ × SeenPeer → ℕ × SeenPeer → Type 0
AreApart k l = AreLinesApart k.1 l.1

module _ (s : Adoption) (line : SeenPeer) (a : AddrValue) where
  abbrev after : NetworkValue
  after = (joined_line s line a).network

  abbrev others : List PrefixValue
  others = other_prefixes a line.allowed

  route_after : (p : PrefixValue) → route_of after.routes p ≡ cond (has_prefix others p) (Some s.network.next) (route_of s.network.routes p)
  route_after p = route_given s.network.routes s.network.next others p

  below_after : ((p : PrefixValue) (i : ℕ) → route_of s.network.routes p ≡ Some i → i < s.network.next) → (p : PrefixValue) (i : ℕ) → route_of after.routes p ≡ Some i → i < after.next
  below_after below p i h = elim (given_from (has_prefix others p) s.network.next i (route_of s.network.routes p) (sym (route_after p) ∙ h)) [
    | inl new ↦ omega (arith, new.1)
    | inr old ↦ let under = below p i old.1 in omega (arith, under)
  ]

  -- the peer of another line stays as it is
  line_stays : (d : SeenPeer) (q : Peer) → AreLinesApart d line → HasLine s.network d q → HasLine after d q
  line_stays d q apart has = record {
    stands = Contains-append_left s.network.peers (peer_of_line s.network line a ∷ []) q has.stands;
    key = has.key;
    keepalive = has.keepalive;
    status = has.status;
    endless = has.endless;
    address = has.address;
    given = let under = has.given in omega (arith, under);
    routes = λ p. (there p, back p);
  }
    where
      there : (p : PrefixValue) → route_of after.routes p ≡ Some q.number → has_prefix (other_prefixes q.address d.allowed) p ≡ true
      there p h = elim (given_from (has_prefix others p) s.network.next q.number (route_of s.network.routes p) (sym (route_after p) ∙ h)) [
        | inl new ↦ let under = has.given in absurd (omega (arith, new.1, under))
        | inr old ↦ (has.routes p).0 old.1
      ]

      off : (p : PrefixValue) → has_prefix (other_prefixes q.address d.allowed) p ≡ true → has_prefix others p ≡ false
      off p h = elim (decide (has_prefix others p)) [
        | inl also ↦ absurd (apart.prefixes p (other_is q.address d.allowed p h) (other_is a line.allowed p also))
        | inr f ↦ f
      ]

      back : (p : PrefixValue) → has_prefix (other_prefixes q.address d.allowed) p ≡ true → route_of after.routes p ≡ Some q.number
      back p h = route_after p ∙ ap (λ b. cond b (Some s.network.next) (route_of s.network.routes p)) (off p h) ∙ (has.routes p).1 h

  -- and the line has its own
  line_joins : ((p : PrefixValue) (i : ℕ) → route_of s.network.routes p ≡ Some i → i < s.network.next) → place s.network s.network.pool (named_address s.network.pool line.allowed) ≡ Ok a → HasLine after line (peer_of_line s.network line a)
  line_joins below placed = record {
    stands = Contains-push s.network.peers (peer_of_line s.network line a);
    key = refl;
    keepalive = refl;
    status = refl;
    endless = refl;
    address = by_name (named_address s.network.pool line.allowed) placed;
    given = omega arith;
    routes = λ p. (there p, back p);
  }
    where
      by_test : (b : AddrValue) (why : Option Refusal) → unless_refused why b ≡ Ok a → b ≡ a
      by_test b (Some why) h = cc
      by_test b None h = cc

      by_name : (o : Option AddrValue) → place s.network s.network.pool o ≡ Ok a → (o ≡ Some a) ⊎ (o ≡ None)
      by_name None h = inr refl
      by_name (Some b) h = inl (ap (λ x. Some x) (by_test b (address_refusal s.network s.network.pool b) h))

      there : (p : PrefixValue) → route_of after.routes p ≡ Some s.network.next → has_prefix others p ≡ true
      there p h = elim (given_from (has_prefix others p) s.network.next s.network.next (route_of s.network.routes p) (sym (route_after p) ∙ h)) [
        | inl new ↦ new.0
        | inr old ↦ let under = below p s.network.next old.1 in absurd (omega (arith, under))
      ]

      back : (p : PrefixValue) → has_prefix others p ≡ true → route_of after.routes p ≡ Some s.network.next
      back p h = route_after p ∙ ap (λ b. cond b (Some s.network.next) (route_of s.network.routes p)) h

next_seen : (done : List (ℕ × SeenPeer)) (s : Adoption) (l : ℕ × SeenPeer) → All (λ d. AreApart d l) done → AreSeen done s.network → IfOk (adopt_line s l.1) (λ next. AreSeen (done ++ l ∷ []) next.network)
next_seen done s l apart is =
    line_if (λ next. AreSeen (done ++ l ∷ []) next.network) s l.1
    (λ p found.
    let both = keyed_has (λ q. same_key q.key l.1.key ≡ false) s.network.peers l.1.key p other_keys found in
    let bad : true ≡ false = sym both.1 ∙ both.0 in cc)
    (λ a none allowed placed.
    let q = peer_of_line s.network l.1 a in
    let own = line_joins s l.1 a is.below placed in
    let n = (joined_line s l.1 a).network in
    record {
      each = All-push (HasPeer n) done l (λ k d h. let e = is.each k d h in (e.0, line_stays s l.1 a (get_or done k d).1 e.0 (apart k d h) e.1)) (q, own);
      peers = All-push (IsOfLine (done ++ l ∷ []) n) s.network.peers q
          (λ k d h.
          let e = is.peers k d h in
          (e.0, Contains-append_left done (l ∷ []) e.0 e.1, line_stays s l.1 a e.0.1 (get_or s.network.peers k d) (All-contains (λ d. AreApart d l) done e.0 apart e.1) e.2))
          (l, Contains-push done l, own);
      below = below_after s l.1 a is.below;
    })
  where
    other_keys : All (λ q. same_key q.key l.1.key ≡ false) s.network.peers
    other_keys = λ k d h.
        let e = is.peers k d h in
        ap (λ key. same_key key l.1.key) e.2.key ∙ (All-contains (λ d. AreApart d l) done e.0 apart e.1).keys

-- ---- the peers at the end

is_shown : (m : NetworkValue) (line : SeenPeer) (q : Peer) → IsNetwork m → HasLine m line q → IsShown m line q
is_shown m line q is has = record {
  stands = has.stands;
  key = has.key;
  keepalive = has.keepalive;
  status = has.status;
  endless = has.endless;
  address = λ a named. by_name a named has.address;
  leads = λ p. (there p, back p);
}
  where
    by_name : (a : AddrValue) → named_address m.pool line.allowed ≡ Some a → (named_address m.pool line.allowed ≡ Some q.address) ⊎ (named_address m.pool line.allowed ≡ None) → q.address ≡ a
    by_name a named (inl is) = let same : Some q.address ≡ Some a = sym is ∙ named in cc
    by_name a named (inr none) = let bad : None ≡ Some a = sym none ∙ named in cc

    -- the peer at the number is the one
    at_number : (k : ℕ) (d : Peer) → k < length m.peers → (get_or m.peers k d).number ≡ q.number → get_or m.peers k d ≡ q
    at_number k d h same =
        let first = peer_present m.peers q.number k d is.numbered h same in
        let second = peer_present m.peers q.number has.stands.0 q is.numbered has.stands.1 (ap (λ (e : Peer). e.number) has.stands.2) in
        one_peer (get_or m.peers k d) (get_or m.peers has.stands.0 q) (sym first ∙ second) ∙ has.stands.2

    own_are : All (λ r. r.1 ≡ q.number → r.0 ≡ full q.address) (own_prefixes m.peers)
    own_are = All-map (λ (r : PrefixValue × ℕ). r.1 ≡ q.number → r.0 ≡ full q.address) (λ (e : Peer). (full e.address, e.number)) m.peers (λ k d h same. ap (λ (e : Peer). full e.address) (at_number k d h same))

    own : Contains (allowed m) (full q.address, q.number)
    own = own_allowed m q has.stands

    from_own : (p : PrefixValue) → p ≡ full q.address → (named_address m.pool line.allowed ≡ Some q.address) ⊎ (named_address m.pool line.allowed ≡ None) → Contains line.allowed p ⊎ ((named_address m.pool line.allowed ≡ None) × (p ≡ full q.address))
    from_own p e (inl named) = inl (subst (Contains line.allowed) (sym e) (named_in m.pool line.allowed q.address named))
    from_own p e (inr none) = inr (none, e)

    there : (p : PrefixValue) → Contains (allowed m) (p, q.number) → Contains line.allowed p ⊎ ((named_address m.pool line.allowed ≡ None) × (p ≡ full q.address))
    there p h = elim (Contains-append_cases (own_prefixes m.peers) m.routes (p, q.number) h) [
      | inl at ↦ from_own p (All-contains (λ (r : PrefixValue × ℕ). r.1 ≡ q.number → r.0 ≡ full q.address) (own_prefixes m.peers) (p, q.number) own_are at refl) has.address
      | inr at ↦ inl (other_is q.address line.allowed p ((has.routes p).0 (subst (λ (r : PrefixValue × ℕ). route_of m.routes r.0 ≡ Some r.1) at.2 (route_present m.routes at.0 (p, q.number) is.ordered at.1))))
    ]

    back : (p : PrefixValue) → Contains line.allowed p ⊎ ((named_address m.pool line.allowed ≡ None) × (p ≡ full q.address)) → Contains (allowed m) (p, q.number)
    back p (inl at) = elim (decide (same_prefix p (full q.address))) [
      | inl same ↦ subst (λ r. Contains (allowed m) (r, q.number)) (sym (same_prefix_is p (full q.address) same)) own
      | inr apart ↦ Contains-append_right (own_prefixes m.peers) m.routes (p, q.number) (route_is (Contains m.routes) m.routes p q.number (All-contains_itself m.routes) ((has.routes p).1 (is_other q.address line.allowed p at apart)))
    ]
    back p (inr given) = subst (λ r. Contains (allowed m) (r, q.number)) (sym given.1) own

are_shown : (pool : PrefixValue) (lines : List SeenPeer) (m : NetworkValue) → IsNetwork m → AreSeen (adoption_order pool lines) m → AreShown m lines
are_shown pool lines m is seen =
    let order = adoption_order pool lines in
    let members : All (λ l. Contains lines l.1) order = ordered_all (λ l. Contains lines l.1) pool lines (numbered_all (Contains lines) 2 lines (All-contains_itself lines)) in
    record {
      peers = all_lines (λ line. (q : Peer) × IsShown m line q) pool lines (λ k d h. let e = seen.each k d h in (e.0, is_shown m (get_or order k d).1 e.0 is e.1));
      lines_of = λ k d h. let e = seen.peers k d h in (e.0.1, All-contains (λ (l : ℕ × SeenPeer). Contains lines l.1) order e.0 members e.1, is_shown m e.0.1 (get_or m.peers k d) is e.2);
      to_peers = All-append (λ (r : PrefixValue × ℕ). is_some (peer_of m.peers r.1) ≡ true) (own_prefixes m.peers) m.routes
          (All-map (λ (r : PrefixValue × ℕ). is_some (peer_of m.peers r.1) ≡ true) (λ (e : Peer). (full e.address, e.number)) m.peers (peer_stands m.peers)) (λ k d h. (is.routes k d h).leads);
      to_one = λ p i j at_i at_j. ap (λ (r : PrefixValue × ℕ). r.1) (same_place (allowed m) (p, i) (p, j) (all_differ m is) at_i at_j refl);
    }

-- ---- the command

no_routes : (peers : List Peer) (routes : Routes) → peers ≡ [] → All (λ r. is_some (peer_of peers r.1) ≡ true) routes → routes ≡ []
no_routes peers [] none leads = refl
no_routes peers (r ∷ routes) none leads =
    let bad : false ≡ true = sym (ap (λ ps. is_some (peer_of ps r.1)) none) ∙ All-head (λ r. is_some (peer_of peers r.1) ≡ true) r routes leads in cc

start_seen : (n : NetworkValue) → IsNetwork n → n.peers ≡ [] → AreSeen [] n
start_seen n is none = record {
  each = All-nil (HasPeer n);
  peers = All-same (IsOfLine [] n) n.peers [] none (All-nil (IsOfLine [] n));
  below = λ p i h.
      let no : n.routes ≡ [] = no_routes n.peers n.routes none (λ k d l. (is.routes k d l).leads) in
      let bad : None ≡ Some i = sym (ap (λ (rs : Routes). route_of rs p) no) ∙ h in cc;
}

apart_turn : (k l : SeenPeer) → AreLinesApart k l → AreLinesApart l k
apart_turn k l is = record { keys = nat_list_eq_equiv.symm l.key.0 k.key.0 ∙ is.keys; prefixes = λ p at_l at_k. is.prefixes p at_k at_l }

pub adoption_is_faithful : (n : NetworkValue) (now : ℕ) (server : Option Key) (lines : List SeenPeer) → IsNetwork n → (live_at n now).peers ≡ [] → AreLinesAsked lines → AllPairs AreLinesApart lines
    → IfOk (adopt_at n now server lines) (λ done. AreShown done.1 lines)
adoption_is_faithful n now server lines is none asked apart =
    let live = live_at n now in
    let order = adoption_order n.pool lines in
    let Seen : Reply × NetworkValue → Type 0 = λ done. AreSeen order done.1 in
    both_if (λ done. IsNetwork done.1) Seen (λ done. AreShown done.1 lines) (adopt_at n now server lines)
    (λ done keeps seen. are_shown n.pool lines done.1 keeps seen)
    (outcome_keeps n now (command.Adopt server lines) is asked)
    (adopted_if Seen n now server lines
    (lines_keep AreApart (λ done s. AreSeen done s.network) next_seen [] (start_at live) order (paired_lines AreLinesApart n.pool lines apart_turn apart) (start_seen live (live_is_network n now is) none)))
