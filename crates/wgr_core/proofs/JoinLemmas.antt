-- A new peer at a free address leaves a network that keeps the rules.
use Rattle.std.proofs.Common.{◌≡◌, ℕ, zero, suc, ◌+◌, ◌<◌, ◌≤◌, inl, inr, Bool, true, false, not, ◌&&◌, ◌||◌, cond, nat_eq, nat_lt, List, [], ◌∷◌, ◌++◌, length, get_or, Option, Some, None, is_some, refl, sym, ap, ◌∙◌, subst, arith}
use Rattle.std.specs.List.{All, list_any}
use Rattle.std.specs.Prelude.{Ok}
use Rattle.std.proofs.lemmas.Bool.Decides.{nat_tests}
use Rattle.std.proofs.lemmas.List.{length-append}
use Rattle.std.proofs.lemmas.List.Elements.{All-cons, All-push}
use Rattle.std.proofs.lemmas.List.Quantifiers.{all_pairs_push}
use Rattle.wgr_text.specs.declared.addr.Family.{Family}
use Rattle.wgr_text.specs.declared.key.Key.{Key}
use Rattle.wgr_text.specs.Prefix.{AddrValue, PrefixValue, block, width}
use Rattle.wgr_peers.specs.declared.peer.Peer.{Peer}
use Rattle.wgr_core.specs.declared.joining.Joining.{Joining}
use Rattle.wgr_core.specs.declared.refusal.Refusal.{Refusal}
use Rattle.wgr_core.specs.declared.refusal.Refusal.TheVariants.{AddressHeld, CapacityReached, LeaseOver, NumbersSpent, OutsidePool, ServerKey}
use Rattle.wgr_pool.specs.PrefixTests.{same_address, same_prefix, has, covers, full}
use Rattle.wgr_pool.specs.Pool.{IsPool}
use Rattle.wgr_pool.specs.Allot.{is_assignable, first_from}
use Rattle.wgr_peers.specs.Limits.{is_expired, max_number}
use Rattle.wgr_peers.specs.Peers.{is_own, key_holder, peer_of, same_key, IsNumberedBelow, IsApart, is_at}
use Rattle.wgr_peers.specs.Routes.{Routes, route_of}
use Rattle.wgr_core.specs.Network.{NetworkValue, IsNetwork, IsMember, is_held, lowest_free, server_address}
use Rattle.wgr_core.specs.Refusals.{address_refusal, held_or, is_address_taken, joining_refusal, or_full, place, unless_refused}
use Rattle.wgr_pool.proofs.Lists.{list_any-none}
use Rattle.wgr_pool.proofs.Bools.{decide, and_true, or_false, not_true}
use Rattle.wgr_pool.proofs.PrefixLemmas.{same_prefix_is, full_has, covers_full, same_family_is}
use Rattle.wgr_core.proofs.AloneLemmas.{apart_alone}

-- nobody has the key
pub key_free : (peers : List Peer) (key : Key) → key_holder peers key ≡ None → All (λ p. same_key p.key key ≡ false) peers
key_free [] key none = λ k d h. absurd (omega (arith, h))
key_free (p ∷ peers) key none =
    elim (decide (same_key p.key key)) [
      | inl t ↦ let bad : Some p.number ≡ None = sym (ap (λ b. cond b (Some p.number) (key_holder peers key)) t) ∙ none in cc
      | inr f ↦ All-cons (λ p. same_key p.key key ≡ false) p peers f (key_free peers key (sym (ap (λ b. cond b (Some p.number) (key_holder peers key)) f) ∙ none))
    ]

-- no route is the prefix
pub route_free : (routes : Routes) (p : PrefixValue) → route_of routes p ≡ None → All (λ r. same_prefix r.0 p ≡ false) routes
route_free [] p none = λ k d h. absurd (omega (arith, h))
route_free (r ∷ routes) p none =
    elim (decide (same_prefix r.0 p)) [
      | inl t ↦ let bad : Some r.1 ≡ None = sym (ap (λ b. cond b (Some r.1) (route_of routes p)) t) ∙ none in cc
      | inr f ↦ All-cons (λ r. same_prefix r.0 p ≡ false) r routes f (route_free routes p (sym (ap (λ b. cond b (Some r.1) (route_of routes p)) f) ∙ none))
    ]

-- what a search gives passes its test
pub first_passes : (f : Family) (passes : AddrValue → Bool) (start count : ℕ) (a : AddrValue) → first_from f passes start count ≡ Some a → passes a ≡ true
first_passes f passes start zero a h = cc
first_passes f passes start (suc count) a h = step (passes (record { family = f; number = start })) refl h (λ rest. first_passes f passes (start + 1) count a rest)
  where
    step : (b : Bool) → passes (record { family = f; number = start }) ≡ b → (elim b [ true ↦ Some (record { family = f; number = start }) | false ↦ first_from f passes (start + 1) count ]) ≡ Some a
        → (first_from f passes (start + 1) count ≡ Some a → passes a ≡ true) → passes a ≡ true
    step true is h later = let e : record { family = f; number = start } ≡ a = cc in subst (λ x. passes x ≡ true) e is
    step false is h later = later h

pub lowest_is_free : (n : NetworkValue) (a : AddrValue) → lowest_free n n.pool ≡ Some a → (is_assignable n.pool a ≡ true) × (is_held n n.pool a ≡ false)
lowest_is_free n a h =
    let both = and_true (is_assignable n.pool a) (not (is_held n n.pool a)) (first_passes n.pool.address.family (λ a. is_assignable n.pool a && not (is_held n n.pool a)) n.pool.address.number (block n.pool.address.family n.pool.length) a h) in
    (both.0, not_true (is_held n n.pool a) both.1)

-- an address that nobody holds is no route at full length
pub unheld_no_route : (n : NetworkValue) (a : AddrValue) → IsPool n.pool → is_assignable n.pool a ≡ true → is_held n n.pool a ≡ false → All (λ r. same_prefix r.0 (full a) ≡ false) n.routes
unheld_no_route n a pool given unheld =
    let rs = list_any-none (λ (r : PrefixValue × ℕ). covers n.pool r.0 && has r.0 a) n.routes (or_false (is_own n.peers a) (list_any (λ (r : PrefixValue × ℕ). covers n.pool r.0 && has r.0 a) n.routes) unheld).1 in
    let in_pool : has n.pool a ≡ true = (and_true (has n.pool a) (not (nat_lt a.number (n.pool.address.number + 2))) (and_true (has n.pool a && not (nat_lt a.number (n.pool.address.number + 2))) (nat_lt a.number _) given).0).0 in
    let family = same_family_is n.pool.address.family a.family (and_true _ _ in_pool).0 in
    let short : n.pool.length ≤ width a.family = subst (λ f. n.pool.length ≤ width f) family pool.1.0 in
    let covered = covers_full n.pool a short in_pool in
    λ k d h. no_full (get_or n.routes k d).0 covered (rs k d h)
  where
    no_full : (p : PrefixValue) → covers n.pool (full a) ≡ true → (covers n.pool p && has p a) ≡ false → same_prefix p (full a) ≡ false
    no_full p covered apart = elim (decide (same_prefix p (full a))) [
      | inr f ↦ f
      | inl t ↦
          let is = same_prefix_is p (full a) t in
          let bad : true ≡ false = sym (ap (λ b. b && has (full a) a) covered ∙ full_has a) ∙ sym (ap (λ p. covers n.pool p && has p a) is) ∙ apart in cc
    ]

-- an address that a peer may take
pub record IsOpen (n : NetworkValue) (a : AddrValue) : Type 0 where
  pub assignable : is_assignable n.pool a ≡ true
  pub unowned : is_own n.peers a ≡ false
  pub no_route : All (λ r. same_prefix r.0 (full a) ≡ false) n.routes

pub lowest_is_open : (n : NetworkValue) (a : AddrValue) → IsPool n.pool → lowest_free n n.pool ≡ Some a → IsOpen n a
lowest_is_open n a pool h =
    let free = lowest_is_free n a h in
    record { assignable = free.0; unowned = (or_false (is_own n.peers a) _ free.1).0; no_route = unheld_no_route n a pool free.0 free.1 }

no_refusal : {X : Type 0} (given taken : Bool) (x y : X) → cond (not given) (Some x) (cond taken (Some y) None) ≡ None → (given ≡ true) × (taken ≡ false)
no_refusal true true x y h = cc
no_refusal true false x y h = (refl, refl)
no_refusal false taken x y h = cc

pub none_from : {X : Type 0} (o : Option X) → is_some o ≡ false → o ≡ None
none_from None h = refl
none_from (Some x) h = cc

pub named_is_open : (n : NetworkValue) (a : AddrValue) → address_refusal n n.pool a ≡ None → IsOpen n a
named_is_open n a h =
    let parts = no_refusal (is_assignable n.pool a) (is_address_taken n a) OutsidePool AddressHeld h in
    let free = or_false (is_own n.peers a) (is_some (route_of n.routes (full a))) parts.1 in
    record { assignable = parts.0; unowned = free.0; no_route = route_free n.routes (full a) (none_from (route_of n.routes (full a)) free.1) }

pub place_is_open : (n : NetworkValue) (wanted : Option AddrValue) (a : AddrValue) → IsPool n.pool → place n n.pool wanted ≡ Ok a → IsOpen n a
place_is_open n (Some b) a pool h = named (address_refusal n n.pool b) refl h
  where
    named : (r : Option Refusal) → address_refusal n n.pool b ≡ r → unless_refused r b ≡ Ok a → IsOpen n a
    named None is h = let e : b ≡ a = cc in subst (IsOpen n) e (named_is_open n b is)
    named (Some why) is h = cc
place_is_open n None a pool h = lowest (lowest_free n n.pool) refl h
  where
    lowest : (r : Option AddrValue) → lowest_free n n.pool ≡ r → or_full r ≡ Ok a → IsOpen n a
    lowest None is h = cc
    lowest (Some b) is h = let e : b ≡ a = cc in subst (IsOpen n) e (lowest_is_open n b pool is)

-- ---- whether a peer may join

-- what is known where a peer may join
pub record IsAdmitted (j : Joining) (now : ℕ) (key : Key) (until : ℕ) : Type 0 where
  pub not_server : same_key key j.server ≡ false
  pub unheld : j.key_holder ≡ None
  pub runs : is_expired now until ≡ false
  pub room : j.has_room ≡ true
  pub left : j.next ≤ max_number

none_holds : (server over room spent : Bool) (w x y z : Refusal) (holder : Option ℕ)
    → cond server (Some w) (held_or holder (cond over (Some x) (cond (not room) (Some y) (cond spent (Some z) None)))) ≡ None
    → (server ≡ false) × (holder ≡ None) × (over ≡ false) × (room ≡ true) × (spent ≡ false)
none_holds true over room spent w x y z holder h = cc
none_holds false over room spent w x y z (Some number) h = cc
none_holds false true room spent w x y z None h = cc
none_holds false false false spent w x y z None h = cc
none_holds false false true true w x y z None h = cc
none_holds false false true false w x y z None h = (refl, refl, refl, refl, refl)

pub is_admitted : (j : Joining) (now : ℕ) (key : Key) (until : ℕ) → joining_refusal j now key until ≡ None → IsAdmitted j now key until
is_admitted j now key until h =
    let parts = none_holds (same_key key j.server) (is_expired now until) j.has_room (nat_lt max_number j.next) ServerKey LeaseOver CapacityReached NumbersSpent j.key_holder h in
    record { not_server = parts.0; unheld = parts.1; runs = parts.2; room = parts.3; left = has_number j.next parts.4 }
  where
    has_number : (m : ℕ) → nat_lt max_number m ≡ false → m ≤ max_number
    has_number m h = grind (arith, nat_tests)

pub has_room : (m c : ℕ) → nat_lt m c ≡ true → m < c
has_room m c h = grind (arith, nat_tests)

-- ---- the network with the new peer

abbrev pub with_peer : NetworkValue → Peer → NetworkValue
with_peer n p = record n { next = n.next + 1; peers = n.peers ++ p ∷ [] }

pub leads_on : (peers : List Peer) (p : Peer) (i : ℕ) → is_some (peer_of peers i) ≡ true → is_some (peer_of (peers ++ p ∷ []) i) ≡ true
leads_on [] p i h = cc
leads_on (q ∷ peers) p i h = step (nat_eq q.number i) h (λ rest. leads_on peers p i rest)
  where
    step : (b : Bool) → is_some (cond b (Some q) (peer_of peers i)) ≡ true
        → (is_some (peer_of peers i) ≡ true → is_some (peer_of (peers ++ p ∷ []) i) ≡ true)
        → is_some (cond b (Some q) (peer_of (peers ++ p ∷ []) i)) ≡ true
    step true h later = refl
    step false h later = later h

any_on : {X : Type 0} (q : X → Bool) (xs : List X) (x : X) → list_any q xs ≡ false → q x ≡ false → list_any q (xs ++ x ∷ []) ≡ false
any_on q [] x none here = ap (λ b. b || false) here
any_on q (y ∷ xs) x none here =
    let parts = or_false (q y) (list_any q xs) none in
    ap (λ b. b || list_any q (xs ++ x ∷ [])) parts.0 ∙ any_on q xs x parts.1 here

-- what a peer needs to join
pub record MayJoin (n : NetworkValue) (p : Peer) : Type 0 where
  pub next : p.number ≡ n.next
  pub number_left : n.next ≤ 1000000
  pub key_unheld : key_holder n.peers p.key ≡ None
  pub not_server : same_key p.key n.server ≡ false
  pub room : length n.peers < n.capacity
  pub address : IsOpen n p.address
  pub alone : p.second ≡ None

pub joined_is_network : (n : NetworkValue) (p : Peer) → IsNetwork n → MayJoin n p → IsNetwork (with_peer n p)
joined_is_network n p is may =
    let keys = key_free n.peers p.key may.key_unheld in
    let owners = list_any-none (λ (q : Peer). is_at q p.address) n.peers may.address.unowned in
    record {
      pool = is.pool;
      port = is.port;
      capacity = is.capacity;
      next = (omega arith, omega (arith, may.number_left));
      room = omega (arith, may.room, length-append n.peers (p ∷ []));
      members = All-push (IsMember (with_peer n p)) n.peers p
          (λ k d h. let m = is.members k d h in record { numbered = (m.numbered.0, omega (arith, m.numbered.1)); not_server = m.not_server; assignable = m.assignable; alone = m.alone })
          (record { numbered = (omega (arith, may.next, is.next.0), omega (arith, may.next)); not_server = may.not_server; assignable = may.address.assignable; alone = may.alone });
      numbered = all_pairs_push IsNumberedBelow n.peers p is.numbered (λ k d h. omega (arith, (is.members k d h).numbered.1, may.next));
      apart = all_pairs_push IsApart n.peers p is.apart (λ k d h. apart_alone (get_or n.peers k d) p may.alone (keys k d h) (owners k d h));
      few_routes = is.few_routes;
      routes = λ k d h. let r = is.routes k d h in
          record {
            masked = r.masked;
            leads = leads_on n.peers p (get_or n.routes k d).1 r.leads;
            no_address =
                let parts = or_false (list_any (λ (e : Peer). same_prefix (get_or n.routes k d).0 (full e.address)) n.peers) (same_prefix (get_or n.routes k d).0 (full (server_address n.pool))) r.no_address in
                let rest = any_on (λ (e : Peer). same_prefix (get_or n.routes k d).0 (full e.address)) n.peers p parts.0 (may.address.no_route k d h) in
                ap (λ b. b || same_prefix (get_or n.routes k d).0 (full (server_address n.pool))) rest ∙ parts.1;
          };
      ordered = is.ordered;
    }
