-- What Add and Owner come to, by what is read of the rows.
use Rattle.std.proofs.Common.{◌≡◌, ℕ, ◌+◌, ◌<◌, ◌≤◌, Bool, true, false, not, ◌||◌, cond, nat_lt, List, [], ◌∷◌, ◌++◌, length, Option, Some, None, Result, Ok, Err, IfErr, IsErrAnd, is_some, refl, sym, ap, subst, ◌∙◌, arith}
use Rattle.std.specs.List.{All, filter}
use Rattle.std.proofs.lemmas.Bool.Decides.{nat_tests}
use Rattle.std.proofs.lemmas.List.{length-map}
use Rattle.std.proofs.lemmas.List.Elements.{All-head, All-tail}
use Rattle.wgr_text.specs.declared.key.Key.{Key}
use Rattle.wgr_text.specs.Prefix.{AddrValue}
use Rattle.wgr_pool.specs.Allot.{is_assignable}
use Rattle.wgr_pool.specs.PrefixTests.{full}
use Rattle.wgr_pool.proofs.Lists.{AllPairs-head, AllPairs-tail}
use Rattle.wgr_peers.specs.declared.peer.Peer.{Peer}
use Rattle.wgr_peers.specs.Limits.{is_expired, max_number}
use Rattle.wgr_peers.specs.Peers.{AreNumbered, IsNumberedBelow, expired, expired_addresses, is_live, is_own, key_holder, same_key}
use Rattle.wgr_peers.specs.Routes.{route_of, routes_to}
use Rattle.wgr_peers.proofs.PlaceLemmas.{below_test}
use Rattle.wgr_core.specs.declared.change.Change.{Change}
use Rattle.wgr_core.specs.declared.command.Command.TheVariants as command
use Rattle.wgr_core.specs.declared.fault.ActFault.TheVariants as act
use Rattle.wgr_core.specs.declared.refusal.Refusal.{Refusal}
use Rattle.wgr_core.specs.declared.joining.Joining.{Joining}
use Rattle.wgr_core.specs.declared.refusal.Refusal.TheVariants.{NobodysAddress}
use Rattle.wgr_core.specs.declared.reply.Reply.{Reply}
use Rattle.wgr_core.specs.declared.reply.Reply.TheVariants as reply
use Rattle.wgr_core.specs.Change.{Meets, MeetsLive}
use Rattle.wgr_core.specs.Network.{IsNetwork, NetworkValue, live_at}
use Rattle.wgr_core.specs.Outcome.{Outcome, add, at_place, joined, kept_if, or_nobodys, outcome_of, unless}
use Rattle.wgr_core.specs.Refusals.{is_address_taken, join_refusal, joining_of, of_command, place}
use Rattle.wgr_core.specs.Owner.{owner_of}
use Rattle.wgr_core.proofs.CommandLemmas.{meets_from_live, none_to_next, put_peer_above}
use Rattle.wgr_core.proofs.LiveLemmas.{live_is_network}
use Rattle.wgr_core.proofs.LiveLooks.{live_count}
use Rattle.sqlite.specs.State.{State, HasCleanDisk, Survives}
use Rattle.wgr_sql.proofs.CauseLemmas.{cause_after}
use Rattle.wgr_sql.specs.Causes.{HasCause}
use Rattle.wgr_sql.specs.declared.fault.Fault.{Fault}
use Rattle.wgr_sql.specs.declared.fault.Fault.TheVariants.{NoMemory, Store}
use Rattle.wgr_rows.specs.Act.{Admits, IfFails, IsPlaced, as_acted}
use Rattle.wgr_rows.specs.declared.fault.RowFault.{RowFault}
use Rattle.wgr_rows.specs.declared.fault.RowFault.TheVariants as fault
use Rattle.wgr_rows.specs.Holder.{prefix_holder}
use Rattle.wgr_rows.proofs.LeadLemmas.{full_held}
use Rattle.wgr_core.proofs.AloneLemmas.{members_alone}

-- ---- whether a peer may join

-- what was read of the rows is what decides on the live network
pub joining_is : (n : NetworkValue) (now : ℕ) (key server : Key) (holder : Option ℕ) (room : Bool) (next : ℕ)
    → server ≡ n.server → holder ≡ key_holder (live_at n now).peers key → room ≡ nat_lt (length (live_at n now).peers) n.capacity → next ≡ n.next
    → record { server = server; key_holder = holder; has_room = room; next = next } ≡ joining_of (live_at n now) key
joining_is n now key server holder room next servers holders rooms nexts =
    let live = live_at n now in
    let j : Joining = record { server = server; key_holder = holder; has_room = room; next = next } in
    let same_server : j ≡ record j { server = n.server } = ap (λ (k : Key). record j { server = k }) servers in
    let same_holder : record j { server = n.server } ≡ record j { server = n.server; key_holder = key_holder live.peers key } = ap (λ (h : Option ℕ). record j { server = n.server; key_holder = h }) holders in
    let same_room : record j { server = n.server; key_holder = key_holder live.peers key } ≡ record (joining_of live key) { next = next } = ap (λ (b : Bool). record (joining_of live key) { has_room = b; next = next }) rooms in
    let same_next : record (joining_of live key) { next = next } ≡ joining_of live key = ap (λ (m : ℕ). record (joining_of live key) { next = m }) nexts in
    same_server ∙ same_holder ∙ same_room ∙ same_next

-- ---- room

count_from : (floor next : ℕ) (peers : List Peer) → AreNumbered peers → All (λ p. floor ≤ p.number) peers → All (λ p. p.number < next) peers → floor ≤ next → floor + length peers ≤ next
count_from floor next [] pairs low high at = omega (arith, at)
count_from floor next (p ∷ peers) pairs low high at =
    let above = AllPairs-head IsNumberedBelow p peers pairs in
    let first = All-head (λ q. floor ≤ q.number) p peers low in
    let last = All-head (λ q. q.number < next) p peers high in
    let rest = count_from (p.number + 1) next peers (AllPairs-tail IsNumberedBelow p peers pairs) (λ k d h. omega (arith, above k d h)) (All-tail (λ q. q.number < next) p peers high) (omega (arith, last)) in
    omega (arith, first, rest)

-- there are fewer peers than numbers up to the next
few_peers : (n : NetworkValue) → IsNetwork n → length n.peers < n.next
few_peers n is =
    let all = count_from 1 n.next n.peers is.numbered (λ k d h. (is.members k d h).numbered.0) (λ k d h. (is.members k d h).numbered.1) is.next.0 in
    omega (arith, all)

live_peers : (n : NetworkValue) (now : ℕ) → length (live_at n now).peers + length (expired now n.peers) ≡ length n.peers
live_peers n now =
    let over = length-map (filter (λ (p : Peer). not (is_live now p)) n.peers) (λ (p : Peer). p.number) in
    let same = length-map (filter (λ (p : Peer). not (is_live now p)) n.peers) (λ (p : Peer). p.address) in
    let both = live_count now n.peers (expired_addresses now n.peers) refl in
    omega (arith, over, same, both)

pub room_by_numbers : (n : NetworkValue) (now : ℕ) → IsNetwork n → n.next ≤ n.capacity → nat_lt (length (live_at n now).peers) n.capacity ≡ true
room_by_numbers n now is l =
    let few = few_peers n is in
    let live = live_peers n now in
    below_test (length (live_at n now).peers) n.capacity (omega (arith, few, live, l))

pub room_by_count : (n : NetworkValue) (now over : ℕ) → over ≡ length (expired now n.peers) → nat_lt (length n.peers) (over + n.capacity) ≡ nat_lt (length (live_at n now).peers) n.capacity
room_by_count n now over is = same (length n.peers) (length (live_at n now).peers) n.capacity over (omega (arith, live_peers n now, is))
  where
    same : (all live most over : ℕ) → live + over ≡ all → nat_lt all (over + most) ≡ nat_lt live most
    same all live most over e = grind (arith, nat_tests)

-- ---- the address

-- a named address is taken where the prefix at full length leads to a peer, and there alone
pub taken_is : (m : NetworkValue) (a : AddrValue) (holder : Option ℕ) → IsNetwork m → holder ≡ prefix_holder m (full a) → is_address_taken m a ≡ is_some holder
taken_is m a holder is found = sym (full_held m a (members_alone m is)) ∙ ap is_some (sym found)

-- ---- the outcome

-- the new peer's view, and the change by which it joins
abbrev pub joined_by : Peer → List ℕ → Reply × Option Change
joined_by p removed = (reply.Peer (record { peer = p; routes = [] }), Some (record { removed = removed; peers = p ∷ []; routes_put = []; routes_gone = []; next = p.number + 1 }))

joins : (n : NetworkValue) (p : Peer) (removed : List ℕ) → IsNetwork n → p.number ≡ n.next → MeetsLive false None n removed (Ok (joined_by p removed)) (joined n p)
joins n p removed is next =
    let none : routes_to n.routes p.number ≡ [] = ap (routes_to n.routes) next ∙ none_to_next n is in
    let above : All (λ q. q.number < p.number) n.peers = λ k d h. omega (arith, (is.members k d h).numbered.1, next) in (
      ap (λ rs. reply.Peer (record { peer = p; routes = rs })) (sym none),
      (
        refl,
        ap (λ (ps : List Peer). record n { next = p.number + 1; peers = ps }) (put_peer_above n.peers p above) ∙ ap (λ (m : ℕ). record n { next = m + 1; peers = n.peers ++ p ∷ [] }) next,
      ),
    )

module _ (n : NetworkValue) (is : IsNetwork n) (now : ℕ) where
  module _ (key : Key) (label : List ℕ) (wanted : Option AddrValue) (until keepalive : ℕ) where
    abbrev after : AddrValue → Outcome
    after a = joined (live_at n now) (record { number = n.next; key = key; label = label; address = a; second = None; until = until; keepalive = keepalive; status = None })

    meets_refused : (why : Refusal) → add (live_at n now) now key label wanted until keepalive ≡ Err (of_command why) → Meets n (Err (act.Refused (of_command why))) (outcome_of n now (command.Add key label wanted until keepalive))
    meets_refused why so = subst (λ o. Meets n (Err (act.Refused (of_command why))) (kept_if false n o)) (sym so) refl

    pub not_admitted : (why : Refusal) → join_refusal (live_at n now) now key until ≡ Some why → Meets n (Err (act.Refused (of_command why))) (outcome_of n now (command.Add key label wanted until keepalive))
    not_admitted why so = meets_refused why (ap (λ o. unless o (at_place (place (live_at n now) n.pool wanted) after)) so)

    pub not_placed : (why : Refusal) → join_refusal (live_at n now) now key until ≡ None → place (live_at n now) n.pool wanted ≡ Err why → Meets n (Err (act.Refused (of_command why))) (outcome_of n now (command.Add key label wanted until keepalive))
    not_placed why none so = meets_refused why (ap (λ o. unless o (at_place (place (live_at n now) n.pool wanted) after)) none ∙ ap (λ o. at_place o after) so)

    pub is_added : (a : AddrValue) (p : Peer) (removed : List ℕ) → join_refusal (live_at n now) now key until ≡ None → place (live_at n now) n.pool wanted ≡ Ok a
        → p ≡ record { number = n.next; key = key; label = label; address = a; second = None; until = until; keepalive = keepalive; status = None } → removed ≡ expired now n.peers
        → Meets n (Ok (joined_by p removed)) (outcome_of n now (command.Add key label wanted until keepalive))
    is_added a p removed none placed peer over =
        let so : add (live_at n now) now key label wanted until keepalive ≡ joined (live_at n now) p = ap (λ o. unless o (at_place (place (live_at n now) n.pool wanted) after)) none ∙ ap (λ o. at_place o after) placed ∙ ap (joined (live_at n now)) (sym peer) in
        meets_from_live n (live_at n now) now (command.Add key label wanted until keepalive) removed (Ok (joined_by p removed)) is refl over
        (subst (λ o. MeetsLive false None (live_at n now) removed (Ok (joined_by p removed)) o) (sym so) (joins (live_at n now) p removed (live_is_network n now is) (ap (λ (q : Peer). q.number) peer)))

    pub unadmitted : (r : Result (Reply × Option Change) RowFault) (why : RowFault) → IsErrAnd r (λ e. e ≡ why) → Admits n now key until (Err why) → Meets n (as_acted r) (outcome_of n now (command.Add key label wanted until keepalive))
    unadmitted (Ok given) why is told = absurd is
    unadmitted (Err e) why is told = subst (λ x. Meets n (as_acted (Err x)) (outcome_of n now (command.Add key label wanted until keepalive))) (sym is) (by why told)
      where
        by : (x : RowFault) → Admits n now key until (Err x) → Meets n (as_acted (Err x)) (outcome_of n now (command.Add key label wanted until keepalive))
        by (fault.Refused refusal) so = not_admitted refusal so
        by (fault.Fault failed) so = tt

    pub unplaced : (r : Result (Reply × Option Change) RowFault) (why : RowFault) → IsErrAnd r (λ e. e ≡ why) → join_refusal (live_at n now) now key until ≡ None → IsPlaced (place (live_at n now) n.pool wanted) (Err why)
        → Meets n (as_acted r) (outcome_of n now (command.Add key label wanted until keepalive))
    unplaced (Ok given) why is none told = absurd is
    unplaced (Err e) why is none told = subst (λ x. Meets n (as_acted (Err x)) (outcome_of n now (command.Add key label wanted until keepalive))) (sym is) (by why told)
      where
        by : (x : RowFault) → IsPlaced (place (live_at n now) n.pool wanted) (Err x) → Meets n (as_acted (Err x)) (outcome_of n now (command.Add key label wanted until keepalive))
        by (fault.Refused refusal) so = not_placed refusal none so
        by (fault.Fault failed) so = tt

  pub is_owner : (a : AddrValue) (number : ℕ) → Some number ≡ owner_of (live_at n now) a → Meets n (Ok (reply.Owner number, None)) (outcome_of n now (command.Owner a))
  is_owner a number so = subst (λ o. Meets n (Ok (reply.Owner number, None)) (kept_if true n (or_nobodys (live_at n now) o))) so (refl, refl)

  pub is_nobodys : (a : AddrValue) → None ≡ owner_of (live_at n now) a → Meets n (Err (act.Refused (of_command NobodysAddress))) (outcome_of n now (command.Owner a))
  is_nobodys a so = subst (λ o. Meets n (Err (act.Refused (of_command NobodysAddress))) (kept_if true n (or_nobodys (live_at n now) o))) so refl

-- ---- faults

-- a fault that is handed on
pub fault_told : {X : Type 0} (P : Fault → Type 0) (r : Result X RowFault) (why : Fault) → IsErrAnd r (λ e. e ≡ fault.Fault why) → P why → IfErr r (IfFails P)
fault_told P (Ok x) why is h = tt
fault_told P (Err (fault.Refused other)) why is h = tt
fault_told P (Err (fault.Fault other)) why is h = let same : other ≡ why = cc in subst P (sym same) h

-- a fault of the store may be taken to come while the disk is clean
pub cause_clean : (old new : State) (why : Fault) → (HasCleanDisk new → HasCause old new why) → HasCause old new why
cause_clean old new NoMemory h = tt
cause_clean old new (Store w) h = λ clean. h clean clean

-- a call that came before left the cause
pub later : (a b d : State) → Survives a b (λ _. ⊥) → Survives b d (λ _. ⊥) → (why : Fault) → HasCause b d why → HasCause a d why
later a b d s t why h = cause_after a b d ⊥ ⊥ (λ _. ⊥) (λ _. ⊥) s t (λ none. none) why h

later_on : (a b d : State) → Survives a b (λ _. ⊥) → Survives b d (λ _. ⊥) → (why : RowFault) → IfFails (HasCause b d) why → IfFails (HasCause a d) why
later_on a b d s t (fault.Refused why) h = tt
later_on a b d s t (fault.Fault why) h = later a b d s t why h

-- why a command on rows isn't done, as it is handed on
pub why_told : {X : Type 0} (P : RowFault → Type 0) (r : Result X RowFault) (why : RowFault) → IsErrAnd r (λ e. e ≡ why) → P why → IfErr r P
why_told P (Ok x) why is h = tt
why_told P (Err e) why is h = subst P (sym is) h

clean_on : (old new : State) (why : RowFault) → (HasCleanDisk new → IfFails (HasCause old new) why) → IfFails (HasCause old new) why
clean_on old new (fault.Refused why) h = tt
clean_on old new (fault.Fault why) h = cause_clean old new why h

-- the same for one that came after another call, where what that call said holds of a clean disk
pub why_later : {X : Type 0} (a b d : State) → Survives a b (λ _. ⊥) → Survives b d (λ _. ⊥) → (r : Result X RowFault) (why : RowFault) → IsErrAnd r (λ e. e ≡ why) → (HasCleanDisk d → IfFails (HasCause b d) why) → IfErr r (IfFails (HasCause a d))
why_later a b d s t r why is h = why_told (IfFails (HasCause a d)) r why is (clean_on a d why (λ clean. later_on a b d s t why (h clean)))
