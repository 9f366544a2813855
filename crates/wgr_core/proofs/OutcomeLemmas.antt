-- A command leaves a network that keeps the rules.
use Rattle.std.proofs.Common.{◌≡◌, ℕ, ◌<◌, ◌≤◌, inl, inr, Bool, true, false, not, ◌&&◌, cond, nat_eq, nat_lt, List, [], ◌∷◌, length, Option, Some, None, is_some, refl, sym, ap, ◌∙◌, subst, arith}
use Rattle.std.specs.Prelude.{IfOk}
use Rattle.std.specs.List.{All}
use Rattle.std.proofs.lemmas.Bool.Decides.{nat_tests}
use Rattle.std.proofs.lemmas.List.Elements.{All-cons}
use Rattle.std.proofs.lemmas.Result.{IfOk-weaker}
use Rattle.wgr_text.specs.declared.key.Key.{Key}
use Rattle.wgr_text.specs.Prefix.{AddrValue, PrefixValue, IsAddr, IsPrefix}
use Rattle.wgr_peers.specs.declared.peer.Peer.{Peer}
use Rattle.wgr_core.specs.declared.command.Command.{Command}
use Rattle.wgr_core.specs.declared.command.Command.TheVariants as command
use Rattle.wgr_core.specs.declared.refusal.Refusal.{Refusal}
use Rattle.wgr_core.specs.declared.refusal.Refusal.TheVariants.{CapacityReached, IsAddress, NumbersSpent, LeaseOver, RoutesFull, ServerKey}
use Rattle.wgr_core.specs.declared.reply.Reply.{Reply}
use Rattle.wgr_pool.specs.PrefixTests.{full, same_address}
use Rattle.wgr_peers.specs.Limits.{is_expired}
use Rattle.wgr_peers.specs.Peers.{is_own, key_holder, peer_of, same_key, without_peer, is_at}
use Rattle.wgr_peers.specs.Routes.{route_of}
use Rattle.wgr_core.specs.Network.{NetworkValue, IsNetwork, IsMember, is_address, live_at}
use Rattle.wgr_core.specs.Owner.{owner_of}
use Rattle.wgr_core.specs.Outcome.{Outcome, add, vacated, move, revoke, lease_refusal, renew, route, unroute, live_outcome, is_reading, outcome_of, IsAsked}
use Rattle.wgr_core.specs.Refusals.{join_refusal, joining_of, place, route_refusal}
use Rattle.wgr_pool.proofs.Bools.{decide, or_false}
use Rattle.wgr_core.proofs.KeptLemmas.{without_is_network, unrouted_is_network}
use Rattle.wgr_core.proofs.OutcomeCases.{unless_if, place_if, stands_if, routed_if, owner_if, kept_if_reading}
use Rattle.wgr_core.proofs.LiveLemmas.{live_is_network}
use Rattle.wgr_core.proofs.JoinLemmas.{has_room, is_admitted, place_is_open, joined_is_network}
use Rattle.wgr_peers.proofs.PeerLemmas.{peer_is}
use Rattle.wgr_core.proofs.ReplaceLemmas.{amended_is_network, replaced_is_network}
use Rattle.wgr_core.proofs.RoutedKeeps.{MayRoute, no_route_refusal, routed_is_network}
use Rattle.wgr_core.proofs.AdoptKeeps.{adopt_keeps}

-- where a command is accepted, the network after it keeps the rules
abbrev pub Keeps : Outcome → Type 0
Keeps o = IfOk o (λ done. IsNetwork done.1)

abbrev After : Reply × NetworkValue → Type 0
After done = IsNetwork done.1

pub add_keeps : (n : NetworkValue) (now : ℕ) (key : Key) (label : List ℕ) (wanted : Option AddrValue) (until keepalive : ℕ) → IsNetwork n → Keeps (add n now key label wanted until keepalive)
add_keeps n now key label wanted until keepalive is =
    unless_if After (join_refusal n now key until) _ (λ admitted.
    place_if After (place n n.pool wanted) _ (λ a placed.
    let may = is_admitted (joining_of n key) now key until admitted in
    joined_is_network n (record { number = n.next; key = key; label = label; address = a; second = None; until = until; keepalive = keepalive; status = None }) is
    (record { next = refl; number_left = may.left; key_unheld = may.unheld; not_server = may.not_server; room = has_room (length n.peers) n.capacity may.room; address = place_is_open n wanted a is.pool placed; alone = refl })))

-- ---- a peer that moves, leaves, or has another lease

-- no other peer has an address that nobody has where one peer is left out
unowned_but : (peers : List Peer) (number : ℕ) (a : AddrValue) → is_own (without_peer peers number) a ≡ false → All (λ e. nat_eq e.number number ≡ false → is_at e a ≡ false) peers
unowned_but [] number a unowned = λ k d h. absurd (omega (arith, h))
unowned_but (p ∷ peers) number a unowned =
    let others = without_peer peers number in
    elim (decide (nat_eq p.number number)) [
      | inl here ↦
          All-cons (λ e. nat_eq e.number number ≡ false → is_at e a ≡ false) p peers (λ apart. let bad : true ≡ false = sym here ∙ apart in cc)
          (unowned_but peers number a (sym (ap (λ b. is_own (cond (not b) (p ∷ others) others) a) here) ∙ unowned))
      | inr apart ↦
          let parts = or_false (is_at p a) (is_own others a) (sym (ap (λ b. is_own (cond (not b) (p ∷ others) others) a) apart) ∙ unowned) in
          All-cons (λ e. nat_eq e.number number ≡ false → is_at e a ≡ false) p peers (λ other. parts.0) (unowned_but peers number a parts.1)
    ]

pub move_keeps : (n : NetworkValue) (number : ℕ) (wanted : Option AddrValue) → IsNetwork n → Keeps (move n number wanted)
move_keeps n number wanted is =
    stands_if After (peer_of n.peers number) _ (λ p found.
    place_if After (place (vacated n (Some number)) n.pool wanted) _ (λ a placed.
    let may = place_is_open (vacated n (Some number)) wanted a is.pool placed in
    let at : p.number ≡ number = (peer_is (IsMember n) n.peers number p is.members found).1 in
    replaced_is_network n p (record p { address = a }) is
    (record {
      stands = ap (peer_of n.peers) at ∙ found;
      key = refl;
      assignable = may.assignable;
      unowned = subst (λ (i : ℕ). All (λ e. nat_eq e.number i ≡ false → is_at e a ≡ false) n.peers) (sym at) (unowned_but n.peers number a may.unowned);
      no_route = may.no_route;
      alone = (peer_is (IsMember n) n.peers number p is.members found).0.alone;
    })))

pub renew_keeps : (n : NetworkValue) (now number until : ℕ) → IsNetwork n → Keeps (renew n now number until)
renew_keeps n now number until is =
    stands_if After (peer_of n.peers number) _ (λ p found.
    unless_if After (lease_refusal now until) _ (λ allowed.
    let at = (peer_is (IsMember n) n.peers number p is.members found).1 in
    amended_is_network n p until p.status is (ap (peer_of n.peers) at ∙ found)))

pub revoke_keeps : (n : NetworkValue) (number : ℕ) → IsNetwork n → Keeps (revoke n number)
revoke_keeps n number is = stands_if After (peer_of n.peers number) _ (λ p found. without_is_network n (number ∷ []) is)

-- ---- routes

pub may_route : (n : NetworkValue) (number : ℕ) (prefix : PrefixValue) (p : Peer) → IsAddr prefix.address × IsPrefix prefix → peer_of n.peers number ≡ Some p → route_refusal n prefix ≡ None → MayRoute n prefix number
may_route n number prefix p masked found allowed =
    let parts = no_route_refusal (is_address n prefix) (not (is_some (route_of n.routes prefix)) && not (nat_lt (length n.routes) 4096)) IsAddress RoutesFull allowed in
    record { masked = masked; stands = ap is_some found; no_address = parts.0; room = parts.1 }

pub route_keeps : (n : NetworkValue) (number : ℕ) (prefix : PrefixValue) → IsNetwork n → IsAddr prefix.address × IsPrefix prefix → Keeps (route n number prefix)
route_keeps n number prefix is masked =
    stands_if After (peer_of n.peers number) _ (λ p found.
    unless_if After (route_refusal n prefix) _ (λ allowed. routed_is_network n prefix number is (may_route n number prefix p masked found allowed)))

pub unroute_keeps : (n : NetworkValue) (prefix : PrefixValue) → IsNetwork n → Keeps (unroute n prefix)
unroute_keeps n prefix is = routed_if After n (route_of n.routes prefix) _ (λ number p found. unrouted_is_network n prefix is)

-- ---- each command

pub live_outcome_keeps : (n : NetworkValue) (now : ℕ) (asked : Command) → IsNetwork n → IsAsked asked → Keeps (live_outcome n now asked)
live_outcome_keeps n now (command.Add key label wanted until keepalive) is fits = add_keeps n now key label wanted until keepalive is
live_outcome_keeps n now (command.Move number wanted) is fits = move_keeps n number wanted is
live_outcome_keeps n now (command.Revoke number) is fits = revoke_keeps n number is
live_outcome_keeps n now (command.Route number prefix) is fits = route_keeps n number prefix is fits
live_outcome_keeps n now (command.Unroute prefix) is fits = unroute_keeps n prefix is
live_outcome_keeps n now (command.Renew number until) is fits = renew_keeps n now number until is
live_outcome_keeps n now (command.Adopt server lines) is fits = adopt_keeps n server lines is fits
live_outcome_keeps n now command.List is fits = is
live_outcome_keeps n now (command.Owner address) is fits = owner_if After n (owner_of n address) (λ number found. is)
live_outcome_keeps n now (command.ServerFile form) is fits = is
live_outcome_keeps n now (command.PeerFile number form) is fits = stands_if After (peer_of n.peers number) _ (λ p found. is)

pub outcome_keeps : (n : NetworkValue) (now : ℕ) (asked : Command) → IsNetwork n → IsAsked asked → Keeps (outcome_of n now asked)
outcome_keeps n now asked is fits =
    let after = live_outcome_keeps (live_at n now) now asked (live_is_network n now is) fits in
    kept_if_reading After n (is_reading asked) (live_outcome (live_at n now) now asked)
    (λ reads. IfOk-weaker (live_outcome (live_at n now) now asked) After (λ done. IsNetwork n) (λ done keeps. is) after)
    (λ changes. after)
