-- What a command makes of its own peer.
use Rattle.std.proofs.Common.{◌≡◌, ℕ, ◌+◌, ◌<◌, true, false, List, [], ◌∷◌, ◌++◌, Option, Some, None, refl, sym, ap, ◌∙◌, subst, arith}
use Rattle.std.specs.Prelude.{Result, Ok, Err, IfOk, IfSome}
use Rattle.std.proofs.lemmas.List.Elements.{All-weaker}
use Rattle.wgr_text.specs.Prefix.{AddrValue}
use Rattle.wgr_peers.specs.declared.peer.Peer.{Peer}
use Rattle.wgr_core.specs.declared.command.Command.{Command}
use Rattle.wgr_core.specs.declared.command.Command.TheVariants as command
use Rattle.wgr_core.specs.declared.refusal.Refusal.{Refusal}
use Rattle.wgr_core.specs.declared.reply.PeerView.{PeerView}
use Rattle.wgr_core.specs.declared.reply.Reply.{Reply}
use Rattle.wgr_core.specs.declared.reply.Reply.TheVariants as reply
use Rattle.wgr_peers.specs.Peers.{peer_of, put_peer}
use Rattle.wgr_peers.specs.Routes.{assign_route, route_of, routes_to, without_route}
use Rattle.wgr_core.specs.Adoption.{Adoption, adoption_of}
use Rattle.wgr_core.specs.Network.{NetworkValue, IsNetwork, IsMember, live_at}
use Rattle.wgr_core.specs.Owner.{owner_of}
use Rattle.wgr_core.specs.Outcome.{adopted, is_reading, lease_refusal, live_outcome, outcome_of, server_refusal, vacated, peer_view}
use Rattle.wgr_core.specs.Refusals.{address_refusal, join_refusal, place, route_refusal, unless_refused}
use Rattle.wgr_peers.proofs.PeerLemmas.{peer_is}
use Rattle.wgr_core.proofs.CommandLemmas.{put_peer_above}
use Rattle.wgr_core.proofs.LiveLemmas.{live_is_network}
use Rattle.wgr_core.proofs.OutcomeCases.{unless_if, place_if, stands_if, routed_if, owner_if, kept_if_reading}
use Rattle.wgr_laws.specs.PeerLaws.{AddedAsAsked, AddedCounts, MovedAlone, RenewedAlone, RepliesShowWhatStands, RoutesStay}
use Rattle.wgr_laws.proofs.ChangeLemmas.{put_stands_there}

-- ---- the peer that stands afterwards

-- a new peer stands at its number
appended_stands : (n : NetworkValue) (p : Peer) → IsNetwork n → p.number ≡ n.next → peer_of (n.peers ++ p ∷ []) p.number ≡ Some p
appended_stands n p is next =
    ap (λ (peers : List Peer). peer_of peers p.number) (sym (put_peer_above n.peers p (All-weaker (IsMember n) (λ q. q.number < p.number) (λ q member. omega (arith, member.numbered.1, next)) n.peers is.members)))
    ∙ put_stands_there n.peers p

number_is : (peers : List Peer) (number : ℕ) (p : Peer) → peer_of peers number ≡ Some p → p.number ≡ number
number_is peers number p found = (peer_is (λ p. Unit {0}) peers number p (λ k d h. tt) found).1

-- a peer stands at the number of the one whose place it took
put_at : (peers : List Peer) (number : ℕ) (p q : Peer) → peer_of peers number ≡ Some p → q.number ≡ p.number → peer_of (put_peer peers q) number ≡ Some q
put_at peers number p q found same = subst (λ (i : ℕ). peer_of (put_peer peers q) i ≡ Some q) (same ∙ number_is peers number p found) (put_stands_there peers q)

-- a named address is the one that is taken
as_named : (n : NetworkValue) (wanted : Option AddrValue) (a : AddrValue) → place n n.pool wanted ≡ Ok a → IfSome wanted (λ b. a ≡ b)
as_named n None a placed = tt
as_named n (Some b) a placed = named (address_refusal n n.pool b) placed
  where
    named : (why : Option Refusal) → unless_refused why b ≡ Ok a → a ≡ b
    named None is = cc
    named (Some why) is = cc

one_peer : {p q : Peer} → Some p ≡ Some q → p ≡ q
one_peer {p} {q} same = cc

-- ---- what is kept of a live network, for the whole one

module _ (P : Reply × NetworkValue → Type 0) where
  changed_if : (n : NetworkValue) (now : ℕ) (asked : Command) → is_reading asked ≡ false → IfOk (live_outcome (live_at n now) now asked) P → IfOk (outcome_of n now asked) P
  changed_if n now asked changes holds = kept_if_reading P n (is_reading asked) (live_outcome (live_at n now) now asked) (λ reads. let bad : true ≡ false = sym reads ∙ changes in cc) (λ changes. holds)

pub added_as_asked : AddedAsAsked
added_as_asked n now key label wanted until keepalive is =
    let live = live_at n now in
    let P = λ (done : Reply × NetworkValue). (a : AddrValue) × IfSome wanted (λ b. a ≡ b) × (peer_of done.1.peers n.next ≡ Some (record { number = n.next; key = key; label = label; address = a; second = None; until = until; keepalive = keepalive; status = None })) in
    changed_if P n now (command.Add key label wanted until keepalive) refl
    (unless_if P (join_refusal live now key until) _ (λ admitted.
    place_if P (place live live.pool wanted) _ (λ a placed.
    (a, as_named live wanted a placed, appended_stands live (record { number = n.next; key = key; label = label; address = a; second = None; until = until; keepalive = keepalive; status = None }) (live_is_network n now is) refl))))

pub added_counts : AddedCounts
added_counts n now key label wanted until keepalive =
    let live = live_at n now in
    let P = λ (done : Reply × NetworkValue). done.1.next ≡ n.next + 1 in
    changed_if P n now (command.Add key label wanted until keepalive) refl
    (unless_if P (join_refusal live now key until) _ (λ admitted. place_if P (place live live.pool wanted) _ (λ a placed. refl)))

pub moved_alone : MovedAlone
moved_alone n now number wanted p stands =
    let live = live_at n now in
    let P = λ (done : Reply × NetworkValue). (a : AddrValue) × IfSome wanted (λ b. a ≡ b) × (peer_of done.1.peers number ≡ Some (record p { address = a })) in
    changed_if P n now (command.Move number wanted) refl
    (stands_if P (peer_of live.peers number) _ (λ q found.
    place_if P (place (vacated live (Some number)) live.pool wanted) _ (λ a placed.
    let same = one_peer (sym found ∙ stands) in
    (a, as_named (vacated live (Some number)) wanted a placed, put_at live.peers number q (record q { address = a }) found refl ∙ ap (λ (e : Peer). Some (record e { address = a })) same))))

pub renewed_alone : RenewedAlone
renewed_alone n now number until p stands =
    let live = live_at n now in
    let P = λ (done : Reply × NetworkValue). peer_of done.1.peers number ≡ Some (record p { until = until }) in
    changed_if P n now (command.Renew number until) refl
    (stands_if P (peer_of live.peers number) _ (λ q found.
    unless_if P (lease_refusal now until) _ (λ allowed.
    put_at live.peers number q (record q { until = until }) found refl ∙ ap (λ (e : Peer). Some (record e { until = until })) (one_peer (sym found ∙ stands)))))

pub routes_stay : RoutesStay
routes_stay n now number until keepalive key label wanted =
    let live = live_at n now in
    let P = λ (done : Reply × NetworkValue). done.1.routes ≡ live.routes in (
      changed_if P n now (command.Add key label wanted until keepalive) refl (unless_if P (join_refusal live now key until) _ (λ admitted. place_if P (place live live.pool wanted) _ (λ a placed. refl))),
      changed_if P n now (command.Move number wanted) refl (stands_if P (peer_of live.peers number) _ (λ p found. place_if P (place (vacated live (Some number)) live.pool wanted) _ (λ a placed. refl))),
      changed_if P n now (command.Renew number until) refl (stands_if P (peer_of live.peers number) _ (λ p found. unless_if P (lease_refusal now until) _ (λ allowed. refl))),
    )

-- ---- the peer that is answered

abbrev Shows : PeerView → Reply × NetworkValue → Type 0
Shows v done = done.0 ≡ reply.Peer v → (peer_of done.1.peers v.peer.number ≡ Some v.peer) × (v.routes ≡ routes_to done.1.routes v.peer.number)

shows : (v : PeerView) (n : NetworkValue) (p : Peer) → peer_of n.peers p.number ≡ Some p → Shows v (reply.Peer (peer_view n.routes p), n)
shows v n p stands = λ is.
    let same : peer_view n.routes p ≡ v = cc in
    subst (λ (v : PeerView). (peer_of n.peers v.peer.number ≡ Some v.peer) × (v.routes ≡ routes_to n.routes v.peer.number)) same (stands, refl)

-- a peer that is found stands at its own number
stands_at : (peers : List Peer) (number : ℕ) (p : Peer) → peer_of peers number ≡ Some p → peer_of peers p.number ≡ Some p
stands_at peers number p found = subst (λ (i : ℕ). peer_of peers i ≡ Some p) (sym (number_is peers number p found)) found

adoption_shows : (v : PeerView) (r : Result Adoption (ℕ × Refusal)) → IfOk (adopted r) (Shows v)
adoption_shows v (Err e) = tt
adoption_shows v (Ok s) = λ is. cc

shows_live : (v : PeerView) (n : NetworkValue) (now : ℕ) (asked : Command) → IsNetwork n → is_reading asked ≡ false → IfOk (live_outcome n now asked) (Shows v)
shows_live v n now (command.Add key label wanted until keepalive) is changes =
    unless_if (Shows v) (join_refusal n now key until) _ (λ admitted.
    place_if (Shows v) (place n n.pool wanted) _ (λ a placed.
    let p : Peer = record { number = n.next; key = key; label = label; address = a; second = None; until = until; keepalive = keepalive; status = None } in
    shows v (record n { next = n.next + 1; peers = n.peers ++ p ∷ [] }) p (appended_stands n p is refl)))
shows_live v n now (command.Move number wanted) is changes =
    stands_if (Shows v) (peer_of n.peers number) _ (λ p found.
    place_if (Shows v) (place (vacated n (Some number)) n.pool wanted) _ (λ a placed.
    shows v (record n { peers = put_peer n.peers (record p { address = a }) }) (record p { address = a }) (put_stands_there n.peers (record p { address = a }))))
shows_live v n now (command.Revoke number) is changes = stands_if (Shows v) (peer_of n.peers number) _ (λ p found. λ is. cc)
shows_live v n now (command.Route number prefix) is changes =
    stands_if (Shows v) (peer_of n.peers number) _ (λ p found.
    unless_if (Shows v) (route_refusal n prefix) _ (λ allows. shows v (record n { routes = assign_route n.routes prefix number }) p (stands_at n.peers number p found)))
shows_live v n now (command.Unroute prefix) is changes =
    routed_if (Shows v) n (route_of n.routes prefix) _ (λ number p found. shows v (record n { routes = without_route n.routes prefix }) p (stands_at n.peers number p found))
shows_live v n now (command.Renew number until) is changes =
    stands_if (Shows v) (peer_of n.peers number) _ (λ p found.
    unless_if (Shows v) (lease_refusal now until) _ (λ allowed.
    shows v (record n { peers = put_peer n.peers (record p { until = until }) }) (record p { until = until }) (put_stands_there n.peers (record p { until = until }))))
shows_live v n now (command.Adopt server lines) is changes = unless_if (Shows v) (server_refusal n server) _ (λ allowed. adoption_shows v (adoption_of n lines))
shows_live v n now command.List is changes = cc
shows_live v n now (command.Owner address) is changes = cc
shows_live v n now (command.ServerFile form) is changes = cc
shows_live v n now (command.PeerFile number form) is changes = cc

-- a reading answers no peer alone
reads_none : (v : PeerView) (n m : NetworkValue) (now : ℕ) (asked : Command) → is_reading asked ≡ true → IfOk (live_outcome n now asked) (λ done. Shows v (done.0, m))
reads_none v n m now (command.Add key label wanted until keepalive) reads = cc
reads_none v n m now (command.Move number wanted) reads = cc
reads_none v n m now (command.Revoke number) reads = cc
reads_none v n m now (command.Route number prefix) reads = cc
reads_none v n m now (command.Unroute prefix) reads = cc
reads_none v n m now (command.Renew number until) reads = cc
reads_none v n m now (command.Adopt server lines) reads = cc
reads_none v n m now command.List reads = λ is. cc
reads_none v n m now (command.Owner address) reads = owner_if (λ done. Shows v (done.0, m)) n (owner_of n address) (λ number found. λ is. cc)
reads_none v n m now (command.ServerFile form) reads = λ is. cc
reads_none v n m now (command.PeerFile number form) reads = stands_if (λ done. Shows v (done.0, m)) (peer_of n.peers number) _ (λ p found. λ is. cc)

pub replies_show_what_stands : RepliesShowWhatStands
replies_show_what_stands n now asked v is =
    kept_if_reading (Shows v) n (is_reading asked) (live_outcome (live_at n now) now asked)
    (λ reads. reads_none v (live_at n now) n now asked reads)
    (λ changes. shows_live v (live_at n now) now asked (live_is_network n now is) changes)
