-- What a command leaves as it was.
use Rattle.std.proofs.Common.{◌≡◌, ℕ, ◌<◌, ◌↔◌, true, false, not, nat_eq, ◌||◌, List, [], ◌∷◌, ◌++◌, Option, Some, None, refl, sym, ap, ◌∙◌, subst, arith}
use Rattle.std.specs.Prelude.{IfOk}
use Rattle.std.proofs.lemmas.Bool.Decides.{nat_tests}
use Rattle.std.proofs.lemmas.Result.{IfOk-weaker}
use Rattle.wgr_text.specs.Prefix.{PrefixValue}
use Rattle.wgr_peers.specs.declared.peer.Peer.{Peer}
use Rattle.wgr_core.specs.declared.command.Command.{Command}
use Rattle.wgr_core.specs.declared.command.Command.TheVariants as command
use Rattle.wgr_core.specs.declared.reply.Reply.{Reply}
use Rattle.wgr_peers.specs.Peers.{peer_of, put_peer}
use Rattle.wgr_peers.specs.Routes.{Routes, assign_route, route_of, without_route}
use Rattle.wgr_core.specs.Network.{NetworkValue, IsNetwork, is_among, live_at, without_peers}
use Rattle.wgr_core.specs.Owner.{owner_of}
use Rattle.wgr_core.specs.Outcome.{vacated, lease_refusal, adopt, live_outcome, is_reading, outcome_of}
use Rattle.wgr_core.specs.Refusals.{join_refusal, place, route_refusal}
use Rattle.wgr_laws.specs.Laws.{HasSettingsOf, is_on, is_on_route}
use Rattle.wgr_core.proofs.KeptLemmas.{kept_stands}
use Rattle.wgr_core.proofs.LiveLemmas.{live_is_network}
use Rattle.wgr_peers.proofs.PeerLemmas.{peer_is}
use Rattle.wgr_core.proofs.LookLemmas.{route_kept}
use Rattle.wgr_laws.proofs.ChangeLemmas.{assigned_others, put_others, removed_others}
use Rattle.wgr_core.proofs.OutcomeCases.{unless_if, place_if, stands_if, routed_if, owner_if, kept_if_reading}
use Rattle.wgr_laws.proofs.NextSteps.{appended_absent, appended_found}
use Rattle.wgr_laws.proofs.AdoptNext.{adopt_settings}

-- what is left of a live network
record IsFramed (n : NetworkValue) (asked : Command) (done : Reply × NetworkValue) : Type 0 where
  settings : HasSettingsOf n done.1
  peers : (i : ℕ) → i < n.next → is_on asked i ≡ false → peer_of done.1.peers i ≡ peer_of n.peers i
  routes : (q : PrefixValue) (i : ℕ) → is_on asked i ≡ false → is_on_route asked q ≡ false → (route_of done.1.routes q ≡ Some i) ↔ (route_of n.routes q ≡ Some i)

same_settings : (n : NetworkValue) → HasSettingsOf n n
same_settings n = record { pool = refl; host = refl; port = refl; server = refl; capacity = refl }

same_routes : (n : NetworkValue) (q : PrefixValue) (i : ℕ) → (route_of n.routes q ≡ Some i) ↔ (route_of n.routes q ≡ Some i)
same_routes n q i = ((λ h. h), (λ h. h))

led_alike : (xs ys : Routes) (q : PrefixValue) (i : ℕ) → route_of xs q ≡ route_of ys q → (route_of xs q ≡ Some i) ↔ (route_of ys q ≡ Some i)
led_alike xs ys q i same = ((λ h. sym same ∙ h), (λ h. same ∙ h))

appended_others : (peers : List Peer) (p : Peer) (i : ℕ) → i < p.number → peer_of (peers ++ p ∷ []) i ≡ peer_of peers i
appended_others peers p i l = by_peer (peer_of peers i) refl
  where
    above : (m : ℕ) → i < m → nat_eq m i ≡ false
    above m l = grind (arith, nat_tests)

    by_peer : (o : Option Peer) → peer_of peers i ≡ o → peer_of (peers ++ p ∷ []) i ≡ o
    by_peer None is = appended_absent peers p i is (above p.number l)
    by_peer (Some q) is = appended_found peers p q i is

-- one peer is put at its number
put_framed : (n : NetworkValue) (asked : Command) (reply : Reply) (q : Peer) → ((i : ℕ) → is_on asked i ≡ false → nat_eq q.number i ≡ false) → IsFramed n asked (reply, record n { peers = put_peer n.peers q })
put_framed n asked reply q apart = record {
  settings = record { pool = refl; host = refl; port = refl; server = refl; capacity = refl };
  peers = λ i l off. put_others n.peers q i (apart i off);
  routes = λ r i off off'. same_routes n r i;
}

-- the routes change, and not at other prefixes
rerouted_framed : (n : NetworkValue) (asked : Command) (reply : Reply) (routes : Routes) → ((q : PrefixValue) → is_on_route asked q ≡ false → route_of routes q ≡ route_of n.routes q) → IsFramed n asked (reply, record n { routes = routes })
rerouted_framed n asked reply routes apart = record {
  settings = record { pool = refl; host = refl; port = refl; server = refl; capacity = refl };
  peers = λ i l off. refl;
  routes = λ q i off off'. led_alike routes n.routes q i (apart q off');
}

at_number : (n : NetworkValue) (number : ℕ) (p : Peer) → peer_of n.peers number ≡ Some p → (i : ℕ) → nat_eq number i ≡ false → nat_eq p.number i ≡ false
at_number n number p found i off = subst (λ (m : ℕ). nat_eq m i ≡ false) (sym (peer_is (λ p. Unit {0}) n.peers number p (λ k d h. tt) found).1) off

not_among : (number i : ℕ) → nat_eq number i ≡ false → not (is_among (number ∷ []) i) ≡ true
not_among number i apart = ap (λ b. not (b || false)) (turned number i apart)
  where
    turned : (m n : ℕ) → nat_eq m n ≡ false → nat_eq n m ≡ false
    turned m n h = grind (arith, nat_tests)

revoked_framed : (n : NetworkValue) (number : ℕ) (reply : Reply) → IsNetwork n → IsFramed n (command.Revoke number) (reply, without_peers n (number ∷ []))
revoked_framed n number reply is = record {
  settings = record { pool = refl; host = refl; port = refl; server = refl; capacity = refl };
  peers = λ i l off. kept_stands (λ j. not (is_among (number ∷ []) j)) n.peers i (not_among number i off);
  routes = λ q i off off'.
      let told = route_kept (λ j. not (is_among (number ∷ []) j)) n.routes q i is.ordered in
      ((λ h. (told.0 h).0), (λ h. told.1 (h, not_among number i off)));
}

unmoved_framed : (n : NetworkValue) (asked : Command) (reply : Reply) → IsFramed n asked (reply, n)
unmoved_framed n asked reply = record { settings = same_settings n; peers = λ i l off. refl; routes = λ q i off off'. same_routes n q i }

framed : (n : NetworkValue) (now : ℕ) (asked : Command) → IsNetwork n → IfOk (live_outcome n now asked) (IsFramed n asked)
framed n now (command.Add key label wanted until keepalive) is =
    let asked = command.Add key label wanted until keepalive in
    unless_if (IsFramed n asked) (join_refusal n now key until) _ (λ admitted.
    place_if (IsFramed n asked) (place n n.pool wanted) _ (λ a placed.
    record {
      settings = record { pool = refl; host = refl; port = refl; server = refl; capacity = refl };
      peers = λ i l off. appended_others n.peers (record { number = n.next; key = key; label = label; address = a; second = None; until = until; keepalive = keepalive; status = None }) i l;
      routes = λ q i off off'. same_routes n q i;
    }))
framed n now (command.Move number wanted) is =
    let asked = command.Move number wanted in
    stands_if (IsFramed n asked) (peer_of n.peers number) _ (λ p found.
    place_if (IsFramed n asked) (place (vacated n (Some number)) n.pool wanted) _ (λ a placed. put_framed n asked _ (record p { address = a }) (at_number n number p found)))
framed n now (command.Revoke number) is = stands_if (IsFramed n (command.Revoke number)) (peer_of n.peers number) _ (λ p found. revoked_framed n number _ is)
framed n now (command.Route number prefix) is =
    let asked = command.Route number prefix in
    stands_if (IsFramed n asked) (peer_of n.peers number) _ (λ p found.
    unless_if (IsFramed n asked) (route_refusal n prefix) _ (λ allows. rerouted_framed n asked _ (assign_route n.routes prefix number) (λ q off. assigned_others n.routes prefix q number off)))
framed n now (command.Unroute prefix) is =
    let asked = command.Unroute prefix in
    routed_if (IsFramed n asked) n (route_of n.routes prefix) _ (λ number p found. rerouted_framed n asked _ (without_route n.routes prefix) (λ q off. removed_others n.routes prefix q off))
framed n now (command.Renew number until) is =
    let asked = command.Renew number until in
    stands_if (IsFramed n asked) (peer_of n.peers number) _ (λ p found.
    unless_if (IsFramed n asked) (lease_refusal now until) _ (λ allowed. put_framed n asked _ (record p { until = until }) (at_number n number p found)))
framed n now (command.Adopt server lines) is =
    let asked = command.Adopt server lines in
    IfOk-weaker (adopt n server lines) (λ done. HasSettingsOf n done.1) (IsFramed n asked) (λ done settings. record { settings = settings; peers = λ i l off. cc; routes = λ q i off off'. cc }) (adopt_settings n server lines is)
framed n now command.List is = unmoved_framed n command.List _
framed n now (command.Owner address) is = owner_if (IsFramed n (command.Owner address)) n (owner_of n address) (λ number found. unmoved_framed n (command.Owner address) _)
framed n now (command.ServerFile form) is = unmoved_framed n (command.ServerFile form) _
framed n now (command.PeerFile number form) is = stands_if (IsFramed n (command.PeerFile number form)) (peer_of n.peers number) _ (λ p found. unmoved_framed n (command.PeerFile number form) _)

-- ---- the whole network

framed_if : (P : Reply × NetworkValue → Type 0) (n : NetworkValue) (now : ℕ) (asked : Command) → IsNetwork n → is_reading asked ≡ false → ((done : Reply × NetworkValue) → IsFramed (live_at n now) asked done → P done) → IfOk (outcome_of n now asked) P
framed_if P n now asked is changes tells =
    kept_if_reading P n (is_reading asked) (live_outcome (live_at n now) now asked) (λ reads. let bad : true ≡ false = sym reads ∙ changes in cc)
    (λ changes. IfOk-weaker (live_outcome (live_at n now) now asked) (IsFramed (live_at n now) asked) P tells (framed (live_at n now) now asked (live_is_network n now is)))

pub other_peers_stay : (n : NetworkValue) (now number : ℕ) (asked : Command) → IsNetwork n → is_reading asked ≡ false → is_on asked number ≡ false → number < n.next
    → IfOk (outcome_of n now asked) (λ done. peer_of done.1.peers number ≡ peer_of (live_at n now).peers number)
other_peers_stay n now number asked is changes off given = framed_if (λ done. peer_of done.1.peers number ≡ peer_of (live_at n now).peers number) n now asked is changes (λ done frame. frame.peers number given off)

pub other_routes_stay : (n : NetworkValue) (now number : ℕ) (q : PrefixValue) (asked : Command) → IsNetwork n → is_reading asked ≡ false → is_on asked number ≡ false → is_on_route asked q ≡ false
    → IfOk (outcome_of n now asked) (λ done. (route_of done.1.routes q ≡ Some number) ↔ (route_of (live_at n now).routes q ≡ Some number))
other_routes_stay n now number q asked is changes off off' = framed_if (λ done. (route_of done.1.routes q ≡ Some number) ↔ (route_of (live_at n now).routes q ≡ Some number)) n now asked is changes (λ done frame. frame.routes q number off off')

pub settings_stay : (n : NetworkValue) (now : ℕ) (asked : Command) → IsNetwork n → IfOk (outcome_of n now asked) (λ done. HasSettingsOf n done.1)
settings_stay n now asked is =
    let live = framed (live_at n now) now asked (live_is_network n now is) in
    kept_if_reading (λ done. HasSettingsOf n done.1) n (is_reading asked) (live_outcome (live_at n now) now asked)
    (λ reads. IfOk-weaker (live_outcome (live_at n now) now asked) (IsFramed (live_at n now) asked) (λ done. HasSettingsOf n n) (λ done frame. same_settings n) live)
    (λ changes. IfOk-weaker (live_outcome (live_at n now) now asked) (IsFramed (live_at n now) asked) (λ done. HasSettingsOf n done.1)
    (λ done frame. let s = frame.settings in record { pool = s.pool; host = s.host; port = s.port; server = s.server; capacity = s.capacity }) live)
