-- A command leaves the fields of a network of their forms.
use Rattle.std.proofs.Common.{◌≡◌, ℕ, arith, nat_eq, nat_lt, not, List, [], ◌∷◌, Option, Some, None}
use Rattle.std.specs.Prelude.{IfOk}
use Rattle.std.specs.List.{All}
use Rattle.std.proofs.lemmas.List.Elements.{All-filter, All-push}
use Rattle.std.proofs.lemmas.Result.{IfOk-weaker}
use Rattle.wgr_text.specs.declared.key.Key.{Key}
use Rattle.wgr_text.specs.Prefix.{AddrValue, PrefixValue}
use Rattle.wgr_peers.specs.declared.peer.Peer.{Peer}
use Rattle.wgr_peers.specs.Label.{IsLabel}
use Rattle.wgr_peers.specs.Limits.{IsLeaseEnd}
use Rattle.wgr_peers.specs.Peers.{is_live, peer_of, put_peer}
use Rattle.wgr_peers.specs.Routes.{route_of}
use Rattle.wgr_peers.proofs.OrderedLemmas.{put_all}
use Rattle.wgr_peers.proofs.PeerLemmas.{peer_is}
use Rattle.wgr_core.specs.declared.command.Command.{Command}
use Rattle.wgr_core.specs.declared.command.Command.TheVariants as command
use Rattle.wgr_core.specs.declared.reply.Reply.{Reply}
use Rattle.wgr_core.specs.declared.seen_peer.SeenPeer.{SeenPeer}
use Rattle.wgr_core.specs.Network.{NetworkValue, IsNetwork, is_among, live_at}
use Rattle.wgr_core.specs.Owner.{owner_of}
use Rattle.wgr_core.specs.Adoption.{peer_of_line}
use Rattle.wgr_core.specs.Outcome.{add, vacated, move, revoke, lease_refusal, renew, route, unroute, adopt, live_outcome, is_reading, outcome_of}
use Rattle.wgr_core.specs.Refusals.{join_refusal, place, route_refusal}
use Rattle.wgr_core.specs.Forms.{IsKey, IsKeepalive, IsPeerFormed, HasForms, IsFormedLine, IsFormedCommand}
use Rattle.wgr_core.proofs.LiveLemmas.{live_is_network}
use Rattle.wgr_core.proofs.OutcomeCases.{unless_if, place_if, stands_if, routed_if, owner_if, kept_if_reading}
use Rattle.wgr_core.proofs.AdoptSteps.{AreSteps, adopt_if, adoption_keeps, peopled}
use Rattle.wgr_laws.proofs.AdoptNext.{AnyPrefix}

abbrev After : Reply × NetworkValue → Type 0
After done = HasForms done.1

-- the network with a peer of its form in the place of the one of its number
put_formed : (n : NetworkValue) (p : Peer) → HasForms n → IsPeerFormed p → HasForms (record n { peers = put_peer n.peers p })
put_formed n p forms formed = (forms.0, put_all IsPeerFormed (λ q. nat_lt q.number p.number) (λ q. nat_eq q.number p.number) n.peers p forms.1 formed)

found_formed : (n : NetworkValue) (number : ℕ) (p : Peer) → HasForms n → peer_of n.peers number ≡ Some p → IsPeerFormed p
found_formed n number p forms found = (peer_is IsPeerFormed n.peers number p forms.1 found).0

add_formed : (n : NetworkValue) (now : ℕ) (key : Key) (label : List ℕ) (wanted : Option AddrValue) (until keepalive : ℕ) → HasForms n → IsKey key → IsLabel label → IsLeaseEnd until → IsKeepalive keepalive
    → IfOk (add n now key label wanted until keepalive) After
add_formed n now key label wanted until keepalive forms is_key is_label is_end is_keepalive =
    unless_if After (join_refusal n now key until) _ (λ admitted.
    place_if After (place n n.pool wanted) _ (λ a placed. (
      forms.0,
      All-push IsPeerFormed n.peers (record { number = n.next; key = key; label = label; address = a; second = None; until = until; keepalive = keepalive; status = None }) forms.1
          (record { key = is_key; label = is_label; until = is_end; keepalive = is_keepalive; status = tt }),
    )))

move_formed : (n : NetworkValue) (number : ℕ) (wanted : Option AddrValue) → HasForms n → IfOk (move n number wanted) After
move_formed n number wanted forms =
    stands_if After (peer_of n.peers number) _ (λ p found.
    place_if After (place (vacated n (Some number)) n.pool wanted) _ (λ a placed.
    let formed = found_formed n number p forms found in
    put_formed n (record p { address = a }) forms (record { key = formed.key; label = formed.label; until = formed.until; keepalive = formed.keepalive; status = formed.status })))

revoke_formed : (n : NetworkValue) (number : ℕ) → HasForms n → IfOk (revoke n number) After
revoke_formed n number forms = stands_if After (peer_of n.peers number) _ (λ p found. (forms.0, All-filter (λ (e : Peer). not (is_among (number ∷ []) e.number)) IsPeerFormed n.peers forms.1))

renew_formed : (n : NetworkValue) (now number until : ℕ) → HasForms n → IsLeaseEnd until → IfOk (renew n now number until) After
renew_formed n now number until forms is_end =
    stands_if After (peer_of n.peers number) _ (λ p found.
    unless_if After (lease_refusal now until) _ (λ allowed.
    let formed = found_formed n number p forms found in
    put_formed n (record p { until = until }) forms (record { key = formed.key; label = formed.label; until = is_end; keepalive = formed.keepalive; status = formed.status })))

route_formed : (n : NetworkValue) (number : ℕ) (prefix : PrefixValue) → HasForms n → IfOk (route n number prefix) After
route_formed n number prefix forms = stands_if After (peer_of n.peers number) _ (λ p found. unless_if After (route_refusal n prefix) _ (λ allowed. forms))

unroute_formed : (n : NetworkValue) (prefix : PrefixValue) → HasForms n → IfOk (unroute n prefix) After
unroute_formed n prefix forms = routed_if After n (route_of n.routes prefix) _ (λ number p found. forms)

form_steps : AreSteps IsFormedLine AnyPrefix (λ s. HasForms s.network)
form_steps = record {
  prefixes = λ line formed k d h. tt;
  joins = λ s line a people forms line_formed may. (
    forms.0,
    All-push IsPeerFormed s.network.peers (peer_of_line s.network line a) forms.1
        (record { key = line_formed.key; label = record { short = omega arith; printable = λ k d h. absurd (omega (arith, h)) }; until = omega arith; keepalive = line_formed.keepalive; status = line_formed.status }),
  );
  notes = λ s line p people forms line_formed keyed.
      let formed = found_formed s.network p.number p forms keyed.stands in
      put_formed s.network (record p { status = Some line.status }) forms (record { key = formed.key; label = formed.label; until = formed.until; keepalive = formed.keepalive; status = line_formed.status });
  leads = λ s q number forms any may. forms;
}

adopt_formed : (n : NetworkValue) (server : Option Key) (lines : List SeenPeer) → IsNetwork n → HasForms n → All IsFormedLine lines → IfOk (adopt n server lines) After
adopt_formed n server lines is forms formed = adopt_if After n server lines (adoption_keeps IsFormedLine AnyPrefix (λ s. HasForms s.network) form_steps n lines (peopled n is) forms formed)

live_formed : (n : NetworkValue) (now : ℕ) → HasForms n → HasForms (live_at n now)
live_formed n now forms = (forms.0, All-filter (is_live now) IsPeerFormed n.peers forms.1)

live_outcome_formed : (n : NetworkValue) (now : ℕ) (asked : Command) → IsNetwork n → HasForms n → IsFormedCommand asked → IfOk (live_outcome n now asked) After
live_outcome_formed n now (command.Add key label wanted until keepalive) is forms told = add_formed n now key label wanted until keepalive forms told.0 told.1 told.2 told.3
live_outcome_formed n now (command.Move number wanted) is forms told = move_formed n number wanted forms
live_outcome_formed n now (command.Revoke number) is forms told = revoke_formed n number forms
live_outcome_formed n now (command.Route number prefix) is forms told = route_formed n number prefix forms
live_outcome_formed n now (command.Unroute prefix) is forms told = unroute_formed n prefix forms
live_outcome_formed n now (command.Renew number until) is forms told = renew_formed n now number until forms told
live_outcome_formed n now (command.Adopt server lines) is forms told = adopt_formed n server lines is forms told
live_outcome_formed n now command.List is forms told = forms
live_outcome_formed n now (command.Owner address) is forms told = owner_if After n (owner_of n address) (λ number found. forms)
live_outcome_formed n now (command.ServerFile form) is forms told = forms
live_outcome_formed n now (command.PeerFile number form) is forms told = stands_if After (peer_of n.peers number) _ (λ p found. forms)

pub commands_keep_the_forms : (n : NetworkValue) (now : ℕ) (asked : Command) → IsNetwork n → HasForms n → IsFormedCommand asked → IfOk (outcome_of n now asked) After
commands_keep_the_forms n now asked is forms told =
    let after = live_outcome_formed (live_at n now) now asked (live_is_network n now is) (live_formed n now forms) told in
    kept_if_reading After n (is_reading asked) (live_outcome (live_at n now) now asked)
    (λ reads. IfOk-weaker (live_outcome (live_at n now) now asked) After (λ done. HasForms n) (λ done keeps. forms) after)
    (λ changes. after)
