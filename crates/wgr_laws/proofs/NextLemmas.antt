-- What a command leaves of numbers, keys and leases.
use Rattle.std.proofs.Common.{◌≡◌, ℕ, ◌<◌, inl, inr, Bool, true, false, not, cond, nat_eq, List, [], ◌∷◌, get_or, Some, None, is_some, refl, sym, ap, ◌∙◌, subst, arith}
use Rattle.std.specs.Prelude.{IfOk}
use Rattle.std.specs.List.{All, filter}
use Rattle.std.proofs.lemmas.Result.{IfOk-weaker}
use Rattle.std.proofs.lemmas.List.Elements.{All-append, All-contains, All-filter, All-map, filter_passes}
use Rattle.wgr_text.specs.Prefix.{AddrValue, PrefixValue}
use Rattle.wgr_peers.specs.declared.peer.Peer.{Peer}
use Rattle.wgr_core.specs.declared.command.Command.{Command}
use Rattle.wgr_core.specs.declared.command.Command.TheVariants as command
use Rattle.wgr_core.specs.declared.refusal.Refusal.TheVariants.{LeaseOver}
use Rattle.wgr_core.specs.declared.reply.Reply.{Reply}
use Rattle.wgr_core.specs.declared.reply.Reply.TheVariants as reply
use Rattle.wgr_pool.specs.PrefixTests.{full}
use Rattle.wgr_peers.specs.Limits.{is_expired}
use Rattle.wgr_peers.specs.Peers.{is_live, peer_of}
use Rattle.wgr_peers.specs.Routes.{route_of}
use Rattle.wgr_core.specs.Network.{NetworkValue, IsNetwork, is_among, live_at, without_peers}
use Rattle.wgr_core.specs.Owner.{allowed, owner_of, own_prefixes}
use Rattle.wgr_core.specs.Outcome.{vacated, lease_refusal, peer_view, live_outcome, is_reading, outcome_of}
use Rattle.wgr_core.specs.Refusals.{join_refusal, joining_of, place, route_refusal}
use Rattle.wgr_laws.specs.Laws.{ShowsLive}
use Rattle.wgr_pool.proofs.Bools.{decide, not_true}
use Rattle.wgr_peers.proofs.TableLemmas.{peer_absent}
use Rattle.wgr_pool.proofs.PrefixLemmas.{nat_eq_is}
use Rattle.wgr_core.proofs.KeptLemmas.{kept_stands}
use Rattle.wgr_core.proofs.LiveLemmas.{live_is_network, peer_stands}
use Rattle.wgr_peers.proofs.PeerLemmas.{peer_is}
use Rattle.wgr_core.proofs.LookLemmas.{absent_kept}
use Rattle.wgr_laws.proofs.MatchLemmas.{owner_has_longest}
use Rattle.wgr_core.proofs.OutcomeCases.{unless_if, place_if, stands_if, routed_if, owner_if, kept_if_reading}
use Rattle.wgr_core.proofs.JoinLemmas.{is_admitted}
use Rattle.wgr_laws.proofs.NextSteps.{AllLive, IsNext, joined_next, replaced_next, same_key_at, unmoved}
use Rattle.wgr_laws.proofs.AdoptNext.{adopt_next}

-- ---- owners

pub owner_stands : (n : NetworkValue) (a : AddrValue) (number : ℕ) → IsNetwork n → owner_of n a ≡ Some number → is_some (peer_of n.peers number) ≡ true
owner_stands n a number is found =
    let r = owner_has_longest n a number found in
    let led : All (λ (r : PrefixValue × ℕ). is_some (peer_of n.peers r.1) ≡ true) (allowed n) =
    All-append (λ (r : PrefixValue × ℕ). is_some (peer_of n.peers r.1) ≡ true) (own_prefixes n.peers) n.routes
    (All-map (λ (r : PrefixValue × ℕ). is_some (peer_of n.peers r.1) ≡ true) (λ (e : Peer). (full e.address, e.number)) n.peers (peer_stands n.peers))
    (λ k d h. (is.routes k d h).leads) in
    subst (λ (i : ℕ). is_some (peer_of n.peers i) ≡ true) r.2 (All-contains (λ (r : PrefixValue × ℕ). is_some (peer_of n.peers r.1) ≡ true) (allowed n) r.0 led r.1.is_allowed)

-- ---- one command

-- nobody is found at a number that a filter leaves out
none_among : (number : ℕ) (peers : List Peer) (i : ℕ) → is_among (number ∷ []) i ≡ true → All (λ e. not (is_among (number ∷ []) e.number) ≡ true) peers → peer_of peers i ≡ None
none_among number peers i gone all = peer_absent peers i (λ k d h. apart (get_or peers k d).number i gone (all k d h))
  where
    apart : (m i : ℕ) → is_among (number ∷ []) i ≡ true → not (is_among (number ∷ []) m) ≡ true → nat_eq m i ≡ false
    apart m i gone stays = elim (decide (nat_eq m i)) [
      | inr f ↦ f
      | inl t ↦ let bad : true ≡ false = sym (subst (λ (j : ℕ). is_among (number ∷ []) j ≡ true) (sym (nat_eq_is m i t)) gone) ∙ not_true (is_among (number ∷ []) m) stays in cc
    ]

pub revoked_absent : (n : NetworkValue) (number i : ℕ) → is_among (number ∷ []) i ≡ true → peer_of (without_peers n (number ∷ [])).peers i ≡ None
revoked_absent n number i gone = none_among number (filter (λ (e : Peer). not (is_among (number ∷ []) e.number)) n.peers) i gone (filter_passes (λ (e : Peer). not (is_among (number ∷ []) e.number)) n.peers)

revoked_next : (n : NetworkValue) (now number : ℕ) (p : Peer) → AllLive now n.peers → peer_of n.peers number ≡ Some p → IsNext n now (reply.Revoked number, without_peers n (number ∷ []))
revoked_next n now number p live stands = record {
  next = omega arith;
  absent = λ i l none. absent_kept (λ e. not (is_among (number ∷ []) e.number)) n.peers i none;
  keys = λ i e f at_e at_f. elim (decide (is_among (number ∷ []) i)) [
    | inl gone ↦
        let none = revoked_absent n number i gone in
        let bad : None ≡ Some f = sym none ∙ at_f in cc
    | inr stays ↦ same_key_at n.peers i e f at_e (sym (kept_stands (λ i. not (is_among (number ∷ []) i)) n.peers i (ap not stays)) ∙ at_f)
  ];
  live = All-filter (λ e. not (is_among (number ∷ []) e.number)) (λ p. is_live now p ≡ true) n.peers live;
  shows = ap is_some stands;
}

runs_on : (now until : ℕ) → lease_refusal now until ≡ None → is_expired now until ≡ false
runs_on now until h = by_test (is_expired now until) h
  where
    by_test : (over : Bool) → cond over (Some LeaseOver) None ≡ None → over ≡ false
    by_test true h = cc
    by_test false h = refl

pub live_outcome_next : (n : NetworkValue) (now : ℕ) (asked : Command) → IsNetwork n → AllLive now n.peers → IfOk (live_outcome n now asked) (IsNext n now)
live_outcome_next n now (command.Add key label wanted until keepalive) is live =
    unless_if (IsNext n now) (join_refusal n now key until) _ (λ admitted.
    place_if (IsNext n now) (place n n.pool wanted) _ (λ a placed.
    joined_next n now (record { number = n.next; key = key; label = label; address = a; second = None; until = until; keepalive = keepalive; status = None }) live refl (ap not (is_admitted (joining_of n key) now key until admitted).runs)))
live_outcome_next n now (command.Move number wanted) is live =
    stands_if (IsNext n now) (peer_of n.peers number) _ (λ p found.
    place_if (IsNext n now) (place (vacated n (Some number)) n.pool wanted) _ (λ a placed.
    let here = peer_is (λ p. is_live now p ≡ true) n.peers number p live found in
    replaced_next n now p (record p { address = a }) live (ap (peer_of n.peers) here.1 ∙ found) refl here.0))
live_outcome_next n now (command.Revoke number) is live = stands_if (IsNext n now) (peer_of n.peers number) _ (λ p found. revoked_next n now number p live found)
live_outcome_next n now (command.Route number prefix) is live =
    stands_if (IsNext n now) (peer_of n.peers number) _ (λ p found.
    unless_if (IsNext n now) (route_refusal n prefix) _ (λ allowed. unmoved n now _ live refl refl (peer_is (λ p. is_live now p ≡ true) n.peers number p live found).0))
live_outcome_next n now (command.Unroute prefix) is live =
    routed_if (IsNext n now) n (route_of n.routes prefix) _ (λ number p found. unmoved n now _ live refl refl (peer_is (λ p. is_live now p ≡ true) n.peers number p live found).0)
live_outcome_next n now (command.Renew number until) is live =
    stands_if (IsNext n now) (peer_of n.peers number) _ (λ p found.
    unless_if (IsNext n now) (lease_refusal now until) _ (λ allowed.
    let here = peer_is (λ p. is_live now p ≡ true) n.peers number p live found in
    replaced_next n now p (record p { until = until }) live (ap (peer_of n.peers) here.1 ∙ found) refl (ap not (runs_on now until allowed))))
live_outcome_next n now (command.Adopt server lines) is live = adopt_next n now server lines is live
live_outcome_next n now command.List is live = unmoved n now _ live refl refl (All-map (λ view. is_live now view.peer ≡ true) (peer_view n.routes) n.peers live)
live_outcome_next n now (command.Owner address) is live = owner_if (IsNext n now) n (owner_of n address) (λ number found. unmoved n now _ live refl refl (owner_stands n address number is found))
live_outcome_next n now (command.ServerFile form) is live = unmoved n now _ live refl refl tt
live_outcome_next n now (command.PeerFile number form) is live = stands_if (IsNext n now) (peer_of n.peers number) _ (λ p found. unmoved n now _ live refl refl (ap is_some found))

-- of the whole network

pub outcome_next : (n : NetworkValue) (now : ℕ) (asked : Command) → IsNetwork n → IfOk (live_outcome (live_at n now) now asked) (IsNext (live_at n now) now)
outcome_next n now asked is = live_outcome_next (live_at n now) now asked (live_is_network n now is) (filter_passes (is_live now) n.peers)

pub replies_show_live : (n : NetworkValue) (now : ℕ) (asked : Command) → IsNetwork n → IfOk (outcome_of n now asked) (λ done. ShowsLive now (live_at n now).peers done.0)
replies_show_live n now asked is =
    let shown = IfOk-weaker (live_outcome (live_at n now) now asked) (IsNext (live_at n now) now) (λ done. ShowsLive now (live_at n now).peers done.0) (λ done next. next.shows) (outcome_next n now asked is) in
    kept_if_reading (λ done. ShowsLive now (live_at n now).peers done.0) n (is_reading asked) (live_outcome (live_at n now) now asked) (λ reads. shown) (λ changes. shown)

-- of a command that changes the network
changed_if : (P : Reply × NetworkValue → Type 0) (n : NetworkValue) (now : ℕ) (asked : Command) → is_reading asked ≡ false → IfOk (live_outcome (live_at n now) now asked) P → IfOk (outcome_of n now asked) P
changed_if P n now asked changes holds =
    kept_if_reading P n (is_reading asked) (live_outcome (live_at n now) now asked) (λ reads. let bad : true ≡ false = sym reads ∙ changes in cc) (λ changes. holds)

pub changes_leave_live : (n : NetworkValue) (now : ℕ) (asked : Command) → IsNetwork n → is_reading asked ≡ false → IfOk (outcome_of n now asked) (λ done. All (λ p. is_live now p ≡ true) done.1.peers)
changes_leave_live n now asked is changes =
    changed_if (λ done. All (λ p. is_live now p ≡ true) done.1.peers) n now asked changes
    (IfOk-weaker (live_outcome (live_at n now) now asked) (IsNext (live_at n now) now) (λ done. All (λ p. is_live now p ≡ true) done.1.peers) (λ done next. next.live) (outcome_next n now asked is))

pub changes_end_numbers : (n : NetworkValue) (now number : ℕ) (asked : Command) → IsNetwork n → is_reading asked ≡ false → number < n.next
    → peer_of (live_at n now).peers number ≡ None → IfOk (outcome_of n now asked) (λ done. peer_of done.1.peers number ≡ None)
changes_end_numbers n now number asked is changes given gone =
    changed_if (λ done. peer_of done.1.peers number ≡ None) n now asked changes
    (IfOk-weaker (live_outcome (live_at n now) now asked) (IsNext (live_at n now) now) (λ done. peer_of done.1.peers number ≡ None) (λ done next. next.absent number given gone) (outcome_next n now asked is))
