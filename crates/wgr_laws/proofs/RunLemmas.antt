-- What whole runs of commands leave.
use Rattle.std.proofs.Common.{◌≡◌, ◌≢◌, ℕ, ◌<◌, ◌≤◌, inl, inr, true, false, ◌||◌, List, [], ◌∷◌, length, get_or, Some, None, is_some, sym, ap, ◌∙◌, subst, arith}
use Rattle.std.specs.Prelude.{Ok, Err, IfOk}
use Rattle.std.proofs.lemmas.Bool.{cases_lt}
use Rattle.std.proofs.lemmas.Cmp.{nat_list_eq_equiv}
use Rattle.std.proofs.lemmas.Result.{IfOk-weaker}
use Rattle.std.proofs.lemmas.List.Elements.{All-head, All-tail}
use Rattle.wgr_text.specs.declared.key.Key.{Key}
use Rattle.wgr_text.specs.Prefix.{AddrValue}
use Rattle.wgr_peers.specs.declared.peer.Peer.{Peer}
use Rattle.wgr_core.specs.declared.command.Command.{Command}
use Rattle.wgr_core.specs.declared.command.Command.TheVariants as command
use Rattle.wgr_core.specs.declared.reply.Reply.{Reply}
use Rattle.wgr_pool.specs.PrefixTests.{same_address}
use Rattle.wgr_peers.specs.Peers.{is_live, peer_of, same_key}
use Rattle.wgr_core.specs.Network.{NetworkValue, IsNetwork, IsMember, live_at, without_peers}
use Rattle.wgr_core.specs.Owner.{owner_of}
use Rattle.wgr_core.specs.Outcome.{Outcome, revoke, live_outcome, is_reading, outcome_of, IsAsked}
use Rattle.wgr_laws.specs.Laws.{AreAsked, HaveOwn, after, after_commands}
use Rattle.wgr_pool.proofs.PrefixLemmas.{nat_eq_self, same_address_self}
use Rattle.wgr_core.proofs.KeptLemmas.{without_is_network}
use Rattle.wgr_core.proofs.LiveLemmas.{live_is_network}
use Rattle.wgr_peers.proofs.PeerLemmas.{peer_is}
use Rattle.wgr_core.proofs.LookLemmas.{absent_kept, found_kept}
use Rattle.wgr_core.proofs.OutcomeCases.{stands_if, kept_if_reading}
use Rattle.wgr_core.proofs.OutcomeLemmas.{outcome_keeps}
use Rattle.wgr_laws.proofs.NextSteps.{IsLater, IsNext, later_on, later_self, same_key_at}
use Rattle.wgr_laws.proofs.NextLemmas.{changes_end_numbers, outcome_next, owner_stands, revoked_absent}
use Rattle.wgr_peers.proofs.PeerLemmas.{apart_first}

later_live : (n : NetworkValue) (now : ℕ) → IsNetwork n → IsLater n (live_at n now)
later_live n now is = record {
  next = omega arith;
  absent = λ i l none. absent_kept (is_live now) n.peers i none;
  keys = λ i p q at_p at_q. same_key_at n.peers i p q at_p ((found_kept (is_live now) n.peers i q is.numbered).0 at_q).0;
}

later_done : (n : NetworkValue) (now : ℕ) (asked : Command) → IsNetwork n → IfOk (outcome_of n now asked) (λ done. IsLater n done.1)
later_done n now asked is =
    kept_if_reading (λ done. IsLater n done.1) n (is_reading asked) (live_outcome (live_at n now) now asked)
    (λ reads. IfOk-weaker (live_outcome (live_at n now) now asked) (IsNext (live_at n now) now) (λ done. IsLater n n) (λ done next. later_self n) (outcome_next n now asked is))
    (λ changes. IfOk-weaker (live_outcome (live_at n now) now asked) (IsNext (live_at n now) now) (λ done. IsLater n done.1)
    (λ done next. later_on n (live_at n now) done.1 is (later_live n now is) (record { next = next.next; absent = next.absent; keys = next.keys })) (outcome_next n now asked is))

later_after : (n : NetworkValue) (now : ℕ) (asked : Command) → IsNetwork n → IsLater n (after n (outcome_of n now asked))
later_after n now asked is = by_outcome (outcome_of n now asked) (later_done n now asked is)
  where
    by_outcome : (o : Outcome) → IfOk o (λ done. IsLater n done.1) → IsLater n (after n o)
    by_outcome (Err why) holds = later_self n
    by_outcome (Ok done) holds = holds

after_is_network : (n : NetworkValue) (now : ℕ) (asked : Command) → IsNetwork n → IsAsked asked → IsNetwork (after n (outcome_of n now asked))
after_is_network n now asked is fits = by_outcome (outcome_of n now asked) (outcome_keeps n now asked is fits)
  where
    by_outcome : (o : Outcome) → IfOk o (λ done. IsNetwork done.1) → IsNetwork (after n o)
    by_outcome (Err why) holds = is
    by_outcome (Ok done) holds = holds

pub runs_keep : (n : NetworkValue) (asked : List (ℕ × Command)) → IsNetwork n → AreAsked asked → IsNetwork (after_commands n asked)
runs_keep n [] is fits = is
runs_keep n (c ∷ more) is fits =
    runs_keep (after n (outcome_of n c.0 c.1)) more (after_is_network n c.0 c.1 is (All-head (λ (c : ℕ × Command). IsAsked c.1) c more fits)) (All-tail (λ (c : ℕ × Command). IsAsked c.1) c more fits)

later_run : (n : NetworkValue) (asked : List (ℕ × Command)) → IsNetwork n → AreAsked asked → IsLater n (after_commands n asked)
later_run n [] is fits = later_self n
later_run n (c ∷ more) is fits =
    let next = after_is_network n c.0 c.1 is (All-head (λ (c : ℕ × Command). IsAsked c.1) c more fits) in
    later_on n (after n (outcome_of n c.0 c.1)) (after_commands n (c ∷ more)) is (later_after n c.0 c.1 is) (later_run (after n (outcome_of n c.0 c.1)) more next (All-tail (λ (c : ℕ × Command). IsAsked c.1) c more fits))

pub next_only_rises : (n : NetworkValue) (asked : List (ℕ × Command)) → IsNetwork n → AreAsked asked → n.next ≤ (after_commands n asked).next
next_only_rises n asked is fits = (later_run n asked is fits).next

pub numbers_once : (n : NetworkValue) (asked : List (ℕ × Command)) (number : ℕ) → IsNetwork n → AreAsked asked → number < n.next → peer_of n.peers number ≡ None → peer_of (after_commands n asked).peers number ≡ None
numbers_once n asked number is fits given none = (later_run n asked is fits).absent number given none

pub numbers_keep_keys : (n : NetworkValue) (asked : List (ℕ × Command)) (number : ℕ) (p q : Peer) → IsNetwork n → AreAsked asked → peer_of n.peers number ≡ Some p → peer_of (after_commands n asked).peers number ≡ Some q → q.key ≡ p.key
numbers_keep_keys n asked number p q is fits at_p at_q = (later_run n asked is fits).keys number p q at_p at_q

-- ---- a peer whose lease is over when a change is made

pub over_never_returns : (n : NetworkValue) (now number : ℕ) (asked : Command) (more : List (ℕ × Command)) → IsNetwork n → IsAsked asked → AreAsked more → is_reading asked ≡ false → number < n.next
    → peer_of (live_at n now).peers number ≡ None → IfOk (outcome_of n now asked) (λ done. peer_of (after_commands done.1 more).peers number ≡ None)
over_never_returns n now number asked more is fits fits' changes given gone =
    on (outcome_of n now asked) (outcome_keeps n now asked is fits) (later_done n now asked is) (changes_end_numbers n now number asked is changes given gone)
  where
    on : (o : Outcome) → IfOk o (λ done. IsNetwork done.1) → IfOk o (λ done. IsLater n done.1) → IfOk o (λ done. peer_of done.1.peers number ≡ None) → IfOk o (λ done. peer_of (after_commands done.1 more).peers number ≡ None)
    on (Err why) keeps later none = tt
    on (Ok done) keeps later none = numbers_once done.1 more number keeps fits' (omega (arith, given, later.next)) none

-- ---- a peer that is revoked

-- after the command, and in every later network
pub revoked_is_gone : (n : NetworkValue) (now number : ℕ) (more : List (ℕ × Command)) → IsNetwork n → AreAsked more → IfOk (outcome_of n now (command.Revoke number)) (λ done. peer_of (after_commands done.1 more).peers number ≡ None)
revoked_is_gone n now number more is fits =
    let m = live_at n now in
    let live = live_is_network n now is in
    let Gone : Reply × NetworkValue → Type 0 = λ done. peer_of (after_commands done.1 more).peers number ≡ None in
    kept_if_reading Gone n false (revoke m number) (λ reads. cc) (λ changes.
    stands_if Gone (peer_of m.peers number) _ (λ p found.
    let member = peer_is (IsMember m) m.peers number p live.members found in
    numbers_once (without_peers m (number ∷ [])) more number (without_is_network m (number ∷ []) live) fits (omega (arith, member.0.numbered.1, member.1))
    (revoked_absent m number number (ap (λ b. b || false) (nat_eq_self number)))))

pub revoked_owns_nothing : (n : NetworkValue) (now number : ℕ) (more : List (ℕ × Command)) (a : AddrValue) → IsNetwork n → AreAsked more → IfOk (outcome_of n now (command.Revoke number)) (λ done. owner_of (after_commands done.1 more) a ≢ Some number)
revoked_owns_nothing n now number more a is fits =
    both (outcome_of n now (command.Revoke number)) (outcome_keeps n now (command.Revoke number) is tt) (revoked_is_gone n now number more is fits)
  where
    both : (o : Outcome) → IfOk o (λ done. IsNetwork done.1) → IfOk o (λ done. peer_of (after_commands done.1 more).peers number ≡ None) → IfOk o (λ done. owner_of (after_commands done.1 more) a ≢ Some number)
    both (Err why) keeps gone = tt
    both (Ok done) keeps gone = λ owns. let bad : false ≡ true = sym (ap is_some gone) ∙ owner_stands (after_commands done.1 more) a number (runs_keep done.1 more keeps fits) owns in cc

-- ---- what no two peers have

have_own : {X : Type 0} (has : Peer → X) (peers : List Peer) → ((i j : ℕ) (d : Peer) → i < j → j < length peers → has (get_or peers i d) ≡ has (get_or peers j d) → ⊥) → HaveOwn has peers
have_own has peers never = λ i j d within within' same. elim (cases_lt i j) [
  | inl before ↦ absurd (never i j d before within' same)
  | inr from ↦ elim (cases_lt j i) [
    | inl before ↦ absurd (never j i d before within (sym same))
    | inr upto ↦ omega (arith, from, upto)
  ]
]

pub own_address : (n : NetworkValue) → IsNetwork n → HaveOwn (λ p. p.address) n.peers
own_address n is = have_own (λ (p : Peer). p.address) n.peers (λ i j d before within same. clash (get_or n.peers i d).address (get_or n.peers j d).address same (apart_first (get_or n.peers i d) (get_or n.peers j d) (is.apart i j d before within)))
  where
    clash : (a b : AddrValue) → a ≡ b → same_address a b ≡ false → ⊥
    clash a b same apart = let bad : true ≡ false = sym (subst (λ c. same_address a c ≡ true) same (same_address_self a)) ∙ apart in cc

pub own_key : (n : NetworkValue) → IsNetwork n → HaveOwn (λ p. p.key) n.peers
own_key n is = have_own (λ (p : Peer). p.key) n.peers (λ i j d before within same. clash (get_or n.peers i d).key (get_or n.peers j d).key same (is.apart i j d before within).0)
  where
    clash : (a b : Key) → a ≡ b → same_key a b ≡ false → ⊥
    clash a b same apart = let bad : true ≡ false = sym (subst (λ c. same_key a c ≡ true) same (nat_list_eq_equiv.refl a.0)) ∙ apart in cc
