-- What one change of the peers leaves of numbers, keys and leases.
use Rattle.std.proofs.Common.{◌≡◌, ℕ, ◌+◌, ◌<◌, ◌≤◌, inl, inr, true, false, cond, nat_eq, nat_lt, List, [], ◌∷◌, ◌++◌, Option, Some, None, refl, sym, ap, ◌∙◌, subst, arith}
use Rattle.std.specs.List.{All}
use Rattle.std.proofs.lemmas.Bool.Decides.{nat_tests}
use Rattle.std.proofs.lemmas.List.Elements.{All-push}
use Rattle.wgr_peers.specs.declared.peer.Peer.{Peer}
use Rattle.wgr_core.specs.declared.reply.Reply.{Reply}
use Rattle.wgr_core.specs.declared.reply.Reply.TheVariants as reply
use Rattle.wgr_peers.specs.Peers.{is_live, peer_of, put_peer}
use Rattle.wgr_core.specs.Network.{NetworkValue, IsNetwork, IsMember}
use Rattle.wgr_core.specs.Outcome.{peer_view}
use Rattle.wgr_laws.specs.Laws.{ShowsLive}
use Rattle.wgr_pool.proofs.Bools.{decide}
use Rattle.wgr_pool.proofs.PrefixLemmas.{nat_eq_is}
use Rattle.wgr_peers.proofs.OrderedLemmas.{put_all}
use Rattle.wgr_peers.proofs.PeerLemmas.{peer_is}
use Rattle.wgr_laws.proofs.ChangeLemmas.{put_others, put_stands_there}

abbrev pub AllLive : ℕ → List Peer → Type 0
AllLive now peers = All (λ p. is_live now p ≡ true) peers

-- what is left of numbers, keys and leases
pub record IsNext (n : NetworkValue) (now : ℕ) (done : Reply × NetworkValue) : Type 0 where
  pub next : n.next ≤ done.1.next
  pub absent : (i : ℕ) → i < n.next → peer_of n.peers i ≡ None → peer_of done.1.peers i ≡ None
  pub keys : (i : ℕ) (p q : Peer) → peer_of n.peers i ≡ Some p → peer_of done.1.peers i ≡ Some q → q.key ≡ p.key
  pub live : AllLive now done.1.peers
  pub shows : ShowsLive now n.peers done.0

pub one_peer : (p q : Peer) → Some p ≡ Some q → p ≡ q
one_peer p q h = cc

pub same_key_at : (peers : List Peer) (i : ℕ) (p q : Peer) → peer_of peers i ≡ Some p → peer_of peers i ≡ Some q → q.key ≡ p.key
same_key_at peers i p q at_p at_q = ap (λ (p : Peer). p.key) (sym (one_peer p q (sym at_p ∙ at_q)))

-- where the peers stay
pub unmoved : (n : NetworkValue) (now : ℕ) (done : Reply × NetworkValue) → AllLive now n.peers → done.1.peers ≡ n.peers → done.1.next ≡ n.next → ShowsLive now n.peers done.0 → IsNext n now done
unmoved n now done live same next shows = record {
  next = omega (arith, next);
  absent = λ i l none. ap (λ (ps : List Peer). peer_of ps i) same ∙ none;
  keys = λ i p q at_p at_q. same_key_at n.peers i p q at_p (sym (ap (λ (ps : List Peer). peer_of ps i) same) ∙ at_q);
  live = subst (AllLive now) (sym same) live;
  shows = shows;
}

pub appended_absent : (peers : List Peer) (p : Peer) (i : ℕ) → peer_of peers i ≡ None → nat_eq p.number i ≡ false → peer_of (peers ++ p ∷ []) i ≡ None
appended_absent [] p i none apart = ap (λ b. cond b (Some p) None) apart
appended_absent (q ∷ peers) p i none apart = elim (decide (nat_eq q.number i)) [
  | inl here ↦ let bad : Some q ≡ None = sym (ap (λ b. cond b (Some q) (peer_of peers i)) here) ∙ none in cc
  | inr other ↦
      ap (λ b. cond b (Some q) (peer_of (peers ++ p ∷ []) i)) other
      ∙ appended_absent peers p i (sym (ap (λ b. cond b (Some q) (peer_of peers i)) other) ∙ none) apart
]

pub appended_found : (peers : List Peer) (p q : Peer) (i : ℕ) → peer_of peers i ≡ Some q → peer_of (peers ++ p ∷ []) i ≡ Some q
appended_found [] p q i found = cc
appended_found (e ∷ peers) p q i found = elim (decide (nat_eq e.number i)) [
  | inl here ↦
      ap (λ b. cond b (Some e) (peer_of (peers ++ p ∷ []) i)) here
      ∙ sym (ap (λ b. cond b (Some e) (peer_of peers i)) here) ∙ found
  | inr other ↦
      ap (λ b. cond b (Some e) (peer_of (peers ++ p ∷ []) i)) other
      ∙ appended_found peers p q i (sym (ap (λ b. cond b (Some e) (peer_of peers i)) other) ∙ found)
]

pub joined_next : (n : NetworkValue) (now : ℕ) (p : Peer) → AllLive now n.peers → p.number ≡ n.next → is_live now p ≡ true
    → IsNext n now (reply.Peer (peer_view n.routes p), record n { next = n.next + 1; peers = n.peers ++ p ∷ [] })
joined_next n now p live number lives = record {
  next = omega arith;
  absent = λ i l none. appended_absent n.peers p i none (above i p.number (omega (arith, l, number)));
  keys = λ i e f at_e at_f. ap (λ (p : Peer). p.key) (sym (one_peer e f (sym (appended_found n.peers p e i at_e) ∙ at_f)));
  live = All-push (λ p. is_live now p ≡ true) n.peers p live lives;
  shows = lives;
}
  where
    above : (i m : ℕ) → i < m → nat_eq m i ≡ false
    above i m l = grind (arith, nat_tests)

-- a peer in the place of one of the same key and number
pub replaced_next : (n : NetworkValue) (now : ℕ) (p q : Peer) → AllLive now n.peers → peer_of n.peers q.number ≡ Some p → q.key ≡ p.key → is_live now q ≡ true → IsNext n now (reply.Peer (peer_view n.routes q), record n { peers = put_peer n.peers q })
replaced_next n now p q live stands key lives = record {
  next = omega arith;
  absent = λ i l none. put_others n.peers q i (elsewhere i none) ∙ none;
  keys = λ i e f at_e at_f. elim (decide (nat_eq q.number i)) [
    | inl here ↦
        let same = nat_eq_is q.number i here in
        let f_is : q ≡ f = one_peer q f (sym (put_stands_there n.peers q) ∙ ap (peer_of (put_peer n.peers q)) same ∙ at_f) in
        let e_is : p ≡ e = one_peer p e (sym stands ∙ ap (peer_of n.peers) same ∙ at_e) in
        ap (λ (p : Peer). p.key) (sym f_is) ∙ key ∙ ap (λ (p : Peer). p.key) e_is
    | inr apart ↦ same_key_at n.peers i e f at_e (sym (put_others n.peers q i apart) ∙ at_f)
  ];
  live = put_all (λ p. is_live now p ≡ true) (λ e. nat_lt e.number q.number) (λ e. nat_eq e.number q.number) n.peers q live lives;
  shows = lives;
}
  where
    elsewhere : (i : ℕ) → peer_of n.peers i ≡ None → nat_eq q.number i ≡ false
    elsewhere i none = elim (decide (nat_eq q.number i)) [
      | inr apart ↦ apart
      | inl here ↦ let bad : Some p ≡ None = sym stands ∙ ap (peer_of n.peers) (nat_eq_is q.number i here) ∙ none in cc
    ]

-- ---- one network after another

-- what a later network has of numbers and keys
pub record IsLater (n m : NetworkValue) : Type 0 where
  pub next : n.next ≤ m.next
  pub absent : (i : ℕ) → i < n.next → peer_of n.peers i ≡ None → peer_of m.peers i ≡ None
  pub keys : (i : ℕ) (p q : Peer) → peer_of n.peers i ≡ Some p → peer_of m.peers i ≡ Some q → q.key ≡ p.key

pub later_self : (n : NetworkValue) → IsLater n n
later_self n = record { next = omega arith; absent = λ i l none. none; keys = λ i p q at_p at_q. same_key_at n.peers i p q at_p at_q }

pub later_on : (n m o : NetworkValue) → IsNetwork n → IsLater n m → IsLater m o → IsLater n o
later_on n m o is first then = record {
  next = omega (arith, first.next, then.next);
  absent = λ i l none. then.absent i (omega (arith, l, first.next)) (first.absent i l none);
  keys = λ i p q at_p at_q. by_peer i p q at_p at_q (peer_of m.peers i) refl;
}
  where
    by_peer : (i : ℕ) (p q : Peer) → peer_of n.peers i ≡ Some p → peer_of o.peers i ≡ Some q → (e : Option Peer) → peer_of m.peers i ≡ e → q.key ≡ p.key
    by_peer i p q at_p at_q (Some e) at_e = then.keys i e q at_e at_q ∙ first.keys i p e at_p at_e
    by_peer i p q at_p at_q None none =
        let member = peer_is (IsMember n) n.peers i p is.members at_p in
        let given : i < n.next = omega (arith, member.0.numbered.1, member.1) in
        let bad : None ≡ Some q = sym (then.absent i (omega (arith, given, first.next)) none) ∙ at_q in cc
